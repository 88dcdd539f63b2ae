-- Plain form: all spare bits of a frame's present octets are 0, and its tail is at most three octets, all 0.
use Rattle.std.specs.Prelude.{ℕ, ◌-◌, Bool, true, ◌&&◌, List, [], ◌∷◌, length, ◌==◌, bit_and, nat_le}
use Rattle.base.specs.Octets.{big_endian}
use Rattle.layout.specs.Items.{ItemKind, bits_octet, a_number, ItemMeaning}
use Rattle.frame.specs.Pieces.{Cut}

-- the spare bits of a piece: those of a bits octet that are not named
abbrev pub spare_as : ItemKind → ℕ → List ℕ → ℕ
spare_as bits_octet mask c = bit_and (big_endian c) (255 - mask)
spare_as a_number mask c = 0

abbrev pub spare_bits : ItemMeaning → List ℕ → ℕ
spare_bits i c = spare_as i.kind i.mask c

abbrev pub all_clear : List ItemMeaning → List (List ℕ) → Bool
all_clear [] cs = true
all_clear (i ∷ is) [] = true
all_clear (i ∷ is) (c ∷ cs) = spare_bits i c == 0 && all_clear is cs

abbrev pub all_zero : List ℕ → Bool
all_zero [] = true
all_zero (o ∷ os) = o == 0 && all_zero os

abbrev pub plain : List ItemMeaning → Cut → Bool
plain is c = all_clear is c.pieces && (nat_le (length c.tail) 3 && all_zero c.tail)
