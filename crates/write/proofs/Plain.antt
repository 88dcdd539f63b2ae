-- Plain form, item by item: what it says of a piece's spare bits and of the tail.
use Rattle.std.proofs.Common.{◌≡◌, ℕ, zero, suc, ◌-◌, ◌%◌, ◌^◌, ◌<◌, ◌≤◌, true, eqb, List, [], ◌∷◌, ◌++◌, length, replicate, refl, ap, subst, ap₂, ⊎_elim, arith}
use native.Mathlib.Nat.{zero-div}
use lib.Bits.{bit_and, and_le_l}
use Rattle.std.proofs.lemmas.List.{take_at, drop_at}
use Rattle.std.proofs.lemmas.Bool.{and_parts, eqb-true, cases_lt}
use Rattle.base.specs.Octets.{bit, Octets, big_endian}
use Rattle.base.proofs.Bits.{bit-bit_and, bit_not, bit_ext, bit_le}
use Rattle.base.proofs.Writing.{octets_take, octets_drop}
use Rattle.layout.specs.Items.{ItemKind, bits_octet, a_number, ItemMeaning, item_at}
use Rattle.frame.specs.Pieces.{joined, piece}
use Rattle.frame.specs.Plain.{spare_as, spare_bits, all_clear, all_zero}

-- a bit that a mask lacks is 0 where no such bit is set
clear_bit : (v m : ℕ) → m < 256 → bit_and v (255 - m) ≡ 0 → (b : ℕ) → b < 8 → bit b m ≡ 0 → bit b v ≡ 0
clear_bit v m hm e b hb z = omega (arith, bit-bit_and b v (255 - m), ap (bit b) e, none, bit_not m b hm hb, bit_le b v)
  where
    none : bit b 0 ≡ 0
    none = ap (λ (x : ℕ). x % 2) (zero-div (2 ^ b))

-- so the mask takes nothing away
pub masked_same : (v m : ℕ) → v < 256 → m < 256 → bit_and v (255 - m) ≡ 0 → bit_and v m ≡ v
masked_same v m hv hm e =
    bit_ext (bit_and v m) v (omega (arith, and_le_l v m)) hv
    (λ k l. ⊎_elim (λ (z : bit k m < 1). omega (arith, bit-bit_and k v m, clear_bit v m hm e k l (omega arith)))
    (λ (z : 1 ≤ bit k m). omega (arith, bit-bit_and k v m, bit_le k v, bit_le k m)) (cases_lt (bit k m) 1))

pub clear_at : (is : List ItemMeaning) (cs : List (List ℕ)) → length cs ≡ length is → all_clear is cs ≡ true
    → (j : ℕ) → j < length is → spare_bits (item_at is j) (piece cs j) ≡ 0
clear_at [] cs l h j k = absurd (omega arith)
clear_at (i ∷ is) [] l h j k = absurd (omega arith)
clear_at (i ∷ is) (c ∷ cs) l h zero k = eqb-true _ _ (and_parts _ _ h).0
clear_at (i ∷ is) (c ∷ cs) l h (suc j) k = clear_at is cs (omega arith) (and_parts (eqb (spare_bits i c) 0) _ h).1 j (omega arith)

pub spare_is : (k : ItemKind) (m : ℕ) (c : List ℕ) → spare_as k m c ≡ 0 → k ≡ bits_octet → bit_and (big_endian c) (255 - m) ≡ 0
spare_is bits_octet m c h e = h
spare_is a_number m c h e = let z : ◌≡◌ {A = ℕ} 0 1 = cc in absurd (omega arith)

-- a tail of zeros
pub zeros_are : (t : List ℕ) → all_zero t ≡ true → t ≡ replicate (length t) 0
zeros_are [] h = refl
zeros_are (o ∷ t) h = ap₂ ◌∷◌ (eqb-true o 0 (and_parts _ _ h).0) (zeros_are t (and_parts _ _ h).1)

-- octets in parts
pub octets_front : (a b : List ℕ) → Octets (a ++ b) → Octets a
octets_front a b h = subst Octets (take_at a b (length a) refl) (octets_take (length a) (a ++ b) h)

octets_back : (a b : List ℕ) → Octets (a ++ b) → Octets b
octets_back a b h = subst Octets (drop_at a b (length a) refl) (octets_drop (length a) (a ++ b) h)

pub octets_piece : (cs : List (List ℕ)) → Octets (joined cs) → (j : ℕ) → Octets (piece cs j)
octets_piece [] h j = tt
octets_piece (c ∷ cs) h zero = octets_front c (joined cs) h
octets_piece (c ∷ cs) h (suc j) = octets_piece cs (octets_back c (joined cs) h) j

pub octet_small : (c : List ℕ) → Octets c → length c ≤ 1 → big_endian c < 256
octet_small [] h l = omega arith
octet_small (o ∷ []) h l = omega (arith, h.0)
octet_small (o ∷ p ∷ c) h l = absurd (omega arith)
