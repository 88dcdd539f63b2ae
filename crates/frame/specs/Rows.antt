-- The rows that read shows: for each item whether it is present, its place in the packet, its value.
use Rattle.std.specs.Prelude.{ℕ, suc, ◌+◌, true, false, List, [], ◌∷◌, ◌++◌, length, drop, bit_and}
use Rattle.base.specs.Answers.{Answer, refused, gives}
use Rattle.base.specs.Octets.{big_endian}
use Rattle.layout.specs.Items.{ItemKind, bits_octet, a_number, ItemMeaning}
use Rattle.frame.specs.declared.row.Row.{Row}
use Rattle.frame.specs.Pieces.{Cut}

-- an absent item has place and value 0
abbrev pub absent : Row
absent = record { present = false; place = 0; value = 0 }

-- a bits octet's value has its spare bits cleared
abbrev pub shown_as : ItemKind → ℕ → ℕ → ℕ
shown_as bits_octet mask v = bit_and v mask
shown_as a_number mask v = v

-- the row of an item whose piece stands at place p
abbrev pub row_of : ItemMeaning → ℕ → List ℕ → Row
row_of i p [] = absent
row_of i p (o ∷ os) = record { present = true; place = p; value = shown_as i.kind i.mask (big_endian (o ∷ os)) }

-- the rows of items whose pieces stand one after another from place p
abbrev pub rows_of : List ItemMeaning → ℕ → List (List ℕ) → List Row
rows_of [] p cs = []
rows_of (i ∷ is) p [] = []
rows_of (i ∷ is) p (c ∷ cs) = row_of i p c ∷ rows_of is (p + length c) cs

-- how many items are present
abbrev pub how_many : List (List ℕ) → ℕ
how_many [] = 0
how_many ([] ∷ cs) = how_many cs
how_many ((o ∷ os) ∷ cs) = suc (how_many cs)

-- A table with a row for each item of a frame that is cut at place p; the rows past them, and all where it is refused, stay.
abbrev pub filled : List ItemMeaning → ℕ → Answer Cut → List Row → List Row
filled is p (refused r) t = t
filled is p (gives w) t = rows_of is p w.pieces ++ drop (length is) t
