-- What an extension means: the layout below, with bits named and items added.
use Rattle.std.specs.Prelude.{ℕ, cond, List, [], ◌∷◌, ◌++◌, map, length, bit_or, nat_le}
use Rattle.layout.specs.Items.{ItemKind, bits_octet, a_number, ItemMeaning, Meaning}
use Rattle.layout.specs.Tables.{NamedItem}

-- what an extension adds: a mask for each place below, and items with their names
pub record Extras : Type 0 where
  pub masks : List ℕ
  pub added : List NamedItem

-- the mask of an item, with the bits of m joined to it in a bits octet
abbrev pub joined_mask : ItemKind → ℕ → ℕ → ℕ
joined_mask bits_octet old m = bit_or old m
joined_mask a_number old m = old

-- an item, with the bits of m named too in a bits octet
abbrev pub named_too : ℕ → ItemMeaning → ItemMeaning
named_too m i =
    record { kind = i.kind; governor = i.governor; len = i.len; mask = joined_mask i.kind i.mask m; limit = i.limit }

-- a list of items with the masks joined in its bits octets
abbrev pub with_masks : List ℕ → List ItemMeaning → List ItemMeaning
with_masks [] is = is
with_masks (m ∷ ms) [] = []
with_masks (m ∷ ms) (i ∷ is) = named_too m i ∷ with_masks ms is

abbrev pub added_items : Extras → List ItemMeaning
added_items x = map (λ i. i.item) x.added

-- the list below with the masks joined, then the added items; over more than 64 items the list below alone
abbrev pub extended : Meaning → Extras → Meaning
extended m x =
    cond (nat_le (length m.items) 64)
    (record { pdu_type = m.pdu_type; items = with_masks x.masks m.items ++ added_items x })
    m

-- the names below, then those of the added items
abbrev pub extended_names : ℕ → List (List ℕ) → Extras → List (List ℕ)
extended_names n ns x = cond (nat_le n 64) (ns ++ map (λ i. i.name) x.added) ns
