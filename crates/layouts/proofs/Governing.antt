-- The first item that a bit governs, among those that an iterator gives.
use Rattle.std.proofs.Common.{◌≡◌, ℕ, ◌<◌, ◌∷◌, List, length, drop, Option, Some, None, MatchOption, ◌≢◌, add-one, arith, length-drop}
use Rattle.std.specs.List.{AllWithin, HoldsAt}
use Rattle.std.proofs.lemmas.Iterator.{YieldsList}
use Rattle.std.proofs.lemmas.Iterator.Consumers.{YieldsList-from_shown}
use Rattle.layout.specs.declared.item.Item.{Item}
use Rattle.layout.specs.Itemized.{GivesItem}
use Rattle.layout.specs.Items.{ItemMeaning, governed_by, no_item}
use Rattle.layout.specs.Views.{meant}
use Rattle.layout.proofs.Nths.{drop_at_nth}
use Rattle.layouts.specs.Roles.{Governs, NoneBelow}

-- an iterator gives what is left of its items
module _ {S : Type 0} (steps : S → Option Item → S → Type 0) (is : S → List ItemMeaning) (at : S → ℕ)
    (gives : (s t : S) (x : Option Item) → steps s x t → (is t ≡ is s) × GivesItem (is s) (at s) x (at t)) where
  pub YieldsList-from_items : (s : S) → YieldsList steps meant s (drop (at s) (is s))
  YieldsList-from_items = YieldsList-from_shown steps meant (λ s. drop (at s) (is s)) none some
    where
      none : (s t : S) → steps s None t → length (drop (at s) (is s)) ≡ 0
      none s t h = omega (arith, length-drop (at s) (is s), (gives s t None h).1.past)

      some : (s : S) (x : Item) (t : S) → steps s (Some x) t → drop (at s) (is s) ≡ meant x ∷ drop (at t) (is t)
      some s x t h =
          let k = gives s t (Some x) h in
          rw (k.0, k.1.next, add-one) (drop_at_nth (is s) (at s) (meant x) k.1.item)

module _ (item bit : ℕ) where
  abbrev pub Yes : ItemMeaning → Type 0
  Yes m = m.governor ≡ governed_by item bit

  abbrev pub No : ItemMeaning → Type 0
  No m = m.governor ≢ governed_by item bit

  pub first_governor : (is : List ItemMeaning) (r : Option ℕ) → MatchOption r (AllWithin No is 0 (length is)) (λ i. (i < length is) × HoldsAt Yes is i × AllWithin No is 0 i)
      → MatchOption r (NoneBelow is item bit (length is)) (λ j. (j < length is) × Governs is item bit j × NoneBelow is item bit j)
  first_governor is None h = λ j l. h j no_item (omega arith) l
  first_governor is (Some i) h = (h.0, h.1 no_item, λ j l. h.2 j no_item (omega arith) l)
