-- A list of items given one after another.
use Rattle.std.specs.Prelude.{◌≡◌, ℕ, ◌+◌, ◌<◌, ◌≤◌, List, length, Some, Option, MatchOption}
use Rattle.std.specs.List.{slice_get}
use Rattle.layout.specs.declared.item.Item.{Item}
use Rattle.layout.specs.Items.{ItemMeaning}
use Rattle.layout.specs.Views.{meant}

-- item i is given, and it goes on at j
pub record ItemGiven (is : List ItemMeaning) (i : ℕ) (x : Item) (j : ℕ) : Type 0 where
  pub within : i < length is
  pub item : Some (meant x) ≡ slice_get is i
  pub next : j ≡ i + 1

-- no item is left from number i on, and so it stays
pub record NoneLeft (is : List ItemMeaning) (i j : ℕ) : Type 0 where
  pub past : length is ≤ i
  pub next : j ≡ i

abbrev pub GivesItem : List ItemMeaning → ℕ → Option Item → ℕ → Type 0
GivesItem is i x j = MatchOption x (NoneLeft is i j) (λ y. ItemGiven is i y j)
