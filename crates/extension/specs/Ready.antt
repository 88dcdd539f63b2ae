-- What the code needs to insert an item: space, and a governor that is below or among the added items.
use Rattle.std.specs.Prelude.{ℕ, ◌+◌, ◌<◌, ◌≤◌}
use Rattle.layout.specs.Items.{ItemGovernor, ungoverned, governed_by}

abbrev pub Within : ℕ → ItemGovernor → Type 0
Within n ungoverned = Unit {0}
Within n (governed_by g b) = g < n

-- over n items below, c being added
pub record Ready (n c : ℕ) (g : ItemGovernor) : Type 0 where
  pub few : n ≤ 64
  pub room : c < 16
  pub within : Within (n + c) g
