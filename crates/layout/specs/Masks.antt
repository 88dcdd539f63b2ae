-- Question 3 by the masks of the items before, as the code keeps them.
use Rattle.std.specs.Prelude.{ℕ, Bool, true, not, ◌&&◌, List, length, ◌==◌, nat_le, nat_lt, slice_index}
use Rattle.base.specs.Octets.{bit}
use Rattle.layout.specs.Items.{ItemGovernor, ungoverned, governed_by}

abbrev pub governor_fits_masks : ItemGovernor → List ℕ → Bool
governor_fits_masks ungoverned ms = true
governor_fits_masks (governed_by g b) ms = nat_lt g (length ms) && (bit b (slice_index ms g) == 1 && not (g == 0 && nat_le 4 b))
