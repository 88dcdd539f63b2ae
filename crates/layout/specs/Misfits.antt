-- Question 3 over a list of items: all governors fit, or the first that does not.
use Rattle.std.specs.Prelude.{◌≡◌, ℕ, ◌<◌, List, length}
use Rattle.layout.specs.Items.{ItemMeaning, EachMayExist}
use Rattle.layout.specs.Questions.{first_misfit}

-- every item may exist, and its governor fits
pub record AllFit (is : List ItemMeaning) : Type 0 where
  pub fit : first_misfit is ≡ length is
  pub exist : EachMayExist is

-- item i is the first whose governor does not fit
pub record MisfitsFirst (is : List ItemMeaning) (i : ℕ) : Type 0 where
  pub first : first_misfit is ≡ i
  pub within : i < length is
