-- What the questions of building say of the item that is added.
use Rattle.std.proofs.Common.{◌≡◌, ℕ, ◌+◌, ◌<◌, ◌≤◌, Bool, true, ◌&&◌, ltb, length, sym, subst, arith}
use Rattle.std.proofs.lemmas.Bool.Decides.{nat_tests}
use Rattle.std.proofs.lemmas.Bool.{ltb-true, and_parts}
use Rattle.layout.specs.Items.{ItemGovernor, ungoverned, governed_by, Meaning}
use Rattle.extension.specs.Extended.{Extras}
use Rattle.extension.specs.Building.{may_hang_on}
use Rattle.extension.specs.Ready.{Within, Ready}

hang_within : (m : Meaning) (x : Extras) (g b : ℕ) → may_hang_on m x (governed_by g b) ≡ true → g < length m.items + length x.added
hang_within m x g b e = grind (arith, nat_tests)

-- the governor of an accepted item is there
within_from : (m : Meaning) (x : Extras) (g : ItemGovernor) → may_hang_on m x g ≡ true → Within (length m.items + length x.added) g
within_from m x ungoverned e = tt
within_from m x (governed_by g b) e = hang_within m x g b e

-- what a yes to 26 and 27 says, over n items below and with c added
pub ready_from : (m : Meaning) (x : Extras) (g : ItemGovernor) (n c : ℕ) (t : Bool) → n ≡ length m.items → c ≡ length x.added → n ≤ 64
    → true ≡ (ltb c 16 && t) → true ≡ may_hang_on m x g → Ready n c g
ready_from m x g n c t e f few s h =
    record {
      few = few;
      room = ltb-true c 16 (and_parts (ltb c 16) _ (sym s)).0;
      within = subst (λ (k : ℕ). Within k g) (omega arith) (within_from m x g (sym h));
    }
