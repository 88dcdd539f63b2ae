-- Items may exist: an item of the code by its invariant, a table's by one test over the whole table.
use Rattle.std.proofs.Common.{◌≡◌, ℕ, zero, suc, ◌<◌, Bool, true, ◌&&◌, List, [], ◌∷◌, length, arith}
use Rattle.std.proofs.lemmas.Bool.Decides.{nat_tests}
use Rattle.layout.specs.declared.item.Item.{Item}
use Rattle.layout.specs.Items.{ItemMeaning, may_exist, item_at}
use Rattle.layout.specs.Views.{meant}

abbrev pub all_may_exist : List ItemMeaning → Bool
all_may_exist [] = true
all_may_exist (i ∷ is) = may_exist i && all_may_exist is

pub each_may_exist : (is : List ItemMeaning) → all_may_exist is ≡ true → (j : ℕ) → j < length is → may_exist (item_at is j) ≡ true
each_may_exist [] e j h = absurd (omega arith)
each_may_exist (i ∷ is) e zero h = grind (arith, nat_tests)
each_may_exist (i ∷ is) e (suc j) h = grind (arith, nat_tests, each_may_exist is)

-- what the code holds as an item may exist
pub item_may_exist : (i : Item) → may_exist (meant i) ≡ true
item_may_exist i = grind (arith, nat_tests, i.bits, i.number, i.octet, i.some, i.most)

-- the mask of an item that may exist is an octet
pub mask_small : (i : ItemMeaning) → may_exist i ≡ true → i.mask < 256
mask_small i m = grind (arith, nat_tests)
