-- The published tables: their items may exist and pass questions 1 to 3, by one computed test over each whole table.
use Rattle.std.proofs.Common.{◌≡◌, ℕ, ◌<◌, true, length, refl}
use Rattle.base.specs.Answers.{gives, ask}
use Rattle.layout.specs.declared.table.Published.{Published}
use Rattle.layout.specs.declared.table.Published.TheVariants.{Dl16, Ul161, Ul163, Ul19}
use Rattle.layout.specs.Items.{item_at, may_exist}
use Rattle.layout.specs.Questions.{lawful}
use Rattle.layout.specs.Tables.{published_items, published_meaning, TablesStand}
use Rattle.layout.proofs.Made.{each_may_exist}

pub published_made : (p : Published) (j : ℕ) → j < length (published_items p) → may_exist (item_at (published_items p) j) ≡ true
published_made Dl16 = each_may_exist (published_items Dl16) refl
published_made Ul161 = each_may_exist (published_items Ul161) refl
published_made Ul163 = each_may_exist (published_items Ul163) refl
published_made Ul19 = each_may_exist (published_items Ul19) refl

pub published_lawful : (p : Published) (o : ℕ) → lawful o (published_meaning p) ≡ gives tt
unfolding lawful ask
published_lawful Dl16 o = refl
published_lawful Ul161 o = refl
published_lawful Ul163 o = refl
published_lawful Ul19 o = refl

pub tables_stand : TablesStand
tables_stand p = (published_made p, published_lawful p)

-- the same for a tactic, part by part
pub ruleset published_stands = (published_made, published_lawful)
