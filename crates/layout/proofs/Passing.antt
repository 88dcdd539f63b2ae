-- What a yes to questions 1 to 3 says.
use Rattle.std.proofs.Common.{◌≡◌, ℕ, ◌≤◌, true, length, arith}
use Rattle.std.proofs.lemmas.Bool.Decides.{nat_tests}
use Rattle.base.specs.Answers.{gives, ask}
use Rattle.base.proofs.Asking.{ask_yes, ask_no, asked_yes}
use Rattle.layout.specs.Items.{Meaning, item_at}
use Rattle.layout.specs.Questions.{may_lead, first_misfit, lawful}

-- questions asked one after another, each a test on numbers
pub ruleset asking = (ask_yes, ask_no, nat_tests)

-- what a lawful layout is, answer by answer
pub record Passes (m : Meaning) : Type 0 where
  pub some : 1 ≤ length m.items
  pub few : length m.items ≤ 64
  pub leads : may_lead (item_at m.items 0) ≡ true
  pub fit : first_misfit m.items ≡ length m.items

pub passes_from : (o : ℕ) (m : Meaning) → lawful o m ≡ gives tt → Passes m
unfolding lawful ask
passes_from o m e = record {
  some = grind (arith, asking);
  few = grind (arith, asking);
  leads = grind (arith, asking);
  fit = grind (arith, asking);
}

-- a yes to each makes a layout lawful, whatever its origin
pub lawful_from : (m : Meaning) → Passes m → (o : ℕ) → lawful o m ≡ gives tt
unfolding lawful
lawful_from m p o = grind (arith, asking, p.some, p.few, p.leads, p.fit)

pub lawful_any : (m : Meaning) (o : ℕ) → lawful o m ≡ gives tt → (p : ℕ) → lawful p m ≡ gives tt
lawful_any m o e = lawful_from m (passes_from o m e)
