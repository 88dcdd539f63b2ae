-- What question 3 says of each governor of a lawful layout, and that this is all it says.
use Rattle.std.proofs.Common.{◌≡◌, ℕ, zero, suc, ◌+◌, ◌<◌, true, List, [], ◌∷◌, length, refl, add-zero, zero-add, add-suc, arith}
use Rattle.std.proofs.Math.Nat.{suc-add}
use Rattle.std.proofs.lemmas.Bool.Decides.{nat_tests}
use Rattle.base.specs.Answers.{gives, first_no}
use Rattle.base.specs.Octets.{bit}
use Rattle.layout.specs.Items.{ItemKind, bits_octet, a_number, ItemGovernor, ungoverned, governed_by, ItemMeaning, Meaning, is_bits, item_at}
use Rattle.layout.specs.Questions.{governor_fits, governors_fit, first_misfit, lawful}
use Rattle.layout.proofs.Firsts.{first_step, yes_more}
use Rattle.layout.proofs.Passing.{passes_from}

-- bit b of item g governs item n
pub record Hook (is : List ItemMeaning) (n g b : ℕ) : Type 0 where
  pub early : g < n
  pub octet : (item_at is g).kind ≡ bits_octet
  pub named : bit b (item_at is g).mask ≡ 1
  pub low : g ≡ 0 → b < 4

abbrev pub Hooked : List ItemMeaning → ℕ → ItemGovernor → Type 0
Hooked is n ungoverned = Unit {0}
Hooked is n (governed_by g b) = Hook is n g b

pub bits_is : (k : ItemKind) → is_bits k ≡ true → k ≡ bits_octet
bits_is bits_octet e = refl
bits_is a_number e = absurd (cc)

hooked : (is : List ItemMeaning) (n : ℕ) (g : ItemGovernor) → governor_fits is n g ≡ true → Hooked is n g
hooked is n ungoverned e = tt
hooked is n (governed_by g b) e = grind (arith, nat_tests, bits_is)

all_hooked : (is : List ItemMeaning) (n : ℕ) (rest : List ItemMeaning) → first_no (governors_fit is n rest) ≡ length rest
    → (j : ℕ) → j < length rest → Hooked is (n + j) (item_at rest j).governor
all_hooked is n [] e j l = absurd (omega arith)
all_hooked is n (i ∷ rest) e zero l = rw add-zero (hooked is n i.governor (first_step _ _ _ e).0)
all_hooked is n (i ∷ rest) e (suc j) l =
    rw (add-suc, ← suc-add) (all_hooked is (suc n) rest (first_step _ _ _ e).1 j (omega arith))

pub hooks : (o : ℕ) (m : Meaning) → lawful o m ≡ gives tt → (j : ℕ) → j < length m.items → Hooked m.items j (item_at m.items j).governor
hooks o m e j l = rw zero-add at (all_hooked m.items 0 m.items (passes_from o m e).fit j l)

fits_hooked : (is : List ItemMeaning) (n : ℕ) (g : ItemGovernor) → Hooked is n g → governor_fits is n g ≡ true
fits_hooked is n ungoverned h = refl
fits_hooked is n (governed_by g b) h = grind (arith, nat_tests, h.early, h.octet, h.named, h.low)

fit_hooked : (is : List ItemMeaning) (n : ℕ) (rest : List ItemMeaning)
    → ((j : ℕ) → j < length rest → Hooked is (n + j) (item_at rest j).governor) → first_no (governors_fit is n rest) ≡ length rest
fit_hooked is n [] h = refl
fit_hooked is n (i ∷ rest) h =
    yes_more _ _ _ (fits_hooked is n i.governor (rw add-zero at (h 0 (omega arith))))
    (fit_hooked is (suc n) rest
    (λ j l. rw (add-suc, ← suc-add) at (h (suc j) (omega arith))))

-- where each governor is hooked, none misfits
pub all_fit : (is : List ItemMeaning) → ((j : ℕ) → j < length is → Hooked is j (item_at is j).governor) → first_misfit is ≡ length is
all_fit is h = fit_hooked is 0 is (λ j l. rw zero-add (h j l))
