-- One header: the octets that it is made of, and what question 9 says of it.
use Rattle.std.proofs.Common.{◌≡◌, ℕ, ◌+◌, ◌-◌, ◌*◌, ◌<◌, ◌≤◌, true, false, List, [], ◌∷◌, ◌++◌, length, get_or, drop, sym, ap, ◌∙◌, append_assoc, arith, length-append}
use Rattle.std.proofs.lemmas.List.{drop_at}
use Rattle.std.proofs.lemmas.List.Edits.{length-between}
use Rattle.std.proofs.lemmas.Bool.Decides.{nat_tests}
use Rattle.std.proofs.lemmas.Grind.{common_steps}
use Rattle.base.specs.declared.refusal.Refusal.{Refusal}
use Rattle.base.specs.declared.question.Question.TheVariants as Q
use Rattle.base.specs.Answers.{refused, gives, no_to}
use Rattle.packet.specs.Chains.{header_size, header_content, next_type, behind, header_fits, size_answer}

pub fits_size : (o : List ℕ) → header_fits o ≡ true → (4 ≤ header_size o) × (header_size o ≤ length o)
fits_size o e = grind (arith, nat_tests)

size_fits : (o : List ℕ) → 0 < get_or o 0 0 → header_size o ≤ length o → header_fits o ≡ true
size_fits o a b = grind (arith, nat_tests)

-- what a yes and a no to question 9 say
pub size_gives : (o : List ℕ) (p n : ℕ) → gives n ≡ size_answer o p → (header_fits o ≡ true) × (n ≡ header_size o)
size_gives o p n e = (grind (arith, nat_tests), grind (arith, nat_tests))

pub size_refused
    : (o : List ℕ) (p : ℕ) (r : Refusal) → refused r ≡ size_answer o p → (header_fits o ≡ false) × (r ≡ no_to Q.Header p)
size_refused o p r e = (grind (arith, nat_tests), grind (arith, nat_tests))

-- a header that fits is its unit count, its content and the next type, with the rest behind
module _ (o : List ℕ) (fits : header_fits o ≡ true) where
  pub length_content : length (header_content o) + 2 ≡ header_size o
  length_content = let f = fits_size o fits in omega (arith, length-between o 1 (header_size o - 1) (omega arith))

  pub header_apart : o ≡ get_or o 0 0 ∷ (header_content o ++ next_type o ∷ behind o)
  header_apart = let f = fits_size o fits in grind (arith, common_steps)

-- and the other way round: these octets, put one after another, are a header that fits
module _ (n t : ℕ) (c r : List ℕ) (whole : 4 * n ≡ length c + 2) where
  pub header_fits_made : header_fits (n ∷ (c ++ t ∷ r)) ≡ true
  header_fits_made = size_fits (n ∷ (c ++ t ∷ r)) (omega arith) (simp length-append (omega arith))

  pub header_content_made : header_content (n ∷ (c ++ t ∷ r)) ≡ c
  header_content_made = grind (arith, common_steps)

  pub next_type_made : next_type (n ∷ (c ++ t ∷ r)) ≡ t
  next_type_made = grind (arith, common_steps)

  pub behind_made : behind (n ∷ (c ++ t ∷ r)) ≡ r
  behind_made =
      ap (λ l. drop (4 * n) (n ∷ l)) (sym (append_assoc c (t ∷ []) r))
      ∙ drop_at (n ∷ (c ++ t ∷ [])) r (4 * n) (simp length-append (omega arith))
