-- Hexadecimal pairs: the tests of the code tell them, and each pair writes one octet.
use Rattle.std.proofs.Common.{◌≡◌, ℕ, ◌+◌, ◌-◌, ◌*◌, ◌/◌, ◌%◌, ◌<◌, ◌≤◌, true, cond, ltb, List, [], ◌∷◌, length, refl, ap, ◌∙◌, ap₂, arith}
use Rattle.std.proofs.lemmas.Bool.{and_parts, and_from}
use Rattle.std.proofs.lemmas.Bool.Decides.{nat_tests}
use Rattle.base.specs.Octets.{Octets}
use Rattle.bench.specs.Lines.{hex_digit, hex_pairs}
use Rattle.bench.specs.Tests.{is_hex_digit, are_hex_digits, are_hex_pairs}

-- a digit below 16 is written and told
pub is_digit : (d : ℕ) → d < 16 → is_hex_digit (hex_digit d) ≡ true
is_digit d h = grind (arith, nat_tests)

-- what is told to be a digit is one
pub digit_of : (c : ℕ) → is_hex_digit c ≡ true → (d : ℕ) × (d < 16) × (c ≡ hex_digit d)
digit_of c e = (cond (ltb c 65) (c - 48) (c - 55), grind (arith, nat_tests), grind (arith, nat_tests))

-- pairs of digits write octets
pub record Written (cs : List ℕ) : Type 0 where
  pub octets : List ℕ
  pub are : Octets octets
  pub text : cs ≡ hex_pairs octets
  pub half : 2 * length octets ≡ length cs

pub written : (cs : List ℕ) → are_hex_digits cs ≡ true → length cs % 2 ≡ 0 → Written cs
written [] e h = record { octets = []; are = tt; text = refl; half = refl }
written (a ∷ []) e h = absurd (let b : ⊥ = omega arith in b)
written (a ∷ b ∷ cs) e h =
    let p = and_parts (is_hex_digit a) _ e in
    let q = and_parts (is_hex_digit b) (are_hex_digits cs) p.1 in
    let x = digit_of a p.0 in
    let y = digit_of b q.0 in
    let w = written cs q.1 (omega arith) in
    let o : ℕ = x.0 * 16 + y.0 in
    let hi : x.0 ≡ (x.0 * 16 + y.0) / 16 = omega (arith, x.1, y.1) in
    let lo : y.0 ≡ (x.0 * 16 + y.0) % 16 = omega (arith, x.1, y.1) in
    record {
      octets = o ∷ w.octets;
      are = (omega (arith, x.1, y.1), w.are);
      text =
          ap₂ (λ (s t : ℕ). s ∷ t ∷ cs) (x.2 ∙ ap hex_digit hi) (y.2 ∙ ap hex_digit lo)
          ∙ ap (λ (l : List ℕ). hex_digit (o / 16) ∷ hex_digit (o % 16) ∷ l) w.text;
      half = omega (arith, w.half);
    }

-- octets are written as pairs of digits
pub length_pairs : (os : List ℕ) → length (hex_pairs os) ≡ 2 * length os
length_pairs [] = refl
length_pairs (o ∷ os) = omega (arith, length_pairs os)

pub digits_of : (os : List ℕ) → Octets os → are_hex_digits (hex_pairs os) ≡ true
digits_of [] h = refl
digits_of (o ∷ os) h =
    and_from _ _ (is_digit (o / 16) (omega (arith, h.0))) (and_from _ _ (is_digit (o % 16) (omega arith)) (digits_of os h.1))

pub are_pairs : (os : List ℕ) → Octets os → 1 ≤ length os → length os ≤ 9216 → are_hex_pairs (hex_pairs os) ≡ true
are_pairs os h some most =
    let l = length_pairs os in
    let d = digits_of os h in
    grind (arith, nat_tests)
