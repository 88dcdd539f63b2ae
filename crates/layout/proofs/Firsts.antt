-- The first no in a list of answers, place by place.
use Rattle.std.proofs.Common.{◌≡◌, ℕ, zero, suc, ◌+◌, ◌≤◌, Bool, true, false, List, [], ◌∷◌, map, length, drop, Some, refl, arith}
use Rattle.std.specs.List.{slice_get}
use Rattle.std.proofs.lemmas.List.{drop_all}
use Rattle.base.specs.Answers.{first_no}
use Rattle.layout.proofs.Nths.{drop_at_nth}

-- the first i answers are yes
abbrev pub Clear : {X : Type 0} → (X → Bool) → List X → ℕ → Type 0
Clear f xs i = first_no (map f xs) ≡ i + first_no (map f (drop i xs))

module _ {X : Type 0} (f : X → Bool) (xs : List X) where
  pub clear_none : Clear f xs 0
  clear_none = grind arith

  pub clear_more : (i : ℕ) (x : X) → Some x ≡ slice_get xs i → f x ≡ true → Clear f xs i → Clear f xs (i + 1)
  clear_more i x e y c = grind (arith, drop_at_nth)

  pub no_here : (i : ℕ) (x : X) → Some x ≡ slice_get xs i → f x ≡ false → Clear f xs i → i ≡ first_no (map f xs)
  no_here i x e n c = grind (arith, drop_at_nth)

  pub clear_all : (i : ℕ) → length xs ≤ i → Clear f xs i → i ≡ first_no (map f xs)
  clear_all i h c = grind (arith, drop_all)

pub first_step : (b : Bool) (bs : List Bool) (n : ℕ) → first_no (b ∷ bs) ≡ suc n → (b ≡ true) × (first_no bs ≡ n)
first_step true bs n e = (refl, omega arith)
first_step false bs n e = absurd (omega arith)

pub yes_more : (b : Bool) (bs : List Bool) (n : ℕ) → b ≡ true → first_no bs ≡ n → first_no (b ∷ bs) ≡ suc n
yes_more b bs n e q = grind arith

-- where the first no is behind the last place, each answer is yes
pub each_yes : {X : Type 0} (f : X → Bool) (xs : List X) → first_no (map f xs) ≡ length xs → (i : ℕ) (x : X) → Some x ≡ slice_get xs i → f x ≡ true
each_yes f [] e i x q = absurd (cc)
each_yes f (y ∷ xs) e zero x q = grind (arith, first_step (f y) (map f xs) (length xs) e)
each_yes f (y ∷ xs) e (suc i) x q = each_yes f xs (first_step _ _ _ e).1 i x q

pub all_yes : {X : Type 0} (f : X → Bool) (xs : List X) → ((i : ℕ) (x : X) → Some x ≡ slice_get xs i → f x ≡ true) → first_no (map f xs) ≡ length xs
all_yes f [] h = refl
all_yes f (y ∷ xs) h = yes_more (f y) (map f xs) (length xs) (h 0 y refl) (all_yes f xs (λ i x e. h (suc i) x e))
