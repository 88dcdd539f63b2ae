-- Questions and answers: what a yes and a no leave, and what an answer says of its questions.
use Rattle.std.proofs.Common.{◌≡◌, Bool, true, false, IsErrAnd, IfOk, IfErr, Result, Ok, Err, sym, refl, ap, ◌∙◌, subst, MatchResult}
use Rattle.base.specs.declared.refusal.Refusal.{Refusal}
use Rattle.base.specs.Answers.{Answer, refused, gives, ask, bind, answer_of}

pub never : {A : Type 0} {r : Refusal} {a : A} {P : Type 0} → gives a ≡ refused r → P
never e = absurd (cc)

pub gives_inj : {A : Type 0} {a b : A} → gives a ≡ gives b → a ≡ b
gives_inj e = cc

pub refused_inj : {A : Type 0} {a b : Refusal} → ◌≡◌ {A = Answer A} (refused a) (refused b) → a ≡ b
refused_inj e = cc

module _ {A : Type 0} (b : Bool) (r : Refusal) (next : Answer A) where
  pub ask_yes : b ≡ true → ask b r next ≡ next
  unfolding ask
  ask_yes e = ap (λ (t : Bool). ask t r next) e

  pub ask_no : b ≡ false → ask b r next ≡ refused r
  unfolding ask
  ask_no e = ap (λ (t : Bool). ask t r next) e

-- an accepted answer stands behind a yes
pub asked_yes : {A : Type 0} (b : Bool) (r : Refusal) (next : Answer A) (x : A) → ask b r next ≡ gives x → (b ≡ true) × (next ≡ gives x)
unfolding ask
asked_yes true r next x e = (refl, e)
asked_yes false r next x e = never (sym e)

pub bind_gives : {A B : Type 0} (a : Answer A) (f : A → Answer B) (x : A) → a ≡ gives x → bind a f ≡ f x
unfolding bind
bind_gives a f x e = ap (λ (t : Answer _). bind t f) e

pub bind_refused : {A B : Type 0} (a : Answer A) (f : A → Answer B) (r : Refusal) → a ≡ refused r → bind a f ≡ refused r
unfolding bind
bind_refused a f r e = ap (λ (t : Answer _). bind t f) e

-- an accepted answer stands behind an accepted one
pub bound : {A B : Type 0} (a : Answer A) (f : A → Answer B) (y : B) → bind a f ≡ gives y → (x : A) × (a ≡ gives x) × (f x ≡ gives y)
unfolding bind
bound (refused r) f y e = never (sym e)
bound (gives x) f y e = (x, refl, e)

-- what a call answers where a `?` leaves it with the fault e
pub answer_at_break : {T E A : Type 0} (f : T → A) (g : E → Refusal) (r : Result T E) (e : E) (a : Answer A)
    → IsErrAnd r (λ y. y ≡ e) → a ≡ refused (g e) → answer_of f g r ≡ a
answer_at_break f g (Ok x) e a by h = absurd by
answer_at_break f g (Err y) e a by h = ap (λ z. refused (g z)) by ∙ sym h

-- the same for a clause by cases
pub cases_at_break : {T E : Type 0} (P : T → Type 0) (Q : E → Type 0) (r : Result T E) (e : E) → IsErrAnd r (λ y. y ≡ e) → Q e → MatchResult r P Q
cases_at_break P Q (Ok x) e by h = absurd by
cases_at_break P Q (Err y) e by h = subst Q (sym by) h

-- and for a clause that speaks of results alone
pub made_at_break : {T E : Type 0} (P : T → Type 0) (r : Result T E) (e : E) → IsErrAnd r (λ y. y ≡ e) → IfOk r P
made_at_break P r e by = cases_at_break P (λ _. Unit {0}) r e by tt

-- and for one that speaks of faults alone
pub refused_at_break : {T E : Type 0} (P : E → Type 0) (r : Result T E) (e : E) → IsErrAnd r (λ y. y ≡ e) → P e → IfErr r P
refused_at_break P r e by h = cases_at_break (λ _. Unit {0}) P r e by h
