-- A part of the input, midway: the lines so far are answered.
use Rattle.std.proofs.Common.{◌≡◌, ℕ, List, [], ◌∷◌, ◌++◌, refl, ap, ◌∙◌, subst, append_assoc, arith}
use Rattle.bench.specs.declared.session.Session.{Session}
use Rattle.bench.specs.Inputs.{NoEnd}
use Rattle.bench.specs.Sessions.{AnswersLine, AnswersLines, ended, EachNoEnd, kept, Fed}
use Rattle.bench.proofs.Keeping.{kept_kept, answers_kept, answers_push, ended_push, each_push, no_end_append}

pub record Feeding (start input : List ℕ) (s t : Session) (rest : List ℕ) : Type 0 where
  pub lines : List (List ℕ)
  pub begun : List ℕ
  pub octets : start ++ input ≡ ended lines ++ (begun ++ rest)
  pub whole : EachNoEnd lines
  pub open_line : NoEnd begun
  pub keeps : t.line.items ≡ kept begun
  pub answers : AnswersLines lines s.desk t.desk

pub feeding_none : (start input : List ℕ) (s : Session) → NoEnd start → s.line.items ≡ kept start → Feeding start input s s input
feeding_none start input s n k = record { lines = []; begun = start; octets = refl; whole = tt; open_line = n; keeps = k; answers = refl }

module _ (start input : List ℕ) (s t : Session) (rest : List ℕ) (f : Feeding start input s t rest) where
  pub feeding_more : (u : Session) (line behind : List ℕ) → rest ≡ line ++ 10 ∷ behind → NoEnd line
      → AnswersLine (t.line.items ++ line) t.desk u.desk → u.line.items ≡ []
      → Feeding start input s u behind
  feeding_more u line behind e n a k = record {
    lines = f.lines ++ (f.begun ++ line) ∷ [];
    begun = [];
    octets = rw (f.octets, e, ended_push, append_assoc);
    whole = each_push f.lines (f.begun ++ line) f.whole (no_end_append f.begun line f.open_line n);
    open_line = λ i h z. absurd (let b : ⊥ = omega arith in b);
    keeps = k;
    answers = answers_push f.lines (f.begun ++ line) s.desk t.desk u.desk f.answers
        (answers_kept f.begun line t.desk u.desk (subst (λ (x : List ℕ). AnswersLine (x ++ line) t.desk u.desk) f.keeps a));
  }

  pub fed : (u : Session) → NoEnd rest → u.desk ≡ t.desk → u.line.items ≡ kept (t.line.items ++ rest) → Fed start input s u
  fed u n d k = record {
    lines = f.lines;
    next = f.begun ++ rest;
    octets = f.octets;
    whole = f.whole;
    open_line = no_end_append f.begun rest f.open_line n;
    keeps = k ∙ ap (λ (x : List ℕ). kept (x ++ rest)) f.keeps ∙ kept_kept f.begun rest;
    answers = rw d f.answers;
  }
