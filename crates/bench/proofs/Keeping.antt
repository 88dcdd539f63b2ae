-- The start of a line as it is kept, and lines answered one after another.
use Rattle.std.proofs.Common.{◌≡◌, ℕ, zero, suc, ◌+◌, ◌<◌, ◌≤◌, min, true, false, eqb, List, [], ◌∷◌, ◌++◌, length, take, sym, refl, ap, ◌∙◌, subst, ⊎_elim, append_assoc, append-nil, Result, Ok, Err, IsOk, OnOk, ◌↔◌, arith}
use lib.Seq.{take-append-add}
use Rattle.std.proofs.lemmas.List.{take_all, take_min, take-append-le, length-take, length-append}
use Rattle.std.proofs.lemmas.Bool.{cases_lt, eqb-true, eqb-false}
use Rattle.base.specs.declared.refusal.Refusal.{Refusal}
use Rattle.frame.specs.declared.row.Row.{Row}
use Rattle.layout.specs.declared.table.Published.{Published}
use Rattle.layout.specs.declared.table.Published.TheVariants.{Dl16, Ul161, Ul163, Ul19}
use Rattle.bench.specs.Inputs.{NoEnd}
use Rattle.bench.specs.Lines.{layout_text, IsNoCommand}
use Rattle.bench.specs.declared.desk.Desk.{Desk}
use Rattle.bench.specs.declared.reply.Reply.{Reply}
use Rattle.bench.specs.declared.state.Bench.{Bench}
use Rattle.bench.specs.Replies.{Answered}
use Rattle.bench.specs.Sessions.{AnswersLine, AnswersLines, ended, EachNoEnd, kept, last_line}
use Rattle.bench.proofs.Pairs.{length_pairs}

-- one part more of a line: as much as there is space for
pub kept_part : {E : Type 0} (items part new : List ℕ) (space n : ℕ) (r : Result (Unit {0}) E) → space + length items ≡ 18435 → n ≡ min space (length part)
    → (IsOk r ↔ (length items + length (take n part) ≤ 18435)) → OnOk r (new ≡ items ++ take n part) → new ≡ kept (items ++ part)
kept_part items part new space n (Ok _) e m v k =
    let s : length items + space ≡ 18435 = omega arith in
    k ∙ rw (m, take_min) (sym (take-append-add items part space) ∙ ap (λ (j : ℕ). take j (items ++ part)) s)
kept_part items part new space n (Err _) e m v k = let q : false ≡ true = v.1 (omega (arith, length-take n part)) in cc

pub kept_kept : (l p : List ℕ) → kept (kept l ++ p) ≡ kept (l ++ p)
kept_kept l p = ⊎_elim short long (cases_lt (length l) 18435)
  where
    short : length l < 18435 → kept (kept l ++ p) ≡ kept (l ++ p)
    short h = ap (λ (x : List ℕ). kept (x ++ p)) (take_all 18435 l (omega arith))

    long : 18435 ≤ length l → kept (kept l ++ p) ≡ kept (l ++ p)
    long h =
        let e : length (kept l) ≡ 18435 = omega (arith, length-take 18435 l) in
        take-append-le 18435 (kept l) p (omega arith) ∙ take_all 18435 (kept l) (omega arith) ∙ sym (take-append-le 18435 l p h)

-- a line longer than any command is none, and neither is what is kept of it
length_layout : (p : Published) → length (layout_text p) ≡ 1
length_layout Dl16 = refl
length_layout Ul161 = refl
length_layout Ul163 = refl
length_layout Ul19 = refl

none_if_long : (l : List ℕ) → 18434 < length l → IsNoCommand l
none_if_long l h = record {
  no_packet_line = λ os p. let e = ap length p.text in omega (arith, e, length_pairs os, p.most, h);
  no_read_line = λ p q. let e = ap length q in omega (arith, e, length_layout p, h);
}

-- what is kept of a line is answered as the whole line is
answered_kept : (l : List ℕ) (b a : Bench) (t u : List Row) (r : Result Reply Refusal) → Answered (kept l) b a t u r → Answered l b a t u r
answered_kept l b a t u r h = ⊎_elim short long (cases_lt (length l) 18435)
  where
    short : length l < 18435 → Answered l b a t u r
    short k = subst (λ (x : List ℕ). Answered x b a t u r) (take_all 18435 l (omega arith)) h

    long : 18435 ≤ length l → Answered l b a t u r
    long k =
        let n = none_if_long l (omega arith) in
        record {
          packet = λ os p. absurd (n.no_packet_line os p);
          read = λ p q. absurd (n.no_read_line p q);
          other = λ _. h.other (none_if_long (kept l) (omega (arith, length-take 18435 l)));
        }

pub answered_line : (x l : List ℕ) (b a : Bench) (t u : List Row) (r : Result Reply Refusal) → x ≡ kept l → Answered x b a t u r → Answered l b a t u r
answered_line x l b a t u r e h = answered_kept l b a t u r (subst (λ (y : List ℕ). Answered y b a t u r) e h)

-- what is kept of the start of a line tells as much of the whole line
module _ (l p : List ℕ) (d e : Desk) (a : AnswersLine (kept l ++ p) d e) where
  pub answers_kept : AnswersLine (l ++ p) d e
  answers_kept = ⊎_elim short long (cases_lt (length l) 18435)
    where
      short : length l < 18435 → AnswersLine (l ++ p) d e
      short h = subst (λ (x : List ℕ). AnswersLine (x ++ p) d e) (take_all 18435 l (omega arith)) a

      long : 18435 ≤ length l → AnswersLine (l ++ p) d e
      long h =
          let n = none_if_long (l ++ p) (omega (arith, length-append l p)) in
          record {
            reply = a.reply;
            answered = record {
              packet = λ os h. absurd (n.no_packet_line os h);
              read = λ q h. absurd (n.no_read_line q h);
              other = λ _. a.answered.other (none_if_long (kept l ++ p) (omega (arith, length-append (kept l) p, length-take 18435 l)));
            };
            text = a.text;
          }

pub answers_whole : (l x : List ℕ) (d e : Desk) → x ≡ kept l → AnswersLine x d e → AnswersLine l d e
answers_whole l x d e q a =
    let P : List ℕ → Type 0 = λ y. AnswersLine y d e in
    subst P (append-nil l) (answers_kept l [] d e (subst P (q ∙ sym (append-nil (kept l))) a))

-- lines one after another
pub answers_push : (ls : List (List ℕ)) (l : List ℕ) (d m e : Desk) → AnswersLines ls d m → AnswersLine l m e → AnswersLines (ls ++ l ∷ []) d e
answers_push [] l d m e a s = (e, subst (λ (x : Desk). AnswersLine l x e) (sym a) s, refl)
answers_push (k ∷ ls) l d m e a s = (a.0, a.1, answers_push ls l a.0 m e a.2 s)

pub ended_push : (ls : List (List ℕ)) (l rest : List ℕ) → ended (ls ++ l ∷ []) ++ rest ≡ ended ls ++ (l ++ 10 ∷ rest)
ended_push [] l rest = append_assoc l (10 ∷ []) rest
ended_push (k ∷ ls) l rest = simp (append_assoc, ended_push ls l rest)

pub each_push : (ls : List (List ℕ)) (l : List ℕ) → EachNoEnd ls → NoEnd l → EachNoEnd (ls ++ l ∷ [])
each_push [] l h n = (n, tt)
each_push (k ∷ ls) l h n = (h.0, each_push ls l h.1 n)

pub no_end_append : (a b : List ℕ) → NoEnd a → NoEnd b → NoEnd (a ++ b)
no_end_append [] b h k i l e = k i l e
no_end_append (x ∷ a) b h k zero l e = h 0 (omega arith) e
no_end_append (x ∷ a) b h k (suc i) l e = no_end_append a b (λ j m f. h (suc j) (omega arith) f) k i (omega arith) e

pub last_none : (l items : List ℕ) (d : Desk) → true ≡ eqb (length items) 0 → items ≡ kept l → AnswersLines (last_line l) d d
last_none [] items d t h = refl
last_none (x ∷ xs) items d t h = let e : 0 ≡ length items = sym (eqb-true (length items) 0 (sym t)) in absurd (omega (arith, ap length h))

pub last_answers : (l items : List ℕ) (d e : Desk) → false ≡ eqb (length items) 0 → items ≡ kept l → AnswersLine items d e → AnswersLines (last_line l) d e
last_answers [] items d e t h a = absurd (eqb-false (length items) 0 (sym t) (ap length h))
last_answers (x ∷ xs) items d e t h a = (e, answers_whole (x ∷ xs) items d e h a, refl)
