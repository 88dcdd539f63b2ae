-- Rows behind a layout's last item are not looked at.
use Rattle.std.proofs.Common.{◌≡◌, ℕ, zero, suc, ◌<◌, ◌≤◌, ◌/◌, Bool, cond, not, ◌&&◌, eqb, List, [], ◌∷◌, ◌++◌, length, get_or, replicate, sym, refl, ap, ◌∙◌, ap₂, arith, length-append}
use Rattle.std.proofs.lemmas.Bool.{le-leb}
use Rattle.base.specs.Answers.{gives, ask, first_no, no_to}
use Rattle.base.specs.declared.question.Question.TheVariants as Q
use Rattle.base.specs.Octets.{bit}
use Rattle.base.proofs.Asking.{ask_yes, bind_gives}
use Rattle.layout.specs.Items.{ItemGovernor, ungoverned, governed_by, ItemMeaning, Meaning, item_at}
use Rattle.layout.specs.Questions.{lawful}
use Rattle.layout.proofs.Hooks.{Hooked, hooks}
use Rattle.layout.proofs.Passing.{passes_from}
use Rattle.frame.specs.declared.row.Row.{Row}
use Rattle.frame.specs.Pieces.{joined}
use Rattle.frame.specs.Rows.{absent}
use Rattle.write.specs.Writing.{flag_stands, may_have_as, rows_fit, also_first, first_unfit, pieces_for, padding, plain_frame, packet_of, may_be_held, written}
use Rattle.write.specs.Laws.{RowsBehindDoNotCount}

row_before : (rs more : List Row) (g : ℕ) → g < length rs → get_or (rs ++ more) g absent ≡ get_or rs g absent
row_before [] more g h = absurd (omega arith)
row_before (r ∷ rs) more zero h = refl
row_before (r ∷ rs) more (suc g) h = row_before rs more g (omega arith)

same_pieces : (is : List ItemMeaning) (rs more : List Row) → length is ≤ length rs → pieces_for is (rs ++ more) ≡ pieces_for is rs
same_pieces [] rs more h = refl
same_pieces (i ∷ is) [] more h = absurd (omega arith)
same_pieces (i ∷ is) (r ∷ rs) more h = ap₂ ◌∷◌ refl (same_pieces is rs more (omega arith))

-- the answers of 22 look at as many rows as there are items, and by the flags at earlier ones
same_answers : (is : List ItemMeaning) (all rs more : List Row) → length is ≤ length rs → rows_fit is all (rs ++ more) ≡ rows_fit is all rs
same_answers [] all rs more h = refl
same_answers (i ∷ is) all [] more h = absurd (omega arith)
same_answers (i ∷ is) all (r ∷ rs) more h = ap₂ ◌∷◌ refl (same_answers is all rs more (omega arith))

same_flags : (is : List ItemMeaning) (a b rs : List Row)
    → ((j : ℕ) → j < length is → flag_stands (item_at is j).governor a ≡ flag_stands (item_at is j).governor b) → rows_fit is a rs ≡ rows_fit is b rs
same_flags [] a b rs h = refl
same_flags (i ∷ is) a b [] h = refl
same_flags (i ∷ is) a b (r ∷ rs) h =
    ap₂ ◌∷◌ (ap (λ (f : Bool). cond f (r.present && may_have_as i.kind i r.value) (not r.present && eqb r.value 0)) (h 0 (omega arith)))
    (same_flags is a b rs (λ j k. h (suc j) (omega arith)))

flag_before : (is : List ItemMeaning) (rs more : List Row) → length is ≤ length rs → (j : ℕ) (g : ItemGovernor) → j < length is → Hooked is j g
    → flag_stands g (rs ++ more) ≡ flag_stands g rs
flag_before is rs more l j ungoverned k q = refl
flag_before is rs more l j (governed_by g b) k q = ap (λ (r : Row). eqb (bit b r.value) 1) (row_before rs more g (omega (arith, q.early)))

module _ (o : ℕ) (m : Meaning) (law : lawful o m ≡ gives tt) (rs more : List Row) (l : length m.items ≤ length rs) where
  same_unfit : first_unfit m (rs ++ more) ≡ first_unfit m rs
  same_unfit =
      ap₂ (λ (r : Row) (bs : List Bool). first_no (also_first (eqb (r.value / 16) m.pdu_type) bs))
      (row_before rs more 0 (omega (arith, (passes_from o m law).some)))
      (same_answers m.items (rs ++ more) rs more l
      ∙ same_flags m.items (rs ++ more) rs rs (λ j k. flag_before m.items rs more l j _ k (hooks o m law j k)))

  same_frame : plain_frame m.items (rs ++ more) ≡ plain_frame m.items rs
  same_frame = ap (λ (cs : List (List ℕ)). joined cs ++ replicate (padding (length (joined cs))) 0) (same_pieces m.items rs more l)

pub rows_behind : RowsBehindDoNotCount
unfolding written
rows_behind o m law rs more l teid inner room =
    bind_gives (lawful o m) _ tt law
    ∙ ask_yes _ _ _ (le-leb (length m.items) (length (rs ++ more)) (omega (arith, length-append rs more)))
    ∙ ap₂ (λ (u : ℕ) (f : List ℕ).
    ask (eqb u (length m.items)) (no_to Q.RowFits u)
    (ask (may_be_held f (packet_of teid f inner) room) (no_to Q.Room (length (packet_of teid f inner))) (gives (packet_of teid f inner))))
    (same_unfit o m law rs more l) (same_frame o m law rs more l)
    ∙ sym (bind_gives (lawful o m) _ tt law ∙ ask_yes _ _ _ (le-leb (length m.items) (length rs) l))
