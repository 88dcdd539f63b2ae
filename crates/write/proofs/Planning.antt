-- What is known of a packet before an octet of it is put, and which question refuses it.
use Rattle.std.proofs.Common.{◌≡◌, ℕ, ◌+◌, ◌<◌, ◌≤◌, Bool, true, false, ◌&&◌, eqb, leb, List, length, replicate, sym, ap, ◌∙◌, ap₂, arith, length-append}
use lib.ListN.{length-replicate}
use Rattle.std.proofs.lemmas.Bool.{eq-eqb, ne_eqb, le-leb, lt-leb}
use Rattle.base.specs.declared.refusal.Refusal.{Refusal}
use Rattle.base.specs.declared.question.Question.TheVariants as Q
use Rattle.base.specs.Answers.{refused, gives, ask, no_to}
use Rattle.base.proofs.Asking.{ask_yes, ask_no, bind_gives, bind_refused}
use Rattle.layout.specs.Items.{Meaning}
use Rattle.layout.specs.Questions.{lawful}
use Rattle.frame.specs.declared.row.Row.{Row}
use Rattle.frame.specs.Pieces.{joined}
use Rattle.write.specs.Writing.{first_unfit, pieces_for, padding, plain_frame, packet_of, may_be_held, written}
use Rattle.write.proofs.Rewriting.{length_packet}

-- whether a frame of so many octets, and a packet of so many, may be held
abbrev fits_in : ℕ → ℕ → ℕ → Bool
fits_in frame count room = leb frame 1018 && (leb count 9216 && leb count room)

module _ (o : ℕ) (m : Meaning) (rs : List Row) (inner : List ℕ) (room : ℕ) where
  pub plan_no_layout : (r : Refusal) → refused r ≡ lawful o m → (t : ℕ) → written o m rs t inner room ≡ refused r
  unfolding written
  plan_no_layout r e t = bind_refused _ _ r (sym e)

  module _ (e : gives tt ≡ lawful o m) where
    pub plan_no_rows : length rs < length m.items → (t : ℕ) → written o m rs t inner room ≡ refused (no_to Q.TableRows (length rs))
    unfolding written
    plan_no_rows h t = bind_gives _ _ tt (sym e) ∙ ask_no _ _ _ (lt-leb (length m.items) (length rs) h)

    module _ (h : length m.items ≤ length rs) where
      -- a layout and a table that pass leave 22 and 21
      on : (t : ℕ)
          → written o m rs t inner room
          ≡ ask (eqb (first_unfit m rs) (length m.items)) (no_to Q.RowFits (first_unfit m rs))
          (ask (may_be_held (plain_frame m.items rs) (packet_of t (plain_frame m.items rs) inner) room)
          (no_to Q.Room (length (packet_of t (plain_frame m.items rs) inner)))
          (gives (packet_of t (plain_frame m.items rs) inner)))
      unfolding written
      on t = bind_gives _ _ tt (sym e) ∙ ask_yes _ _ _ (le-leb (length m.items) (length rs) h)

      pub plan_unfit : (first_unfit m rs ≡ length m.items → ⊥) → (t : ℕ)
          → written o m rs t inner room ≡ refused (no_to Q.RowFits (first_unfit m rs))
      plan_unfit n t = on t ∙ ask_no _ _ _ (ne_eqb (first_unfit m rs) (length m.items) n)

      module _ (f : first_unfit m rs ≡ length m.items) (size pad : ℕ) (s : size ≡ length (joined (pieces_for m.items rs)))
          (d : pad ≡ padding size) where
        abbrev frame : ℕ
        frame = size + pad

        abbrev count : ℕ
        count = 14 + (size + pad) + length inner

        framed : frame ≡ length (plain_frame m.items rs)
        framed =
            ap (λ (n : ℕ). size + n) d
            ∙ ap (λ (n : ℕ). n + padding n) s
            ∙ sym
            (length-append (joined (pieces_for m.items rs)) (replicate (padding (length (joined (pieces_for m.items rs)))) 0)
            ∙ ap (λ (n : ℕ). length (joined (pieces_for m.items rs)) + n) (length-replicate {A = ℕ} (padding (length (joined (pieces_for m.items rs)))) 0))

        counted : (t : ℕ) → count ≡ length (packet_of t (plain_frame m.items rs) inner)
        counted t = omega (arith, framed, length_packet t (plain_frame m.items rs) inner)

        held : (t : ℕ) → fits_in frame count room ≡ may_be_held (plain_frame m.items rs) (packet_of t (plain_frame m.items rs) inner) room
        held t = ap₂ (λ (x y : ℕ). fits_in x y room) framed (counted t)

        pub plan_no_space : false ≡ fits_in frame count room → (t : ℕ) → written o m rs t inner room ≡ refused (no_to Q.Room count)
        plan_no_space n t =
            on t ∙ ask_yes _ _ _ (eq-eqb (first_unfit m rs) (length m.items) f)
            ∙ ask_no _ _ _ (sym (n ∙ held t))
            ∙ ap (λ (k : ℕ). refused (no_to Q.Room k)) (sym (counted t))

        pub plan_gives : true ≡ fits_in frame count room → (t : ℕ)
            → written o m rs t inner room ≡ gives (packet_of t (plain_frame m.items rs) inner)
        plan_gives y t =
            on t ∙ ask_yes _ _ _ (eq-eqb (first_unfit m rs) (length m.items) f)
            ∙ ask_yes _ _ _ (sym (y ∙ held t))
