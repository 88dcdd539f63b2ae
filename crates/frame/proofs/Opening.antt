-- The questions of a read one after another, by what the code finds.
use Rattle.std.proofs.Common.{◌≡◌, ℕ, ◌+◌, ◌/◌, ◌<◌, ◌≤◌, List, [], length, get_or, sym, refl, ap, ◌∙◌, subst}
use Rattle.std.proofs.lemmas.Bool.{eq-eqb, eqb-true, ne_eqb, le-leb, lt-leb}
use Rattle.base.specs.declared.refusal.Refusal.{Refusal}
use Rattle.base.specs.declared.question.Question.TheVariants as Q
use Rattle.base.specs.Answers.{Answer, refused, gives, bind, no_to}
use Rattle.base.proofs.Asking.{never, gives_inj, ask_yes, ask_no, asked_yes, bind_gives, bind_refused, bound}
use Rattle.layout.specs.Items.{Meaning}
use Rattle.layout.specs.Questions.{lawful}
use Rattle.packet.specs.Containers.{Located, container}
use Rattle.frame.specs.declared.open.Open.{Open}
use Rattle.frame.specs.declared.row.Row.{Row}
use Rattle.frame.specs.Pieces.{Cut, cut_from, cut_frame}
use Rattle.frame.specs.Rows.{filled}
use Rattle.frame.specs.Surveys.{Gathered, gathered, surveyed, Surveyed}
use Rattle.frame.specs.Reading.{Opened, opened_packet, opened_for_read, read_told, table_after}
use Rattle.frame.specs.Views.{FrameSurveyed, opened_of, surveyed_of, gathered_packet, IsOpen}

module _ (m : Meaning) (p : ℕ) (o : List ℕ) (v t : ℕ) (e : v ≡ get_or o 0 0) (f : t ≡ m.pdu_type) where
  pub other_type : (v / 16 ≡ t → ⊥) → refused (no_to Q.PduType p) ≡ surveyed (cut_frame m p o)
  unfolding surveyed cut_frame
  other_type un =
      sym (bind_refused _ _ _ (ask_no _ _ _ (ne_eqb (get_or o 0 0 / 16) m.pdu_type (λ h. un (ap (λ (k : ℕ). k / 16) e ∙ h ∙ sym f)))))

  pub same_type : v / 16 ≡ t → surveyed (cut_from m.items [] p o) ≡ surveyed (cut_frame m p o)
  unfolding cut_frame
  same_type h = ap surveyed (sym (ask_yes _ _ _ (eq-eqb (get_or o 0 0 / 16) m.pdu_type (ap (λ (k : ℕ). k / 16) (sym e) ∙ h ∙ f))))

-- what an answer that was mapped says of the one before
mapped_refused : {A B : Type 0} (f : A → B) (a : Answer A) (r : Refusal) → refused r ≡ bind a (λ x. gives (f x)) → a ≡ refused r
unfolding bind
mapped_refused f (refused q) r e = cc
mapped_refused f (gives x) r e = never (sym e)

mapped_gives : {A B : Type 0} (f : A → B) (a : Answer A) (y : B) → gives y ≡ bind a (λ x. gives (f x)) → (x : A) × (a ≡ gives x) × (y ≡ f x)
mapped_gives f a y e = let b = bound a (λ x. gives (f x)) y (sym e) in (b.0, b.1, sym (gives_inj b.2))

-- questions 5 to 13
module _ (m : Meaning) (b : List ℕ) (n : ℕ) where
  pub open_no_packet : (r : Refusal) → refused r ≡ container b n → gathered_packet (opened_packet m b n) ≡ refused r
  unfolding gathered_packet opened_packet
  open_no_packet r e = bind_refused _ _ r (bind_refused _ _ r (sym e))

  module _ (w : Located) (e : gives w ≡ container b n) where
    pub open_no_frame : (r : Refusal) → refused r ≡ surveyed (cut_frame m (w.place + 1) w.frame) → gathered_packet (opened_packet m b n) ≡ refused r
    unfolding gathered_packet opened_packet surveyed
    open_no_frame r f = bind_refused _ _ r (bind_gives _ _ w (sym e) ∙ bind_refused _ _ r (mapped_refused gathered _ r f))

    pub open_yes : (g : Gathered) → gives g ≡ surveyed (cut_frame m (w.place + 1) w.frame)
        → gives (record { place = w.place + 1; frame = w.frame; found = g; inner = w.inner }) ≡ gathered_packet (opened_packet m b n)
    unfolding gathered_packet opened_packet surveyed
    open_yes g f =
        let c = mapped_gives gathered _ g f in
        ap (λ (x : Gathered). gives (record { place = w.place + 1; frame = w.frame; found = x; inner = w.inner })) c.2
        ∙ sym (bind_gives _ _ (record { located = w; parts = c.0 }) (bind_gives _ _ w (sym e) ∙ bind_gives _ _ c.0 c.1))

  -- what was opened is the container and the cut of its frame
  pub opened_parts : (w : Opened) → opened_packet m b n ≡ gives w
      → (container b n ≡ gives w.located) × (cut_from m.items [] (w.located.place + 1) w.located.frame ≡ gives w.parts)
  unfolding opened_packet cut_frame
  opened_parts w e =
      let l = bound (container b n) _ w e in
      let c = bound (cut_frame m (l.0.place + 1) l.0.frame) _ w l.2 in
      let q : ◌≡◌ {A = Opened} (record { located = l.0; parts = c.0 }) w = gives_inj c.2 in
      let k : cut_from m.items [] (l.0.place + 1) l.0.frame ≡ gives c.0 = (asked_yes _ _ _ _ c.1).1 in (
        l.1 ∙ ap (λ (x : Opened). gives x.located) q,
        ap (λ (x : Opened). cut_from m.items [] (x.located.place + 1) x.located.frame) (sym q)
            ∙ k ∙ ap (λ (x : Opened). gives x.parts) q,
      )

  -- question 11: the upper half of the frame's first octet is the layout's type
  pub opened_type : (w : Opened) → opened_packet m b n ≡ gives w → get_or w.located.frame 0 0 / 16 ≡ m.pdu_type
  unfolding opened_packet cut_frame
  opened_type w e =
      let l = bound (container b n) _ w e in
      let c = bound (cut_frame m (l.0.place + 1) l.0.frame) _ w l.2 in
      let q : ◌≡◌ {A = Opened} (record { located = l.0; parts = c.0 }) w = gives_inj c.2 in
      ap (λ (x : Opened). get_or x.located.frame 0 0 / 16) (sym q)
      ∙ eqb-true (get_or l.0.frame 0 0 / 16) m.pdu_type (asked_yes _ _ _ _ c.1).0

-- questions 1 to 4 before them
module _ (o : ℕ) (m : Meaning) (k : ℕ) (b : List ℕ) (n : ℕ) where
  pub read_no_layout : (r : Refusal) → refused r ≡ lawful o m → opened_for_read o m k b n ≡ refused r
  unfolding opened_for_read
  read_no_layout r e = bind_refused _ _ r (sym e)

  module _ (e : lawful o m ≡ gives tt) where
    pub read_no_rows : k < length m.items → opened_for_read o m k b n ≡ refused (no_to Q.TableRows k)
    unfolding opened_for_read
    read_no_rows h = bind_gives _ _ tt e ∙ ask_no _ _ _ (lt-leb (length m.items) k h)

    module _ (h : length m.items ≤ k) where
      read_on : opened_for_read o m k b n ≡ opened_packet m b n
      unfolding opened_for_read
      read_on = bind_gives _ _ tt e ∙ ask_yes _ _ _ (le-leb (length m.items) k h)

      pub read_no_packet : (r : Refusal) → refused r ≡ gathered_packet (opened_packet m b n) → opened_for_read o m k b n ≡ refused r
      unfolding gathered_packet
      read_no_packet r f = read_on ∙ mapped_refused surveyed_of _ r f

      pub read_accepted : (p : Open) → gives (opened_of p) ≡ gathered_packet (opened_packet m b n) → IsOpen m k p (opened_for_read o m k b n)
      unfolding gathered_packet
      read_accepted p f =
          let c = mapped_gives surveyed_of _ _ f in
          let w = c.0 in
          let e : opened_for_read o m k b n ≡ gives w = read_on ∙ c.1 in
          let cut : cut_from m.items [] (w.located.place + 1) w.located.frame ≡ gives w.parts = (opened_parts m b n w c.1).1 in
          let same : (t : List Row) → filled m.items (w.located.place + 1) (cut_from m.items [] (w.located.place + 1) w.located.frame) t ≡ table_after m (opened_for_read o m k b n) t =
          λ t. ap (λ (a : Answer Cut). filled m.items (w.located.place + 1) a t) cut ∙ sym (ap (λ (a : Answer Opened). table_after m a t) e) in
          let q : surveyed_of w ≡ opened_of p = sym c.2 in
          record {
            surveyed = subst (λ (g : FrameSurveyed). Surveyed m.items g.place g.frame g.found.octets) q (record { parts = w.parts; accepted = cut; octets = refl });
            fits = h;
            told = ap (λ (g : FrameSurveyed). gives (record { present = g.found.present; tail = g.found.tail; inner = g.inner })) (sym q) ∙ sym (ap read_told e);
            table = subst (λ (g : FrameSurveyed). (t : List Row) → filled m.items g.place (cut_from m.items [] g.place g.frame) t ≡ table_after m (opened_for_read o m k b n) t) q same;
          }
