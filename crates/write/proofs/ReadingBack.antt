-- A written record reads back as itself: its packet is found, its frame is cut into the pieces of its rows.
use Rattle.std.proofs.Common.{◌≡◌, ℕ, ◌+◌, ◌-◌, ◌/◌, ◌%◌, ◌<◌, ◌≤◌, true, cond, eqb, leb, List, [], ◌∷◌, ◌++◌, length, get_or, take, drop, replicate, sym, refl, ap, ◌∙◌, subst, append_assoc, arith, length-append}
use lib.ListN.{length-replicate}
use Rattle.std.proofs.lemmas.List.{drop-drop, take_at, drop_at}
use Rattle.std.proofs.lemmas.Bool.{false≢true, and_parts, and_from, eqb-true, eq-eqb, leb-true, le-leb}
use Rattle.base.specs.Answers.{gives}
use Rattle.base.specs.Octets.{big_endian}
use Rattle.base.proofs.Asking.{gives_inj, ask_yes, asked_yes, bind_gives, bound}
use Rattle.base.proofs.Writing.{big_endian-octets_of}
use Rattle.layout.specs.Items.{ItemKind, bits_octet, ItemGovernor, ungoverned, governed_by, ItemMeaning, Meaning, may_exist, may_exist_as, is_bits, is_free, item_at, EachMayExist}
use Rattle.layout.specs.Questions.{may_lead, lawful}
use Rattle.layout.proofs.Hooks.{bits_is}
use Rattle.layout.proofs.Passing.{passes_from}
use Rattle.packet.specs.Chains.{HeaderMeaning, Chain, chain_of}
use Rattle.packet.specs.Containers.{Located, flags_right, message_type_right, length_right, container}
use Rattle.packet.specs.Laws.{IsChain}
use Rattle.packet.proofs.Chains.{walk_is_chain}
use Rattle.packet.proofs.Containers.{accepted-container}
use Rattle.frame.specs.declared.row.Row.{Row}
use Rattle.frame.specs.Pieces.{joined, piece, present_by, size_of, Cut, cut_frame}
use Rattle.frame.specs.Rows.{absent}
use Rattle.frame.specs.Reading.{Opened, opened_packet}
use Rattle.frame.proofs.Cutting.{Earlier, pieces_read}
use Rattle.frame.proofs.Presence.{earlier}
use Rattle.write.specs.Writing.{pieces_for, rows_fit, padding, plain_frame, packet_of, first_unfit, written}
use Rattle.write.specs.Laws.{Shows, WrittenReadsBack}
use Rattle.write.proofs.Fitting.{RowFit, each_row_fits, also_first_yes, value_back, pieces_fit, pieces_clear, rows_back, zeros}

-- the packet of a frame of 4n - 2 octets, with others behind it in the buffer
module _ (teid : ℕ) (f inner behind : List ℕ) (whole : (length f + 2) % 4 ≡ 0) (most : length (packet_of teid f inner) ≤ 9216) where
  long : length (packet_of teid f inner) ≡ length f + length inner + 14
  long = omega (arith, length-append f (0 ∷ inner))

  abbrev the_header : HeaderMeaning
  the_header = record { type = 133; place = 12; content = f }

  abbrev the_chain : Chain
  the_chain = record { headers = the_header ∷ []; end = 14 + length f }

  is_chain : IsChain (packet_of teid f inner) the_chain
  is_chain = record {
    first = refl;
    places = (λ e. omega arith, whole, refl, tt);
    octets =
        ap (λ l. take (14 + length f - 12) ((length f + 2) / 4 ∷ l)) (sym (append_assoc f (0 ∷ []) inner))
        ∙ take_at ((length f + 2) / 4 ∷ (f ++ 0 ∷ [])) inner (14 + length f - 12) (omega (arith, length-append f (0 ∷ [])));
    inside = (omega arith, omega (arith, long));
  }

  stated : length_right (packet_of teid f inner) ≡ true
  stated =
      let n = length f + length inner + 6 in
      eq-eqb _ _ (big_endian-octets_of 2 n (omega (arith, long)) ∙ omega (arith, long))

  abbrev the_place : Located
  the_place = record { place = 12; frame = f; end = 14 + length f; inner = inner }

  inner_behind : drop (14 + length f) (packet_of teid f inner) ≡ inner
  inner_behind =
      let to : 14 + length f ≡ 12 + (2 + length f) = omega arith in
      ap (λ n. drop n (packet_of teid f inner)) to
      ∙ sym (drop-drop (2 + length f) 12 (packet_of teid f inner))
      ∙ ap (λ l. drop (2 + length f) ((length f + 2) / 4 ∷ l)) (sym (append_assoc f (0 ∷ []) inner))
      ∙ drop_at ((length f + 2) / 4 ∷ (f ++ 0 ∷ [])) inner (2 + length f) (omega (arith, length-append f (0 ∷ [])))

  found : container (packet_of teid f inner ++ behind) (length (packet_of teid f inner)) ≡ gives the_place
  found = accepted-container (packet_of teid f inner ++ behind) (length (packet_of teid f inner)) the_place (record {
    count =
        and_from _ _ (le-leb 12 (length (packet_of teid f inner)) (omega (arith, long)))
        (and_from _ _ (le-leb (length (packet_of teid f inner)) 9216 most)
        (le-leb (length (packet_of teid f inner)) _ (omega (arith, length-append (packet_of teid f inner) behind))));
    flags = ap flags_right just;
    message_type = ap message_type_right just;
    stated = ap length_right just ∙ stated;
    chain = the_chain;
    walked = ap chain_of just ∙ (walk_is_chain (packet_of teid f inner) (omega (arith, long)) most the_chain).1 is_chain;
    header = the_header;
    only = refl;
    is = sym (ap (λ l. record { place = 12; frame = f; end = 14 + length f; inner = l }) (ap (drop (14 + length f)) just ∙ inner_behind));
  })
    where
      just : take (length (packet_of teid f inner)) (packet_of teid f inner ++ behind) ≡ packet_of teid f inner
      just = take_at (packet_of teid f inner) behind (length (packet_of teid f inner)) refl

-- octet 0 of a frame is that of its first piece
first_of_joined : (cs : List (List ℕ)) (t : List ℕ) → length (piece cs 0) ≡ 1 → get_or (joined cs ++ t) 0 0 ≡ big_endian (piece cs 0)
first_of_joined [] t l = absurd (let b : ⊥ = omega arith in b)
first_of_joined ([] ∷ cs) t l = absurd (let b : ⊥ = omega arith in b)
first_of_joined ((o ∷ []) ∷ cs) t l = omega arith
first_of_joined ((o ∷ q ∷ os) ∷ cs) t l = absurd (let b : ⊥ = omega arith in b)

-- an item that may lead is present, with one octet
lead_size : (i : ItemMeaning) (cs : List (List ℕ)) → may_lead i ≡ true → may_exist i ≡ true → size_of i cs ≡ 1
lead_size i cs l m =
    let p = and_parts (is_bits i.kind) _ l in
    let n : may_exist_as bits_octet i ≡ true = subst (λ (k : ItemKind). may_exist_as k i ≡ true) (bits_is i.kind p.0) m in
    by i.governor (and_parts (is_free i.governor) _ p.1).0 (eqb-true i.len 1 (and_parts (eqb i.len 1) _ n).0)
  where
    by : (g : ItemGovernor) → is_free g ≡ true → i.len ≡ 1 → cond (present_by g cs) i.len 0 ≡ 1
    by ungoverned e one = one
    by (governed_by g b) e one = absurd (false≢true e)

-- what a yes to each of write's questions leaves
record Wrote (o : ℕ) (m : Meaning) (rs : List Row) (teid : ℕ) (inner k : List ℕ) : Type 0 where
  pub by_law : lawful o m ≡ gives tt
  pub many : length m.items ≤ length rs
  pub fits : (j : ℕ) → j < length m.items → RowFit (item_at m.items j) rs (get_or rs j absent)
  pub type : (get_or rs 0 absent).value / 16 ≡ m.pdu_type
  pub most : length (packet_of teid (plain_frame m.items rs) inner) ≤ 9216
  pub is : packet_of teid (plain_frame m.items rs) inner ≡ k

wrote : (o : ℕ) (m : Meaning) (rs : List Row) (teid : ℕ) (inner : List ℕ) (room : ℕ) (k : List ℕ) → written o m rs teid inner room ≡ gives k
    → Wrote o m rs teid inner k
unfolding written
wrote o m rs teid inner room k e =
    let law = bound (lawful o m) _ k e in
    let q4 = asked_yes _ _ _ _ law.2 in
    let q22 = asked_yes _ _ _ _ q4.1 in
    let q21 = asked_yes _ _ _ _ q22.1 in
    let many = leb-true (length m.items) (length rs) q4.0 in
    let first = also_first_yes (eqb ((get_or rs 0 absent).value / 16) m.pdu_type) (rows_fit m.items rs rs) (length m.items)
    (eqb-true (first_unfit m rs) (length m.items) q22.0) (passes_from o m law.1).some in
    let held = and_parts (leb (length (plain_frame m.items rs)) 1018) _ q21.0 in
    let packet = packet_of teid (plain_frame m.items rs) inner in
    record {
      by_law = law.1;
      many = many;
      fits = each_row_fits m.items rs rs many first.1;
      type = eqb-true _ _ first.0;
      most = leb-true (length packet) 9216 (and_parts (leb (length packet) 9216) _ held.1).0;
      is = gives_inj q21.1;
    }

module _ (o : ℕ) (m : Meaning) (made : EachMayExist m.items) (rs : List Row) (teid : ℕ) (inner k : List ℕ) (w : Wrote o m rs teid inner k)
    (behind : List ℕ) where
  abbrev padded : ℕ
  padded = padding (length (joined (pieces_for m.items rs)))

  abbrev cut : Cut
  cut = record { pieces = pieces_for m.items rs; tail = replicate padded 0 }

  few : length cut.tail ≤ 3
  few = omega (arith, length-replicate {A = ℕ} padded 0)

  whole_frame : (length (plain_frame m.items rs) + 2) % 4 ≡ 0
  whole_frame = omega (arith, length-append (joined cut.pieces) cut.tail, length-replicate {A = ℕ} padded 0)

  hooked : Earlier 0 m.items
  hooked = earlier o m w.by_law

  -- questions 11 to 13
  frame_cut : cut_frame m 13 (plain_frame m.items rs) ≡ gives cut
  unfolding cut_frame
  frame_cut =
      let passes = passes_from o m w.by_law in
      let pieces = pieces_fit m.items rs made w.many w.fits hooked in
      let one : length (piece cut.pieces 0) ≡ 1 =
      (pieces.fit 0 passes.some).long ∙ lead_size (item_at m.items 0) cut.pieces passes.leads (made 0 passes.some) in
      let octet : get_or (plain_frame m.items rs) 0 0 ≡ (get_or rs 0 absent).value =
      first_of_joined cut.pieces cut.tail one ∙ value_back m.items rs made w.many w.fits hooked 0 passes.some in
      ask_yes _ _ _ (eq-eqb _ _ (ap (λ (v : ℕ). v / 16) octet ∙ w.type))
      ∙ pieces_read m.items cut.pieces 13 cut.tail hooked pieces

  abbrev opened : Opened
  opened = record { located = the_place teid (plain_frame m.items rs) inner behind whole_frame w.most; parts = cut }

  opens : opened_packet m (k ++ behind) (length k) ≡ gives opened
  unfolding opened_packet
  opens =
      ap (λ (l : List ℕ). opened_packet m (l ++ behind) (length l)) (sym w.is)
      ∙ bind_gives _ _ opened.located (found teid (plain_frame m.items rs) inner behind whole_frame w.most)
      ∙ bind_gives _ _ cut frame_cut

  shows : Shows m rs inner opened
  shows = record {
    rows = rows_back m.items rs made w.many w.fits hooked 13;
    inner_packet = refl;
    padding = (few, zeros padded);
    plainly =
        and_from _ _ (pieces_clear m.items rs made w.many w.fits hooked)
        (and_from _ _ (le-leb (length cut.tail) 3 few) (zeros padded));
  }

pub written_reads_back : WrittenReadsBack
written_reads_back o m made rs teid inner room small octets k e behind =
    let w = wrote o m rs teid inner room k e in
    (opened o m made rs teid inner k w behind, opens o m made rs teid inner k w behind, shows o m made rs teid inner k w behind)
