-- Write accepts the rows that a reading shows of a frame in plain form, and makes that frame of them.
use Rattle.std.proofs.Common.{◌≡◌, ℕ, suc, ◌+◌, ◌/◌, ◌%◌, ◌<◌, ◌≤◌, Bool, true, false, cond, not, ◌&&◌, eqb, leb, List, [], ◌∷◌, ◌++◌, length, get_or, take, replicate, sym, refl, ap, ◌∙◌, subst, ap₂, ⊎_elim, arith, length-append}
use lib.Bits.{bit_and}
use Rattle.std.proofs.lemmas.Bool.{cases_Bool, and_parts, and_from, eqb-true, eq-eqb, leb-true, le-leb}
use Rattle.base.specs.Answers.{gives, first_no}
use Rattle.base.specs.Octets.{bit, Octets, big_endian, octets_of}
use Rattle.base.proofs.Asking.{ask_yes, bind_gives}
use Rattle.base.proofs.Bits.{bit-bit_and, bit_le}
use Rattle.base.proofs.Writing.{octets_at, octets_take, octets_drop, octets_of-big_endian}
use Rattle.layout.specs.Items.{ItemKind, bits_octet, a_number, ItemGovernor, ungoverned, governed_by, ItemMeaning, Meaning}
use Rattle.layout.specs.Items.{is_bits, is_free, may_exist, may_exist_as, item_at, EachMayExist}
use Rattle.layout.specs.Questions.{lawful}
use Rattle.layout.proofs.Hooks.{Hooked, bits_is, hooks}
use Rattle.layout.proofs.Made.{mask_small}
use Rattle.layout.proofs.Passing.{passes_from}
use Rattle.layout.proofs.Firsts.{yes_more}
use Rattle.packet.specs.Laws.{Inside}
use Rattle.packet.proofs.Containers.{container_inside}
use Rattle.frame.specs.declared.row.Row.{Row}
use Rattle.frame.specs.Pieces.{joined, piece, present_by, within_as}
use Rattle.frame.specs.Rows.{absent, shown_as, row_of, rows_of}
use Rattle.frame.specs.Plain.{spare_bits, all_clear, all_zero}
use Rattle.frame.proofs.Cutting.{Fit, Pieces, read_pieces}
use Rattle.frame.proofs.Presence.{earlier}
use Rattle.frame.proofs.Opening.{opened_parts, opened_type}
use Rattle.frame.proofs.Showing.{some_octet, row_at}
use Rattle.write.specs.Writing.{flag_stands, may_have_as, row_fits, rows_fit, also_first, first_unfit}
use Rattle.write.specs.Writing.{piece_for, pieces_for, padding, plain_frame, packet_of, may_be_held, written}
use Rattle.write.specs.Laws.{shown_rows, PlainRewrites}
use Rattle.write.proofs.Plain.{masked_same, clear_at, spare_is, zeros_are, octets_front, octets_piece, octet_small}

-- what is known of one item and its piece in a plain frame
record Sound (i : ItemMeaning) (cs : List (List ℕ)) (c : List ℕ) : Type 0 where
  pub made : may_exist i ≡ true
  pub fit : Fit i cs c
  pub octets : Octets c
  pub clear : spare_bits i c ≡ 0

-- a present piece has the item's length
present_size : (b : Bool) (n m : ℕ) → suc n ≡ cond b m 0 → (b ≡ true) × (suc n ≡ m)
present_size true n m e = (refl, e)
present_size false n m e = absurd (omega arith)

-- an absent piece is of an item that is not present
absent_size : (b : Bool) (n : ℕ) → 1 ≤ n → 0 ≡ cond b n 0 → b ≡ false
absent_size true n l z = absurd (omega arith)
absent_size false n l z = refl

one_octet : (i : ItemMeaning) (cs : List (List ℕ)) (c : List ℕ) → may_exist i ≡ true → Fit i cs c → i.kind ≡ bits_octet → length c ≤ 1
one_octet i cs c m f k =
    let a : may_exist_as bits_octet i ≡ true = subst (λ (x : ItemKind). may_exist_as x i ≡ true) k m in
    let l : i.len ≡ 1 = eqb-true i.len 1 (and_parts (eqb i.len 1) _ a).0 in
    ⊎_elim
    (λ (e : present_by i.governor cs ≡ true). omega (arith, f.long, ap (λ (b : Bool). cond b i.len 0) e))
    (λ (e : present_by i.governor cs ≡ false). omega (arith, f.long, ap (λ (b : Bool). cond b i.len 0) e))
    (cases_Bool (present_by i.governor cs))

-- a row shows the whole number
shown_same : (k : ItemKind) (i : ItemMeaning) (cs : List (List ℕ)) (c : List ℕ) → i.kind ≡ k → Sound i cs c
    → shown_as k i.mask (big_endian c) ≡ big_endian c
shown_same bits_octet i cs c e s =
    masked_same (big_endian c) i.mask (octet_small c s.octets (one_octet i cs c s.made s.fit e)) (mask_small i s.made)
    (spare_is _ _ _ s.clear e)
shown_same a_number i cs c e s = refl

value_same : (i : ItemMeaning) (cs : List (List ℕ)) (p : ℕ) (c : List ℕ) → Sound i cs c → (row_of i p c).value ≡ big_endian c
value_same i cs p [] s = refl
value_same i cs p (o ∷ c) s = shown_same i.kind i cs (o ∷ c) refl s

-- of its row a piece is made again
piece_again : (i : ItemMeaning) (cs : List (List ℕ)) (p : ℕ) (c : List ℕ) → Sound i cs c → piece_for i (row_of i p c) ≡ c
piece_again i cs p [] s = refl
piece_again i cs p (o ∷ c) s =
    ap (octets_of i.len) (shown_same i.kind i cs (o ∷ c) refl s)
    ∙ ap (λ (n : ℕ). octets_of n (big_endian (o ∷ c))) (sym (present_size _ _ _ s.fit.long).1)
    ∙ octets_of-big_endian (o ∷ c) s.octets

pieces_again : (is : List ItemMeaning) (cs : List (List ℕ)) (p : ℕ) → length cs ≡ length is
    → ((j q : ℕ) → j < length is → piece_for (item_at is j) (row_of (item_at is j) q (piece cs j)) ≡ piece cs j) → pieces_for is (rows_of is p cs) ≡ cs
pieces_again [] [] p l h = refl
pieces_again [] (c ∷ cs) p l h = absurd (omega arith)
pieces_again (i ∷ is) [] p l h = absurd (omega arith)
pieces_again (i ∷ is) (c ∷ cs) p l h =
    ap₂ ◌∷◌ (h 0 p (omega arith)) (pieces_again is cs (p + length c) (omega arith) (λ j q k. h (suc j) q (omega arith)))

length_rows : (is : List ItemMeaning) (p : ℕ) (cs : List (List ℕ)) → length cs ≡ length is → length (rows_of is p cs) ≡ length is
length_rows [] p cs l = refl
length_rows (i ∷ is) p [] l = l
length_rows (i ∷ is) p (c ∷ cs) l = ap suc (length_rows is (p + length c) cs (omega arith))

-- question 22: the flags by the rows are those by the pieces, since a governor is a bits octet whose bit is named
bit_shown : (i : ItemMeaning) (p b : ℕ) (c : List ℕ) → i.kind ≡ bits_octet → bit b i.mask ≡ 1 → bit b (row_of i p c).value ≡ bit b (big_endian c)
bit_shown i p b [] e n = refl
bit_shown i p b (o ∷ c) e n =
    ap (λ (k : ItemKind). bit b (shown_as k i.mask (big_endian (o ∷ c)))) e
    ∙ omega (arith, bit-bit_and b (big_endian (o ∷ c)) i.mask, bit_le b (big_endian (o ∷ c)))

flag_same : (is : List ItemMeaning) (cs : List (List ℕ)) (p : ℕ) → length cs ≡ length is
    → (j : ℕ) (g : ItemGovernor) → j < length is → Hooked is j g → flag_stands g (rows_of is p cs) ≡ present_by g cs
flag_same is cs p m j ungoverned k q = refl
flag_same is cs p m j (governed_by g b) k q =
    ap (λ (x : ℕ). eqb x 1)
    (ap (λ (r : Row). bit b r.value) (row_at is cs p g m (omega (arith, q.early)))
    ∙ bit_shown (item_at is g) (p + length (joined (take g cs))) b (piece cs g) q.octet q.named)

may_have : (k : ItemKind) (i : ItemMeaning) (cs : List (List ℕ)) (c : List ℕ) → i.kind ≡ k → Sound i cs c
    → may_have_as k i (shown_as k i.mask (big_endian c)) ≡ true
may_have bits_octet i cs c e s =
    let v : bit_and (big_endian c) i.mask ≡ big_endian c = shown_same bits_octet i cs c e s in
    eq-eqb _ _ (ap (λ (x : ℕ). bit_and x i.mask) v)
may_have a_number i cs c e s = ap (λ (k : ItemKind). within_as k i.limit c) (sym e) ∙ s.fit.small

fits_row : (i : ItemMeaning) (cs : List (List ℕ)) (rs : List Row) (p : ℕ) (c : List ℕ) → Sound i cs c
    → flag_stands i.governor rs ≡ present_by i.governor cs → row_fits i rs (row_of i p c) ≡ true
fits_row i cs rs p [] s e =
    ap (λ (b : Bool). cond b (false && may_have_as i.kind i 0) true)
    (e ∙ absent_size (present_by i.governor cs) i.len (some_octet i.kind i refl s.made) s.fit.long)
fits_row i cs rs p (o ∷ c) s e =
    ap (λ (b : Bool). cond b (true && may_have_as i.kind i (row_of i p (o ∷ c)).value) (not true && eqb (row_of i p (o ∷ c)).value 0))
    (e ∙ (present_size _ _ _ s.fit.long).0)
    ∙ may_have i.kind i cs (o ∷ c) refl s

all_rows_fit : (is : List ItemMeaning) (all rs : List Row) → length rs ≡ length is
    → ((j : ℕ) → j < length is → row_fits (item_at is j) all (get_or rs j absent) ≡ true) → first_no (rows_fit is all rs) ≡ length is
all_rows_fit [] all rs l h = refl
all_rows_fit (i ∷ is) all [] l h = absurd (omega arith)
all_rows_fit (i ∷ is) all (r ∷ rs) l h =
    yes_more _ _ _ (h 0 (omega arith)) (all_rows_fit is all rs (omega arith) (λ j k. h (suc j) (omega arith)))

also_yes : (b : Bool) (bs : List Bool) → b ≡ true → first_no (also_first b bs) ≡ first_no bs
also_yes b [] e = refl
also_yes b (true ∷ bs) e = ap (λ (x : Bool). first_no ((true && x) ∷ bs)) e
also_yes b (false ∷ bs) e = refl

-- item 0 is the frame's first octet
free_present : (g : ItemGovernor) (cs : List (List ℕ)) → is_free g ≡ true → present_by g cs ≡ true
free_present ungoverned cs e = refl
free_present (governed_by g b) cs e = let z : ◌≡◌ {A = ℕ} 0 1 = cc in absurd (omega arith)

first_octet_lem : (cs : List (List ℕ)) (t : List ℕ) → length (piece cs 0) ≡ 1 → big_endian (piece cs 0) ≡ get_or (joined cs ++ t) 0 0
first_octet_lem [] t l = absurd (omega arith)
first_octet_lem ([] ∷ cs) t l = absurd (omega arith)
first_octet_lem ((o ∷ []) ∷ cs) t l = omega arith
first_octet_lem ((o ∷ p ∷ c) ∷ cs) t l = absurd (omega arith)

-- a tail of the fewest zeros is what write puts behind the items
padded_again : (c t : List ℕ) → length t ≤ 3 → all_zero t ≡ true → (length (c ++ t) + 2) % 4 ≡ 0 → c ++ replicate (padding (length c)) 0 ≡ c ++ t
padded_again c t few z n =
    let l : padding (length c) ≡ length t = omega (arith, length-append c t) in
    ap (λ (k : ℕ). c ++ replicate k 0) l ∙ ap (λ (x : List ℕ). c ++ x) (sym (zeros_are t z))

module _ (o : ℕ) (m : Meaning) (made : EachMayExist m.items) (law : lawful o m ≡ gives tt) (cs : List (List ℕ)) (whole : Pieces m.items cs)
    (octets : Octets (joined cs)) (clear : all_clear m.items cs ≡ true) (p : ℕ) where
  sound : (j : ℕ) → j < length m.items → Sound (item_at m.items j) cs (piece cs j)
  sound j k = record { made = made j k; fit = whole.fit j k; octets = octets_piece cs octets j; clear = clear_at m.items cs whole.many clear j k }

  rewrites : pieces_for m.items (rows_of m.items p cs) ≡ cs
  rewrites = pieces_again m.items cs p whole.many (λ j q k. piece_again (item_at m.items j) cs q (piece cs j) (sound j k))

  some : 0 < length m.items
  some = omega (arith, (passes_from o m law).some)

  first_one : length (piece cs 0) ≡ 1
  first_one =
      let i : ItemMeaning = item_at m.items 0 in
      let l = and_parts (is_bits i.kind) _ (passes_from o m law).leads in
      let g : present_by i.governor cs ≡ true = free_present i.governor cs (and_parts (is_free i.governor) _ l.1).0 in
      let f : Fit i cs (piece cs 0) = whole.fit 0 some in
      let u : length (piece cs 0) ≤ 1 = one_octet i cs (piece cs 0) (made 0 some) f (bits_is _ l.0) in
      omega (arith, f.long, ap (λ (b : Bool). cond b i.len 0) g, some_octet i.kind i refl (made 0 some))

  accepted : (t : List ℕ) → get_or (joined cs ++ t) 0 0 / 16 ≡ m.pdu_type → first_unfit m (rows_of m.items p cs) ≡ length m.items
  accepted t e =
      let rs : List Row = rows_of m.items p cs in
      let v : (get_or rs 0 absent).value ≡ get_or (joined cs ++ t) 0 0 =
      ap (λ (r : Row). r.value) (row_at m.items cs p 0 whole.many some)
      ∙ value_same (item_at m.items 0) cs _ (piece cs 0) (sound 0 some)
      ∙ first_octet_lem cs t first_one in
      also_yes _ (rows_fit m.items rs rs) (eq-eqb _ _ (ap (λ (x : ℕ). x / 16) v ∙ e))
      ∙ all_rows_fit m.items rs rs (length_rows m.items p cs whole.many)
      (λ j k. ap (row_fits (item_at m.items j) rs) (row_at m.items cs p j whole.many k)
      ∙ fits_row (item_at m.items j) cs rs _ (piece cs j) (sound j k)
      (flag_same m.items cs p whole.many j _ k (hooks o m law j k)))

  frame_again : (t : List ℕ) → length t ≤ 3 → all_zero t ≡ true → (length (joined cs ++ t) + 2) % 4 ≡ 0
      → plain_frame m.items (rows_of m.items p cs) ≡ joined cs ++ t
  frame_again t few z n =
      ap (λ (x : List (List ℕ)). joined x ++ replicate (padding (length (joined x))) 0) rewrites ∙ padded_again (joined cs) t few z n

pub length_packet : (teid : ℕ) (f inner : List ℕ) → length (packet_of teid f inner) ≡ length f + length inner + 14
length_packet teid f inner = omega (arith, length-append f (0 ∷ inner))

held : (f k : List ℕ) (room : ℕ) → length f ≤ 1018 → length k ≤ 9216 → length k ≤ room → may_be_held f k room ≡ true
held f k room a b c =
    and_from (leb (length f) 1018) _ (le-leb (length f) 1018 a)
    (and_from (leb (length k) 9216) _ (le-leb (length k) 9216 b) (le-leb (length k) room c))

-- the answers, from their facts
write_gives : (o : ℕ) (m : Meaning) (rs : List Row) (teid : ℕ) (inner : List ℕ) (room : ℕ) (f : List ℕ)
    → lawful o m ≡ gives tt → length rs ≡ length m.items → first_unfit m rs ≡ length m.items → plain_frame m.items rs ≡ f
    → length f ≤ 1018 → length (packet_of teid f inner) ≤ 9216 → length (packet_of teid f inner) ≤ room
    → written o m rs teid inner room ≡ gives (packet_of teid f inner)
unfolding written
write_gives o m rs teid inner room f law n fit e a b c =
    bind_gives (lawful o m) _ tt law
    ∙ ask_yes _ _ _ (le-leb (length m.items) (length rs) (omega arith))
    ∙ ask_yes _ _ _ (eq-eqb (first_unfit m rs) (length m.items) fit)
    ∙ ask_yes _ _ _ (ap (λ (x : List ℕ). may_be_held x (packet_of teid x inner) room) e ∙ held f (packet_of teid f inner) room a b c)
    ∙ ap (λ (x : List ℕ). gives (packet_of teid x inner)) e

pub plain_rewrites : PlainRewrites
plain_rewrites o m made law buffer n w octets opened plainly teid inner room id most fits =
    let f : List ℕ = w.located.frame in
    let cs : List (List ℕ) = w.parts.pieces in
    let t : List ℕ = w.parts.tail in
    let p : ℕ = w.located.place + 1 in
    let parts = opened_parts m buffer n w opened in
    let in_packet : Inside buffer n w.located = container_inside buffer n w.located parts.0 in
    let cut = read_pieces m.items p f w.parts (earlier o m law) parts.1 in
    let packet : Octets (take n buffer) = octets_take n buffer octets in
    let count : get_or (take n buffer) w.located.place 0 < 256 = octets_at (take n buffer) packet w.located.place in
    let bound : length f ≤ 1018 = omega (arith, in_packet.count) in
    let frame : Octets f = subst Octets (sym in_packet.frame) (octets_take (length f) _ (octets_drop p _ packet)) in
    let pieces : Octets (joined cs) = octets_front (joined cs) t (subst Octets cut.0 frame) in
    let a = and_parts (all_clear m.items cs) _ plainly in
    let b = and_parts (leb (length t) 3) _ a.1 in
    let type : get_or (joined cs ++ t) 0 0 / 16 ≡ m.pdu_type = ap (λ (x : List ℕ). get_or x 0 0 / 16) (sym cut.0) ∙ opened_type m buffer n w opened in
    let whole : (length (joined cs ++ t) + 2) % 4 ≡ 0 = ap (λ (x : List ℕ). (length x + 2) % 4) (sym cut.0) ∙ in_packet.whole in
    let again = frame_again o m made law cs cut.1 pieces a.0 p t (leb-true (length t) 3 b.0) b.1 whole in
    let long = length_packet teid f inner in
    write_gives o m (shown_rows m w) teid inner room f law
    (length_rows m.items p cs cut.1.many)
    (accepted o m made law cs cut.1 pieces a.0 p t type)
    (again ∙ sym cut.0)
    bound (omega (arith, long)) (omega (arith, long))
