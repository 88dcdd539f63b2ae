-- Rows that fit: the pieces made of them are cut back, and show the same rows.
use Rattle.std.proofs.Common.{◌≡◌, ℕ, zero, suc, ◌+◌, ◌-◌, ◌%◌, ◌^◌, ◌<◌, ◌≤◌, Bool, true, false, cond, not, ◌&&◌, eqb, leb, List, [], ◌∷◌, length, get_or, take, replicate, sym, refl, ap, ◌∙◌, subst, zero-add, arith}
use native.Mathlib.Nat.{zero-div}
use lib.Bits.{bit_and}
use Rattle.std.proofs.lemmas.Nat.{and_le_r}
use Rattle.std.proofs.lemmas.Bool.{both_ways, cond_both, not-true, and_parts, and_from, eqb-true, eq-eqb, leb-true, le-leb, ltb-true}
use Rattle.base.specs.Answers.{first_no}
use Rattle.base.specs.Octets.{bit, big_endian, octets_of}
use Rattle.base.proofs.Bits.{bit-bit_and, bit_not, bit_ext, bit_le}
use Rattle.base.proofs.Writing.{length-octets_of, big_endian-octets_of}
use Rattle.layout.specs.Items.{ItemKind, bits_octet, a_number, ItemGovernor, ungoverned, governed_by, ItemMeaning, may_exist, may_exist_as, item_at, EachMayExist}
use Rattle.layout.proofs.Firsts.{first_step, yes_more}
use Rattle.layout.proofs.Made.{mask_small}
use Rattle.frame.specs.declared.row.Row.{Row}
use Rattle.frame.specs.Pieces.{joined, piece, present_by, within, within_as}
use Rattle.frame.specs.Rows.{absent, shown_as, row_of, rows_of}
use Rattle.frame.specs.Plain.{spare_as, spare_bits, all_clear, all_zero}
use Rattle.frame.proofs.Cutting.{Fit, Before, Earlier, Pieces}
use Rattle.frame.proofs.Showing.{some_octet, row_at, present_row}
use Rattle.write.specs.Writing.{flag_stands, may_have_as, row_fits, rows_fit, also_first, piece_for, pieces_for}
use Rattle.write.proofs.Checking.{length_pieces}

-- what question 22 says of one row
pub record RowFit (i : ItemMeaning) (rs : List Row) (r : Row) : Type 0 where
  pub flagged : r.present ≡ flag_stands i.governor rs
  pub has : r.present ≡ true → may_have_as i.kind i r.value ≡ true
  pub none : r.present ≡ false → r.value ≡ 0

row_fit : (i : ItemMeaning) (rs : List Row) (r : Row) → row_fits i rs r ≡ true → RowFit i rs r
row_fit i rs r e = by (flag_stands i.governor rs) refl e
  where
    by : (b : Bool) → flag_stands i.governor rs ≡ b
        → cond b (r.present && may_have_as i.kind i r.value) (not r.present && eqb r.value 0) ≡ true → RowFit i rs r
    by true q e =
        let p = and_parts r.present (may_have_as i.kind i r.value) e in
        record { flagged = p.0 ∙ sym q; has = λ y. p.1; none = λ n. absurd (both_ways r.present n p.0) }
    by false q e =
        let p = and_parts (not r.present) (eqb r.value 0) e in
        let n = not-true r.present p.0 in
        record { flagged = n ∙ sym q; has = λ y. absurd (both_ways r.present n y); none = λ y. eqb-true r.value 0 p.1 }

pub each_row_fits : (is : List ItemMeaning) (all rs : List Row) → length is ≤ length rs → first_no (rows_fit is all rs) ≡ length is
    → (j : ℕ) → j < length is → RowFit (item_at is j) all (get_or rs j absent)
each_row_fits [] all rs l e j h = absurd (let b : ⊥ = omega arith in b)
each_row_fits (i ∷ is) all [] l e j h = absurd (let b : ⊥ = omega arith in b)
each_row_fits (i ∷ is) all (r ∷ rs) l e zero h = row_fit i all r (first_step _ _ _ e).0
each_row_fits (i ∷ is) all (r ∷ rs) l e (suc j) h = each_row_fits is all rs (omega arith) (first_step _ _ _ e).1 j (omega arith)

pub also_first_yes : (b : Bool) (bs : List Bool) (n : ℕ) → first_no (also_first b bs) ≡ n → 1 ≤ n → (b ≡ true) × (first_no bs ≡ n)
also_first_yes b [] n e h = absurd (let z : ⊥ = omega arith in z)
also_first_yes b (x ∷ bs) zero e h = absurd (let z : ⊥ = omega arith in z)
also_first_yes b (x ∷ bs) (suc n) e h =
    let s = first_step (x && b) bs n e in
    let p = and_parts x b s.0 in
    (p.1, yes_more x bs n p.0 s.1)

-- the pieces, one by one
piece_at : (is : List ItemMeaning) (rs : List Row) → length is ≤ length rs → (j : ℕ) → j < length is
    → piece (pieces_for is rs) j ≡ piece_for (item_at is j) (get_or rs j absent)
piece_at [] rs l j h = absurd (let b : ⊥ = omega arith in b)
piece_at (i ∷ is) [] l j h = absurd (let b : ⊥ = omega arith in b)
piece_at (i ∷ is) (r ∷ rs) l zero h = refl
piece_at (i ∷ is) (r ∷ rs) l (suc j) h = piece_at is rs (omega arith) j (omega arith)

-- a value that the item may have fits its octets
pub value_small : (k : ItemKind) (i : ItemMeaning) (v : ℕ) → i.kind ≡ k → may_exist i ≡ true → may_have_as i.kind i v ≡ true → v < 256 ^ i.len
value_small bits_octet i v e m h =
    let n : may_exist_as bits_octet i ≡ true = subst (λ (k : ItemKind). may_exist_as k i ≡ true) e m in
    let one : i.len ≡ 1 = eqb-true i.len 1 (and_parts (eqb i.len 1) _ n).0 in
    let in_mask : bit_and v i.mask ≡ v = eqb-true _ _ (subst (λ (k : ItemKind). may_have_as k i v ≡ true) e h) in
    let small : v < 256 = omega (arith, mask_small i m, and_le_r v i.mask, in_mask) in
    subst (λ (n : ℕ). v < 256 ^ n) (sym one) small
value_small a_number i v e m h =
    let n : may_exist_as a_number i ≡ true = subst (λ (k : ItemKind). may_exist_as k i ≡ true) e m in
    let p = and_parts (leb i.len 8) _ (and_parts (leb 1 i.len) _ n).1 in
    let small = ltb-true i.limit (256 ^ i.len) (and_parts (eqb i.mask 0) _ p.1).1 in
    let in_limit = leb-true v i.limit (subst (λ (k : ItemKind). may_have_as k i v ≡ true) e h) in
    omega (arith, small, in_limit)

-- a value without a spare bit
no_spare : (v m : ℕ) → m < 256 → bit_and v m ≡ v → bit_and v (255 - m) ≡ 0
no_spare v m small e =
    bit_ext (bit_and v (255 - m)) 0 (omega (arith, and_le_r v (255 - m))) (omega arith)
    (λ k l.
    let z : bit k 0 ≡ 0 = ap (λ (n : ℕ). n % 2) (zero-div (2 ^ k)) in
    omega (arith, bit-bit_and k v (255 - m), bit-bit_and k v m, ap (bit k) e, bit_not m k small l, bit_le k v, z))

-- one item, its row and its piece
module _ (i : ItemMeaning) (rs : List Row) (r : Row) (m : may_exist i ≡ true) (f : RowFit i rs r) where
  piece_value : big_endian (piece_for i r) ≡ r.value
  piece_value =
      cond_both r.present (octets_of i.len r.value) [] (λ (c : List ℕ). big_endian c ≡ r.value)
      (λ y. big_endian-octets_of i.len r.value (value_small i.kind i r.value refl m (f.has y)))
      (λ n. sym (f.none n))

  piece_long : length (piece_for i r) ≡ cond r.present i.len 0
  piece_long = by r.present
    where
      by : (b : Bool) → length (cond b (octets_of i.len r.value) []) ≡ cond b i.len 0
      by true = length-octets_of i.len r.value
      by false = refl

  -- the value of a bits octet lies in its mask, that of a number is within its limit
  in_mask : i.kind ≡ bits_octet → bit_and r.value i.mask ≡ r.value
  in_mask e = by r.present refl
    where
      by : (b : Bool) → r.present ≡ b → bit_and r.value i.mask ≡ r.value
      by true y = eqb-true _ _ (subst (λ (k : ItemKind). may_have_as k i r.value ≡ true) e (f.has y))
      by false n = ap (λ (v : ℕ). bit_and v i.mask) (f.none n) ∙ sym (f.none n)

  in_limit : i.kind ≡ a_number → r.value ≤ i.limit
  in_limit e = by r.present refl
    where
      by : (b : Bool) → r.present ≡ b → r.value ≤ i.limit
      by true y = leb-true r.value i.limit (subst (λ (k : ItemKind). may_have_as k i r.value ≡ true) e (f.has y))
      by false n = omega (arith, f.none n)

  piece-within : within i (piece_for i r) ≡ true
  piece-within = by i.kind refl
    where
      by : (k : ItemKind) → i.kind ≡ k → within_as k i.limit (piece_for i r) ≡ true
      by bits_octet e = refl
      by a_number e = ap (λ (v : ℕ). leb v i.limit) piece_value ∙ le-leb r.value i.limit (in_limit e)

  piece_clear : spare_bits i (piece_for i r) ≡ 0
  piece_clear = by i.kind refl
    where
      by : (k : ItemKind) → i.kind ≡ k → spare_as k i.mask (piece_for i r) ≡ 0
      by bits_octet e = ap (λ (v : ℕ). bit_and v (255 - i.mask)) piece_value ∙ no_spare r.value i.mask (mask_small i m) (in_mask e)
      by a_number e = refl

  shown_value : (k : ItemKind) → i.kind ≡ k → shown_as k i.mask r.value ≡ r.value
  shown_value bits_octet e = in_mask e
  shown_value a_number e = refl

  pub row_back : (p : ℕ) → ((row_of i p (piece_for i r)).present ≡ r.present) × ((row_of i p (piece_for i r)).value ≡ r.value)
  row_back p = by r.present refl
    where
      by : (b : Bool) → r.present ≡ b → ((row_of i p (piece_for i r)).present ≡ r.present) × ((row_of i p (piece_for i r)).value ≡ r.value)
      by true y =
          let n : length (piece_for i r) ≡ i.len = piece_long ∙ ap (λ (b : Bool). cond b i.len 0) y in
          let s = present_row i p (piece_for i r) (omega (arith, n, some_octet i.kind i refl m)) in
          (s.0 ∙ sym y, s.2 ∙ ap (shown_as i.kind i.mask) piece_value ∙ shown_value i.kind refl)
      by false n =
          let gone : piece_for i r ≡ [] = ap (λ (b : Bool). cond b (octets_of i.len r.value) []) n in
          (ap (λ (c : List ℕ). (row_of i p c).present) gone ∙ sym n, ap (λ (c : List ℕ). (row_of i p c).value) gone ∙ sym (f.none n))

clear_from : (is : List ItemMeaning) (cs : List (List ℕ)) → ((j : ℕ) → j < length is → spare_bits (item_at is j) (piece cs j) ≡ 0)
    → all_clear is cs ≡ true
clear_from [] cs h = refl
clear_from (i ∷ is) [] h = refl
clear_from (i ∷ is) (c ∷ cs) h = and_from _ _ (eq-eqb (spare_bits i c) 0 (h 0 (omega arith))) (clear_from is cs (λ j l. h (suc j) (omega arith)))

pub zeros : (n : ℕ) → all_zero (replicate n 0) ≡ true
zeros zero = refl
zeros (suc n) = zeros n

-- all items, their rows and their pieces
module _ (is : List ItemMeaning) (rs : List Row) (made : EachMayExist is) (many : length is ≤ length rs)
    (fits : (j : ℕ) → j < length is → RowFit (item_at is j) rs (get_or rs j absent)) (hooked : Earlier 0 is) where
  pub value_back : (j : ℕ) → j < length is → big_endian (piece (pieces_for is rs) j) ≡ (get_or rs j absent).value
  value_back j l =
      ap big_endian (piece_at is rs many j l) ∙ piece_value (item_at is j) rs (get_or rs j absent) (made j l) (fits j l)

  -- presence by the pieces is presence by the rows
  present_same : (n : ℕ) (g : ItemGovernor) → n < length is → Before n g → present_by g (pieces_for is rs) ≡ flag_stands g rs
  present_same n ungoverned l h = refl
  present_same n (governed_by g b) l h = ap (λ (v : ℕ). eqb (bit b v) 1) (value_back g (omega arith))

  piece_fits : (j : ℕ) → j < length is → Fit (item_at is j) (pieces_for is rs) (piece (pieces_for is rs) j)
  piece_fits j l =
      let i = item_at is j in
      let r = get_or rs j absent in
      let here : Before j (item_at is j).governor = subst (λ (n : ℕ). Before n (item_at is j).governor) (zero-add j) (hooked j l) in
      record {
        long =
            ap length (piece_at is rs many j l)
            ∙ piece_long i rs r (made j l) (fits j l)
            ∙ ap (λ (b : Bool). cond b i.len 0) ((fits j l).flagged ∙ sym (present_same j i.governor l here));
        small = ap (within i) (piece_at is rs many j l) ∙ piece-within i rs r (made j l) (fits j l);
      }

  pub pieces_fit : Pieces is (pieces_for is rs)
  pieces_fit = record { many = length_pieces is rs many; fit = piece_fits }

  pub pieces_clear : all_clear is (pieces_for is rs) ≡ true
  pieces_clear =
      clear_from is (pieces_for is rs)
      (λ j l. ap (spare_bits (item_at is j)) (piece_at is rs many j l) ∙ piece_clear (item_at is j) rs (get_or rs j absent) (made j l) (fits j l))

  pub rows_back : (p j : ℕ) → j < length is
      → ((get_or (rows_of is p (pieces_for is rs)) j absent).present ≡ (get_or rs j absent).present)
      × ((get_or (rows_of is p (pieces_for is rs)) j absent).value ≡ (get_or rs j absent).value)
  rows_back p j l =
      let cs = pieces_for is rs in
      let q = p + length (joined (take j cs)) in
      let e : get_or (rows_of is p cs) j absent ≡ row_of (item_at is j) q (piece_for (item_at is j) (get_or rs j absent)) =
      row_at is cs p j (length_pieces is rs many) l ∙ ap (row_of (item_at is j) q) (piece_at is rs many j l) in
      let b = row_back (item_at is j) rs (get_or rs j absent) (made j l) (fits j l) q in
      (ap (λ (r : Row). r.present) e ∙ b.0, ap (λ (r : Row). r.value) e ∙ b.1)
