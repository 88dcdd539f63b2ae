-- Each row shows its item.
use Rattle.std.proofs.Common.{◌≡◌, ℕ, zero, suc, ◌+◌, ◌-◌, ◌<◌, ◌≤◌, true, eqb, leb, List, [], ◌∷◌, ◌++◌, length, get_or, take, drop, sym, refl, ap, ◌∙◌, subst, ap₂, append_assoc, add-zero, arith, length-append}
use Rattle.std.proofs.lemmas.List.{take_at, drop_at}
use Rattle.std.proofs.lemmas.Bool.{and_parts, eqb-true, leb-true}
use Rattle.base.specs.Octets.{big_endian}
use Rattle.layout.specs.Items.{ItemKind, bits_octet, a_number, ItemMeaning, item_at, may_exist, may_exist_as}
use Rattle.frame.specs.Pieces.{joined, piece, Cut}
use Rattle.frame.specs.Rows.{absent, shown_as, row_of, rows_of, how_many}
use Rattle.frame.specs.Laws.{IsCut, RowShows, present_rows, RowsShowItems}
use Rattle.frame.proofs.Presence.{reading_is_only_cut}

-- an item that may exist has an octet or more
pub some_octet : (k : ItemKind) (i : ItemMeaning) → i.kind ≡ k → may_exist i ≡ true → 1 ≤ i.len
some_octet bits_octet i e m =
    let n : may_exist_as bits_octet i ≡ true = subst (λ (k : ItemKind). may_exist_as k i ≡ true) e m in
    let l = eqb-true i.len 1 (and_parts (eqb i.len 1) _ n).0 in
    omega arith
some_octet a_number i e m =
    let n : may_exist_as a_number i ≡ true = subst (λ (k : ItemKind). may_exist_as k i ≡ true) e m in
    leb-true 1 i.len (and_parts (leb 1 i.len) _ n).0

-- the row of item j is that of its piece, at the place behind the pieces before it
pub row_at : (is : List ItemMeaning) (cs : List (List ℕ)) (p j : ℕ) → length cs ≡ length is → j < length is
    → get_or (rows_of is p cs) j absent ≡ row_of (item_at is j) (p + length (joined (take j cs))) (piece cs j)
row_at [] cs p j e h = absurd (let b : ⊥ = omega arith in b)
row_at (i ∷ is) [] p j e h = absurd (let b : ⊥ = omega arith in b)
row_at (i ∷ is) (c ∷ cs) p zero e h = ap (λ (q : ℕ). row_of i q c) (sym (add-zero p))
row_at (i ∷ is) (c ∷ cs) p (suc j) e h =
    let q : p + length c + length (joined (take j cs)) ≡ p + length (c ++ joined (take j cs)) = omega (arith, length-append c (joined (take j cs))) in
    row_at is cs (p + length c) j (omega arith) (omega arith) ∙ ap (λ (k : ℕ). row_of (item_at is j) k (piece cs j)) q

-- the pieces around piece j
around : (cs : List (List ℕ)) (j : ℕ) → j < length cs → joined cs ≡ joined (take j cs) ++ (piece cs j ++ joined (drop (suc j) cs))
around [] j h = absurd (let b : ⊥ = omega arith in b)
around (c ∷ cs) zero h = refl
around (c ∷ cs) (suc j) h =
    ap (λ (l : List ℕ). c ++ l) (around cs j (omega arith)) ∙ sym (append_assoc c (joined (take j cs)) (piece cs j ++ joined (drop (suc j) cs)))

-- so piece j stands in the frame behind those before it
piece_in_frame : (cs : List (List ℕ)) (t : List ℕ) (j n : ℕ) → j < length cs → length (piece cs j) ≡ n
    → take n (drop (length (joined (take j cs))) (joined cs ++ t)) ≡ piece cs j
piece_in_frame cs t j n h l =
    let a = joined (take j cs) in
    let c = piece cs j in
    let r = joined (drop (suc j) cs) in
    let e : joined cs ++ t ≡ a ++ (c ++ (r ++ t)) =
    ap (λ (x : List ℕ). x ++ t) (around cs j h) ∙ append_assoc a (c ++ r) t ∙ ap (λ (x : List ℕ). a ++ x) (append_assoc c r t) in
    ap (λ (x : List ℕ). take n (drop (length a) x)) e
    ∙ ap (take n) (drop_at a (c ++ (r ++ t)) (length a) refl)
    ∙ take_at c (r ++ t) n l

pub present_row : (i : ItemMeaning) (p : ℕ) (c : List ℕ) → 1 ≤ length c
    → ((row_of i p c).present ≡ true) × ((row_of i p c).place ≡ p) × ((row_of i p c).value ≡ shown_as i.kind i.mask (big_endian c))
present_row i p [] h = absurd (let b : ⊥ = omega arith in b)
present_row i p (o ∷ os) h = (refl, refl, refl)

-- as many items are present as rows say
counts : (is : List ItemMeaning) (cs : List (List ℕ)) (p : ℕ) → length cs ≡ length is → how_many cs ≡ present_rows (rows_of is p cs)
counts [] [] p e = refl
counts [] (d ∷ cs) p e = absurd (let b : ⊥ = omega arith in b)
counts (i ∷ is) [] p e = absurd (let b : ⊥ = omega arith in b)
counts (i ∷ is) ([] ∷ cs) p e = omega (arith, counts is cs (p + 0) (omega arith))
counts (i ∷ is) ((o ∷ os) ∷ cs) p e = omega (arith, counts is cs (p + suc (length os)) (omega arith))

module _ (is : List ItemMeaning) (p : ℕ) (frame : List ℕ) (w : Cut) (made : (j : ℕ) → j < length is → may_exist (item_at is j) ≡ true) (c : IsCut is frame w) where
  shows : (j : ℕ) → j < length is → RowShows is p frame w j (get_or (rows_of is p w.pieces) j absent)
  shows j h = subst (RowShows is p frame w j) (sym (row_at is w.pieces p j c.each h)) (record {
    there = λ t.
        let n = c.there j h t in
        let s = some_octet (item_at is j).kind (item_at is j) refl (made j h) in
        let r = present_row (item_at is j) q (piece w.pieces j) (omega (arith, n, s)) in
        let v : take (item_at is j).len (drop ((row_of (item_at is j) q (piece w.pieces j)).place - p) frame) ≡ piece w.pieces j =
        ap₂ (λ (k : ℕ) (f : List ℕ). take (item_at is j).len (drop k f))
        (ap (λ (k : ℕ). k - p) r.1 ∙ less p (length (joined (take j w.pieces)))) (sym c.whole)
        ∙ piece_in_frame w.pieces w.tail j (item_at is j).len (omega (arith, c.each)) n in
        (r.0, r.1, r.2 ∙ ap (λ (x : List ℕ). shown_as (item_at is j).kind (item_at is j).mask (big_endian x)) (sym v));
    not_there = λ t. ap (row_of (item_at is j) q) (c.not_there j h t);
  })
    where
      q : ℕ
      q = p + length (joined (take j w.pieces))

      less : (a b : ℕ) → a + b - a ≡ b
      less a b = omega arith

pub rows_show_items : RowsShowItems
rows_show_items o m l made p frame w e =
    let c = ((reading_is_only_cut o m l p frame w).0 e).cut in
    (shows m.items p frame w made c, counts m.items w.pieces p c.each)
