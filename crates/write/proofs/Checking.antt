-- Question 22 row by row, and how many octets the items take so far.
use Rattle.std.proofs.Common.{◌≡◌, ℕ, zero, suc, ◌+◌, ◌*◌, ◌/◌, ◌<◌, ◌≤◌, Bool, true, false, cond, ◌&&◌, eqb, List, [], ◌∷◌, ◌++◌, map, length, get_or, take, drop, Some, sym, refl, ap, ◌∙◌, subst, ap₂, append_assoc, le_of_suc-le-suc, not-suc-le-zero, add-one, arith, length-append, length-drop, drop-cons, take_all}
use Rattle.std.specs.List.{slice_get}
use Rattle.std.proofs.lemmas.List.{append-nil}
use Rattle.std.proofs.lemmas.Bool.{ne_eqb}
use Rattle.base.specs.Answers.{first_no}
use Rattle.base.specs.Octets.{octets_of}
use Rattle.base.proofs.Writing.{length-octets_of}
use Rattle.layout.specs.Items.{ItemMeaning, Meaning}
use Rattle.layout.proofs.Firsts.{Clear, clear_more, no_here, clear_all}
use Rattle.layout.proofs.Nths.{take_to_nth}
use Rattle.frame.specs.declared.row.Row.{Row}
use Rattle.frame.specs.Pieces.{joined}
use Rattle.frame.specs.Rows.{absent}
use Rattle.write.specs.Writing.{row_fits, rows_fit, also_first, fit_at, first_unfit, piece_for, pieces_for}

nth_at : {X : Type 0} (xs : List X) (i : ℕ) (d : X) → i < length xs → Some (get_or xs i d) ≡ slice_get xs i
nth_at [] i d h = absurd (not-suc-le-zero h)
nth_at (y ∷ xs) zero d h = refl
nth_at (y ∷ xs) (suc i) d h = nth_at xs i d (le_of_suc-le-suc h)

-- the first element of the rest of a list, behind its first i, and the rest behind that
pub nth_from_rest : {X : Type 0} (xs : List X) (i : ℕ) (x : X) (ys : List X) → drop i xs ≡ x ∷ ys → Some x ≡ slice_get xs i
nth_from_rest xs i x ys e =
    let l : i < length xs = omega (arith, length-drop i xs, ap length e) in
    let c : x ∷ ys ≡ get_or xs i x ∷ drop (suc i) xs = sym e ∙ drop-cons xs i x l in
    let q : x ≡ get_or xs i x = cc in
    ap Some q ∙ nth_at xs i x l

pub rest_more : {X : Type 0} (xs : List X) (i : ℕ) (x : X) (ys : List X) → drop i xs ≡ x ∷ ys → (j : ℕ) → j ≡ i + 1 → ys ≡ drop j xs
rest_more xs i x ys e j f =
    let l : i < length xs = omega (arith, length-drop i xs, ap length e) in
    let c : x ∷ ys ≡ get_or xs i x ∷ drop (suc i) xs = sym e ∙ drop-cons xs i x l in
    let q : ys ≡ drop (suc i) xs = cc in
    rw (f, add-one) q

-- where no row is left, and there are enough of them, no item is left
pub all_past : {X : Type 0} (is : List X) (rs : List Row) (i : ℕ) (rest : List Row) → length is ≤ length rs → rest ≡ drop i rs → length rest ≡ 0 → length is ≤ i
all_past is rs i rest h e n = omega (arith, length-drop i rs, ap length e)

nth_fit : (is : List ItemMeaning) (rs more : List Row) (i : ℕ) (x : ItemMeaning) (r : Row) → Some x ≡ slice_get is i → Some r ≡ slice_get more i
    → Some (row_fits x rs r) ≡ slice_get (rows_fit is rs more) i
nth_fit [] rs more i x r e q = absurd (let z : ◌≡◌ {A = ℕ} 0 1 = cc in let b : ⊥ = omega arith in b)
nth_fit (y ∷ is) rs [] i x r e q = absurd (let z : ◌≡◌ {A = ℕ} 0 1 = cc in let b : ⊥ = omega arith in b)
nth_fit (y ∷ is) rs (s ∷ more) zero x r e q =
    let a : x ≡ y = cc in
    let b : r ≡ s = cc in
    ap₂ (λ (i : ItemMeaning) (t : Row). Some (row_fits i rs t)) a b
nth_fit (y ∷ is) rs (s ∷ more) (suc i) x r e q = nth_fit is rs more i x r e q

length_fit : (is : List ItemMeaning) (rs more : List Row) → length is ≤ length more → length (rows_fit is rs more) ≡ length is
length_fit [] rs more h = refl
length_fit (i ∷ is) rs [] h = absurd (not-suc-le-zero h)
length_fit (i ∷ is) rs (r ∷ more) h = ap suc (length_fit is rs more (le_of_suc-le-suc h))

-- the answers to 22, one for each item
abbrev pub answers : Meaning → List Row → List Bool
answers m rs = also_first (eqb ((get_or rs 0 absent).value / 16) m.pdu_type) (rows_fit m.items rs rs)

length_also : (b : Bool) (bs : List Bool) → length (also_first b bs) ≡ length bs
length_also b [] = refl
length_also b (x ∷ bs) = refl

length_answers : (m : Meaning) (rs : List Row) → length m.items ≤ length rs → length (answers m rs) ≡ length m.items
length_answers m rs h = length_also _ (rows_fit m.items rs rs) ∙ length_fit m.items rs rs h

nth_also : (t : ℕ) (is : List ItemMeaning) (rs : List Row) (i : ℕ) (x : ItemMeaning) (r : Row) → Some x ≡ slice_get is i → Some r ≡ slice_get rs i
    → Some (fit_at t i x rs r) ≡ slice_get (also_first (eqb ((get_or rs 0 absent).value / 16) t) (rows_fit is rs rs)) i
nth_also t [] rs i x r e q = absurd (let z : ◌≡◌ {A = ℕ} 0 1 = cc in let b : ⊥ = omega arith in b)
nth_also t (y ∷ is) [] i x r e q = absurd (let z : ◌≡◌ {A = ℕ} 0 1 = cc in let b : ⊥ = omega arith in b)
nth_also t (y ∷ is) (s ∷ rs) zero x r e q =
    let a : x ≡ y = cc in
    let b : r ≡ s = cc in
    ap₂ (λ (i : ItemMeaning) (u : Row). Some (row_fits i (s ∷ rs) u && eqb (u.value / 16) t)) a b
nth_also t (y ∷ is) (s ∷ rs) (suc i) x r e q =
    ap (λ (b : Bool). Some (cond b (row_fits x (s ∷ rs) r && eqb (r.value / 16) t) (row_fits x (s ∷ rs) r))) (ne_eqb (suc i) 0 (λ z. omega arith))
    ∙ nth_fit is (s ∷ rs) rs i x r e q

map_same : {X : Type 0} (xs : List X) → map (λ x. x) xs ≡ xs
map_same [] = refl
map_same (x ∷ xs) = ap (λ (l : List _). x ∷ l) (map_same xs)

length-piece : (i : ItemMeaning) (r : Row) (b : Bool) → r.present ≡ b → length (piece_for i r) ≡ cond b i.len 0
length-piece i r b e =
    ap (λ (t : Bool). length (cond t (octets_of i.len r.value) [])) e ∙ by b
  where
    by : (b : Bool) → length (cond b (octets_of i.len r.value) []) ≡ cond b i.len 0
    by true = length-octets_of i.len r.value
    by false = refl

pub nth-piece : (is : List ItemMeaning) (rs : List Row) (i : ℕ) (x : ItemMeaning) (r : Row) → Some x ≡ slice_get is i → Some r ≡ slice_get rs i
    → Some (piece_for x r) ≡ slice_get (pieces_for is rs) i
nth-piece [] rs i x r e q = absurd (let z : ◌≡◌ {A = ℕ} 0 1 = cc in let b : ⊥ = omega arith in b)
nth-piece (y ∷ is) [] i x r e q = absurd (let z : ◌≡◌ {A = ℕ} 0 1 = cc in let b : ⊥ = omega arith in b)
nth-piece (y ∷ is) (s ∷ rs) zero x r e q =
    let a : x ≡ y = cc in
    let b : r ≡ s = cc in
    ap₂ (λ (i : ItemMeaning) (u : Row). Some (piece_for i u)) a b
nth-piece (y ∷ is) (s ∷ rs) (suc i) x r e q = nth-piece is rs i x r e q

pub length_pieces : (is : List ItemMeaning) (rs : List Row) → length is ≤ length rs → length (pieces_for is rs) ≡ length is
length_pieces [] rs h = refl
length_pieces (i ∷ is) [] h = absurd (not-suc-le-zero h)
length_pieces (i ∷ is) (r ∷ rs) h = ap suc (length_pieces is rs (le_of_suc-le-suc h))

pub joined_push : (cs : List (List ℕ)) (c : List ℕ) → joined (cs ++ c ∷ []) ≡ joined cs ++ c
joined_push [] c = append-nil c
joined_push (d ∷ cs) c = ap (λ (l : List ℕ). d ++ l) (joined_push cs c) ∙ sym (append_assoc d (joined cs) c)

-- the first i rows fit, and their items take so many octets
pub record Fitting (m : Meaning) (rs : List Row) (i size : ℕ) : Type 0 where
  pub clear : Clear (λ b. b) (answers m rs) i
  pub sized : size ≡ length (joined (take i (pieces_for m.items rs)))
  pub small : size ≤ 8 * i

module _ (m : Meaning) (rs : List Row) (i size : ℕ) (f : Fitting m rs i size) (x : ItemMeaning) (r : Row) (e : Some x ≡ slice_get m.items i)
    (q : Some r ≡ slice_get rs i) (type row : ℕ) (et : type ≡ m.pdu_type) (er : row ≡ i) where
  answer : Some (fit_at type row x rs r) ≡ slice_get (answers m rs) i
  answer = ap₂ (λ (t k : ℕ). Some (fit_at t k x rs r)) et er ∙ nth_also m.pdu_type m.items rs i x r e q

  pub unfit_here : false ≡ fit_at type row x rs r → row ≡ first_unfit m rs
  unfit_here n = er ∙ no_here (λ b. b) (answers m rs) i _ answer (sym n) f.clear ∙ ap first_no (map_same (answers m rs))

  pub fitting_more : true ≡ fit_at type row x rs r → (n : ℕ) → n ≡ cond r.present x.len 0 → n ≤ 8 → (j : ℕ) → j ≡ i + 1 → Fitting m rs j (size + n)
  fitting_more y n l k j u =
      let cs : List (List ℕ) = pieces_for m.items rs in
      let t : take (i + 1) cs ≡ take i cs ++ piece_for x r ∷ [] = rw add-one (take_to_nth cs i (piece_for x r) (nth-piece m.items rs i x r e q)) in
      subst (λ (a : ℕ). Fitting m rs a (size + n)) (sym u) (record {
        clear = clear_more (λ b. b) (answers m rs) i _ answer (sym y) f.clear;
        sized =
            sym
            (ap (λ (l : List (List ℕ)). length (joined l)) t
            ∙ ap length (joined_push (take i (pieces_for m.items rs)) (piece_for x r))
            ∙ length-append (joined (take i (pieces_for m.items rs))) (piece_for x r)
            ∙ omega (arith, f.sized, length-piece x r r.present refl, l));
        small = omega (arith, f.small, k);
      })

-- all fit
pub fitting_all : (m : Meaning) (rs : List Row) (i size : ℕ) → Fitting m rs i size → length m.items ≤ i → i ≤ length m.items → length m.items ≤ length rs
    → (first_unfit m rs ≡ length m.items) × (size ≡ length (joined (pieces_for m.items rs)))
fitting_all m rs i size f h k l =
    let e : i ≡ length m.items = omega arith in (
      sym (clear_all (λ b. b) (answers m rs) i (omega (arith, length_answers m rs l)) f.clear ∙ ap first_no (map_same (answers m rs))) ∙ e,
      f.sized ∙ ap (λ (cs : List (List ℕ)). length (joined cs)) (take_all i (pieces_for m.items rs) (omega (arith, length_pieces m.items rs l))),
    )
