-- The octets of a record, put one item after another.
use Rattle.std.proofs.Common.{◌≡◌, ℕ, zero, suc, ◌+◌, ◌^◌, ◌<◌, ◌≤◌, Bool, true, false, cond, List, [], ◌∷◌, ◌++◌, length, get_or, take, Some, sym, refl, ap, ◌∙◌, subst, ap₂, append_assoc, add-one, arith, length-append, length-take-le, take_all}
use Rattle.std.specs.List.{slice_get}
use Rattle.base.specs.Octets.{octets_of}
use Rattle.base.proofs.Writing.{length-octets_of}
use Rattle.layout.specs.Items.{ItemMeaning, Meaning, may_exist, item_at, no_item}
use Rattle.layout.proofs.Nths.{take_to_nth, lt_from_nth, get_or-from_nth}
use Rattle.frame.specs.declared.row.Row.{Row}
use Rattle.frame.specs.Pieces.{joined}
use Rattle.frame.specs.Rows.{absent}
use Rattle.write.specs.Writing.{rows_fit, first_unfit, piece_for, pieces_for, head_of, packet_of}
use Rattle.write.proofs.Checking.{nth-piece, length_pieces, joined_push}
use Rattle.write.proofs.Fitting.{RowFit, each_row_fits, also_first_yes, value_small}

-- the first i items are put, up to the octet `at`
pub record Put (is : List ItemMeaning) (rs : List Row) (i at : ℕ) (out : List ℕ) : Type 0 where
  pub far : at ≡ length (joined (take i (pieces_for is rs)))
  pub front : take at out ≡ joined (take i (pieces_for is rs))

take-front : {X : Type 0} (a b : List X) → take (length a) (a ++ b) ≡ a
take-front [] b = refl
take-front (x ∷ a) b = ap (λ (l : List _). x ∷ l) (take-front a b)

joined-front : (k : ℕ) (cs : List (List ℕ)) → length (joined (take k cs)) ≤ length (joined cs)
joined-front zero cs = omega arith
joined-front (suc k) [] = omega arith
joined-front (suc k) (c ∷ cs) = omega (arith, joined-front k cs, length-append c (joined (take k cs)), length-append c (joined cs))

module _ (is : List ItemMeaning) (rs : List Row) (i at : ℕ) (out : List ℕ) (p : Put is rs i at out) (x : ItemMeaning) (r : Row)
    (e : Some x ≡ slice_get is i) (q : Some r ≡ slice_get rs i) (n : ℕ) (l : n ≡ cond r.present x.len 0) where
  next : take (i + 1) (pieces_for is rs) ≡ take i (pieces_for is rs) ++ piece_for x r ∷ []
  next = rw add-one (take_to_nth (pieces_for is rs) i (piece_for x r) (nth-piece is rs i x r e q))

  joined_next : joined (take (i + 1) (pieces_for is rs)) ≡ joined (take i (pieces_for is rs)) ++ piece_for x r
  joined_next = ap joined next ∙ joined_push (take i (pieces_for is rs)) (piece_for x r)

  piece_is : piece_for x r ≡ octets_of n r.value
  piece_is = by r.present ∙ ap (λ (k : ℕ). octets_of k r.value) (sym l)
    where
      by : (b : Bool) → cond b (octets_of x.len r.value) [] ≡ octets_of (cond b x.len 0) r.value
      by true = refl
      by false = refl

  pub far_next : at + n ≡ length (joined (take (i + 1) (pieces_for is rs)))
  far_next =
      sym
      (ap length joined_next
      ∙ length-append (joined (take i (pieces_for is rs))) (piece_for x r)
      ∙ omega (arith, p.far, ap length piece_is, length-octets_of n r.value))

  pub within_out : length out ≡ length (joined (pieces_for is rs)) → at + n ≤ length out
  within_out h = omega (arith, far_next, joined-front (i + 1) (pieces_for is rs))

  pub put_more : (new behind : List ℕ) → length out ≡ length (joined (pieces_for is rs)) → new ≡ octets_of n r.value
      → (j : ℕ) → j ≡ i + 1 → Put is rs j (at + n) (take at out ++ (new ++ behind))
  put_more new behind h w j u =
      subst (λ (a : ℕ). Put is rs a (at + n) (take at out ++ (new ++ behind))) (sym u) (record {
        far = far_next;
        front =
            ap (take (at + n)) (sym (append_assoc (take at out) new behind))
            ∙ ap (λ (m : ℕ). take m ((take at out ++ new) ++ behind)) (sym long)
            ∙ take-front (take at out ++ new) behind
            ∙ ap₂ ◌++◌ p.front (w ∙ sym piece_is)
            ∙ sym joined_next;
      })
    where
      long : length (take at out ++ new) ≡ at + n
      long =
          length-append (take at out) new
          ∙ omega (arith, length-take-le at out (omega (arith, within_out h)), ap length w, length-octets_of n r.value)

-- all items are put
pub put_all : (is : List ItemMeaning) (rs : List Row) (i at : ℕ) (out : List ℕ) → Put is rs i at out → length is ≤ i → length is ≤ length rs
    → length out ≡ length (joined (pieces_for is rs)) → out ≡ joined (pieces_for is rs)
put_all is rs i at out p h m l =
    let cs : List (List ℕ) = pieces_for is rs in
    let a : take i cs ≡ cs = take_all i cs (omega (arith, length_pieces is rs m)) in
    let w : at ≡ length (joined cs) = p.far ∙ ap (λ (l : List (List ℕ)). length (joined l)) a in
    sym (take_all at out (omega arith)) ∙ p.front ∙ ap joined a

-- the value of a row that fits is one that its octets hold
pub value_fits : (m : Meaning) (rs : List Row) → length m.items ≤ length rs → first_unfit m rs ≡ length m.items
    → (i : ℕ) (x : ItemMeaning) (r : Row) → Some x ≡ slice_get m.items i → Some r ≡ slice_get rs i → may_exist x ≡ true
    → r.value < 256 ^ cond r.present x.len 0
value_fits m rs many f i x r e q made =
    let h : i < length m.items = lt_from_nth m.items i x e in
    let a = also_first_yes _ (rows_fit m.items rs rs) (length m.items) f (omega arith) in
    let w : RowFit (item_at m.items i) rs (get_or rs i absent) = each_row_fits m.items rs rs many a.1 i h in
    let u : RowFit x rs r =
    subst (λ (y : ItemMeaning). RowFit y rs r) (get_or-from_nth m.items i x no_item e)
    (subst (λ (s : Row). RowFit (item_at m.items i) rs s) (get_or-from_nth rs i r absent q) w) in
    by r.present refl u
  where
    by : (b : Bool) → r.present ≡ b → RowFit x rs r → r.value < 256 ^ cond b x.len 0
    by true s u = value_small x.kind x r.value refl made (u.has s)
    by false s u = omega (arith, u.none s)

-- what is put before the frame, the frame with the type behind it, and the inner packet are the packet
pub packet_put : (teid : ℕ) (f inner a b c : List ℕ) → a ≡ head_of (length f) teid (length inner) → b ≡ f ++ 0 ∷ [] → c ≡ inner
    → a ++ (b ++ c) ≡ packet_of teid f inner
packet_put teid f inner a b c x y z = ap₂ ◌++◌ x (ap₂ ◌++◌ y z ∙ append_assoc f (0 ∷ []) inner)
