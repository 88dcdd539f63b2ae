-- The second pass, midway: the rows of the items so far stand in the table.
use Rattle.std.proofs.Common.{◌≡◌, ℕ, suc, ◌+◌, ◌<◌, ◌≤◌, Bool, true, cond, eqb, leb, List, [], ◌∷◌, ◌++◌, map, length, take, drop, set, Some, sym, refl, ap, ◌∙◌, subst, ap₂, zero-add, add-one, arith, length-append, length-drop, length-set, take-append-drop, length-take-le, take_all, get_or-take}
use lib.ListN.{length-map}
use Rattle.std.specs.List.{slice_get}
use Rattle.std.proofs.lemmas.List.{take_more_set, drop_all, take_at, drop-drop, drop-set-lt, map-append}
use Rattle.std.proofs.lemmas.Bool.{leb-true}
use Rattle.base.specs.declared.question.Question.TheVariants as Q
use Rattle.base.specs.Answers.{Answer, gives, ask, no_to}
use Rattle.base.specs.Octets.{bit, big_endian}
use Rattle.base.proofs.Asking.{asked_yes, gives_inj}
use Rattle.layout.specs.declared.item.Item.{Item}
use Rattle.layout.specs.Items.{ItemGovernor, ungoverned, governed_by, ItemMeaning, item_at, no_item}
use Rattle.layout.specs.Views.{meant}
use Rattle.layout.proofs.Nths.{take_to_nth, lt_from_nth, get_or-from_nth}
use Rattle.frame.specs.declared.row.Row.{Row}
use Rattle.frame.specs.Pieces.{joined, within, Cut, cut_from}
use Rattle.frame.specs.Rows.{row_of, rows_of, filled}
use Rattle.frame.specs.Surveys.{last_octet, present_by_octets, size_by_octets, row_number, Surveyed}
use Rattle.frame.proofs.Items.{row_is, rows_push, joined_push}
use Rattle.frame.proofs.Along.{next_item}
use Rattle.frame.proofs.Cutting.{Before, Earlier, cut_good}

-- a governor stands before its item, so the last octets of all items say of its size what those of the items before say
present_early : (g : ItemGovernor) (i : ℕ) (os : List ℕ) → Before i g → present_by_octets g os ≡ present_by_octets g (take i os)
present_early ungoverned i os h = refl
present_early (governed_by g b) i os h = ap (λ (v : ℕ). eqb (bit b v) 1) (sym (get_or-take i os g 0 h))

size_early : (is : List ItemMeaning) (i : ℕ) (x : ItemMeaning) (os : List ℕ) → Earlier 0 is → Some x ≡ slice_get is i
    → size_by_octets x os ≡ size_by_octets x (take i os)
size_early is i x os h e =
    let b : Before i (item_at is i).governor = subst (λ (n : ℕ). Before n (item_at is i).governor) (zero-add i) (h i (lt_from_nth is i x e)) in
    ap (λ (t : Bool). cond t x.len 0)
    (present_early x.governor i os (subst (λ (y : ItemMeaning). Before i y.governor) (get_or-from_nth is i x no_item e) b))

-- i of the items are done, and their rows stand in the table t; seen has their pieces
pub record Filling (is : List ItemMeaning) (p₀ : ℕ) (o : List ℕ) (t₀ : List Row) (i : ℕ) (t : List Row) (p : ℕ) (rest : List ℕ) : Type 0 where
  pub seen : List (List ℕ)
  pub same : cut_from is [] p₀ o ≡ cut_from (drop i is) seen p rest
  pub many : length seen ≡ i
  pub within : i ≤ length is
  pub done : take i t ≡ rows_of (take i is) p₀ seen
  pub beyond : drop i t ≡ drop i t₀
  pub wide : length t ≡ length t₀
  pub place : p ≡ p₀ + length (joined seen)
  pub room : p + length rest ≡ p₀ + length o

module _ (is : List ItemMeaning) (p₀ : ℕ) (o : List ℕ) (t₀ : List Row) where
  pub filled_all : (os : List ℕ) → Surveyed is p₀ o os → (i : ℕ) (t : List Row) (p : ℕ) (rest : List ℕ) → Filling is p₀ o t₀ i t p rest → length is ≤ i
      → t ≡ filled is p₀ (cut_from is [] p₀ o) t₀
  unfolding cut_from
  filled_all os s i t p rest f h =
      let w = s.parts in
      let e : i ≡ length is = omega (arith, f.within) in
      let l : ◌≡◌ {A = Cut} (record { pieces = f.seen; tail = rest }) w =
      gives_inj (sym (f.same ∙ ap (λ (l : List ItemMeaning). cut_from l f.seen p rest) (drop_all i is h)) ∙ s.accepted) in
      sym (take-append-drop i t)
      ∙ ap₂ (λ (a b : List Row). a ++ b)
      (f.done ∙ ap₂ (λ (x : List ItemMeaning) (y : List (List ℕ)). rows_of x p₀ y) (take_all i is h) (ap (λ (c : Cut). c.pieces) l))
      (f.beyond ∙ ap (λ (k : ℕ). drop k t₀) e)
      ∙ ap (λ (a : Answer Cut). filled is p₀ a t₀) (sym s.accepted)

  module _ (os : List ℕ) (early : Earlier 0 is) (s : Surveyed is p₀ o os) (i : ℕ) (t : List Row) (p : ℕ) (rest : List ℕ) (f : Filling is p₀ o t₀ i t p rest)
      (x : Item) (n : ℕ) (e : Some (meant x) ≡ slice_get is i) (z : n ≡ size_by_octets (meant x) os) where
    ends : cut_from (drop i is) f.seen p rest ≡ gives s.parts
    ends = sym f.same ∙ s.accepted

    -- the last octets of the items so far
    octets_so_far : take i os ≡ map last_octet f.seen
    octets_so_far =
        let g = cut_good (drop i is) f.seen p rest s.parts ends in
        ap (take i) (s.octets ∙ ap (map last_octet) g.1) ∙ map-front f.seen g.0 i f.many
      where
        map-front : (a b : List (List ℕ)) (k : ℕ) → length a ≡ k → take k (map last_octet (a ++ b)) ≡ map last_octet a
        map-front a b k h = ap (take k) (map-append last_octet a b) ∙ take_at (map last_octet a) (map last_octet b) k (length-map a last_octet ∙ h)

    step : cut_from (drop i is) f.seen p rest
        ≡ ask (leb n (length rest)) (no_to Q.ItemFits p)
        (ask (within (meant x) (take n rest)) (no_to Q.Limit p)
        (cut_from (drop (suc i) is) (f.seen ++ take n rest ∷ []) (p + n) (drop n rest)))
    step = next_item is i p f.seen (take i os) rest x n octets_so_far e (z ∙ size_early is i (meant x) os early e)

    asked_12 : (leb n (length rest) ≡ true)
        × (ask (within (meant x) (take n rest)) (no_to Q.Limit p) (cut_from (drop (suc i) is) (f.seen ++ take n rest ∷ []) (p + n) (drop n rest)) ≡ gives s.parts)
    asked_12 = asked_yes _ _ _ _ (sym step ∙ ends)

    pub fits : n ≤ length rest
    fits = leb-true n (length rest) asked_12.0

    pub filling_more : (c behind : List ℕ) → c ≡ take n rest → behind ≡ drop n rest → (v : ℕ) → (length c ≤ 8 → v ≡ big_endian c) → n ≤ 8
        → (j k : ℕ) → j ≡ i + 1 → k ≡ i → k < length t → (r : Row) → r ≡ row_number (meant x) p n v
        → Filling is p₀ o t₀ j (set t k r) (p + n) behind
    filling_more c behind front back v ev few j k ej ek hk r er =
        let lc : length c ≡ n = ap length front ∙ length-take-le n rest fits in
        let vc : v ≡ big_endian c = ev (omega (arith, lc)) in
        let q : r ≡ row_of (meant x) p c = er ∙ ap₂ (row_number (meant x) p) (sym lc) vc ∙ sym (row_is (meant x) p c) in
        let y = asked_yes _ _ _ _ asked_12.1 in
        let g : cut_from (drop (suc i) is) (f.seen ++ c ∷ []) (p + n) behind ≡ gives s.parts =
        ap₂ (λ (a b : List ℕ). cut_from (drop (suc i) is) (f.seen ++ a ∷ []) (p + n) b) front back ∙ y.1 in
        let il : length (take i is) ≡ length f.seen = length-take-le i is (omega (arith, lt_from_nth is i (meant x) e)) ∙ sym f.many in
        let hi : i < length t = omega arith in
        subst (λ (m : ℕ). Filling is p₀ o t₀ m (set t k r) (p + n) behind) (sym ej)
        (subst (λ (m : ℕ). Filling is p₀ o t₀ (i + 1) (set t m r) (p + n) behind) (sym ek) (record {
          seen = f.seen ++ c ∷ [];
          same = rw add-one (s.accepted ∙ sym g);
          many = length-append f.seen (c ∷ []) ∙ ap (λ (k : ℕ). k + 1) f.many;
          within = omega (arith, lt_from_nth is i (meant x) e);
          done =
              take_more_set t i r hi
              ∙ ap₂ (λ (l : List Row) (m : Row). l ++ m ∷ []) f.done (q ∙ ap (λ (m : ℕ). row_of (meant x) m c) f.place)
              ∙ sym (rows_push (take i is) f.seen (meant x) c p₀ il)
              ∙ ap (λ (l : List ItemMeaning). rows_of l p₀ (f.seen ++ c ∷ [])) (sym (rw add-one (take_to_nth is i (meant x) e)));
          beyond = drop-set-lt (i + 1) t i r (omega arith) ∙ sym (drop-drop 1 i t) ∙ ap (drop 1) f.beyond ∙ drop-drop 1 i t₀;
          wide = length-set t i r ∙ f.wide;
          place = omega (arith, f.place, joined_push f.seen c, lc);
          room = omega (arith, f.room, ap length back, length-drop n rest, fits);
        }))
