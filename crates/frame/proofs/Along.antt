-- A pass over the items of a frame, midway: what the cut still has to do, and what the code holds.
use Rattle.std.proofs.Common.{◌≡◌, ℕ, suc, ◌+◌, ◌%◌, ◌<◌, ◌≤◌, Bool, true, false, cond, ltb, leb, List, [], ◌∷◌, ◌++◌, map, length, take, drop, Some, sym, refl, ap, ◌∙◌, subst, ap₂, add-one, arith, length-append, length-drop, length-take-le}
use mir.Val.{bool_byte}
use Rattle.std.specs.List.{slice_get, IsSplitAt}
use Rattle.std.proofs.lemmas.List.{map_push, drop_all}
use Rattle.std.proofs.lemmas.Bool.{le-leb, lt-leb}
use Rattle.base.specs.declared.question.Question.TheVariants as Q
use Rattle.base.specs.Answers.{refused, gives, ask, no_to}
use Rattle.base.specs.Octets.{big_endian}
use Rattle.base.proofs.Asking.{ask_yes, ask_no, bind_gives, bind_refused}
use Rattle.layout.specs.declared.item.Item.{Item}
use Rattle.layout.specs.Items.{ItemMeaning}
use Rattle.layout.specs.Views.{meant}
use Rattle.layout.proofs.Nths.{drop_at_nth}
use Rattle.frame.specs.Pieces.{size_of, within, cut_from}
use Rattle.frame.specs.Rows.{how_many}
use Rattle.frame.specs.Surveys.{last_octet, size_by_octets, within_number, surveyed}
use Rattle.frame.proofs.Items.{present_is, within_is, how_many_push}

-- i of the items are done; seen has their pieces, os their last octets
pub record Along (is : List ItemMeaning) (p₀ : ℕ) (o : List ℕ) (i : ℕ) (os : List ℕ) (many p : ℕ) (rest : List ℕ) : Type 0 where
  pub seen : List (List ℕ)
  pub same : cut_from is [] p₀ o ≡ cut_from (drop i is) seen p rest
  pub octets : os ≡ map last_octet seen
  pub each : length os ≡ i
  pub counted : many ≡ how_many seen
  pub few : many ≤ i
  pub room : p + length rest ≡ p₀ + length o

-- the next item x, of n octets
pub next_item : (is : List ItemMeaning) (i p : ℕ) (seen : List (List ℕ)) (os rest : List ℕ) (x : Item) (n : ℕ)
    → os ≡ map last_octet seen → Some (meant x) ≡ slice_get is i → n ≡ size_by_octets (meant x) os
    → cut_from (drop i is) seen p rest
    ≡ ask (leb n (length rest)) (no_to Q.ItemFits p)
    (ask (within (meant x) (take n rest)) (no_to Q.Limit p)
    (cut_from (drop (suc i) is) (seen ++ take n rest ∷ []) (p + n) (drop n rest)))
unfolding cut_from
next_item is i p seen os rest x n v e s =
    let z : size_of (meant x) seen ≡ n = ap (λ (b : Bool). cond b x.length 0) (present_is x.governor seen os v) ∙ sym s in
    ap (λ (l : List ItemMeaning). cut_from l seen p rest) (drop_at_nth is i (meant x) e)
    ∙ ap
    (λ (m : ℕ).
    ask (leb m (length rest)) (no_to Q.ItemFits p)
    (ask (within (meant x) (take m rest)) (no_to Q.Limit p)
    (cut_from (drop (suc i) is) (seen ++ take m rest ∷ []) (p + m) (drop m rest))))
    z

module _ (is : List ItemMeaning) (p₀ : ℕ) (o : List ℕ) where
  module _ (i : ℕ) (os : List ℕ) (many p : ℕ) (rest : List ℕ) (x : Item) (n : ℕ) (a : Along is p₀ o i os many p rest)
      (e : Some (meant x) ≡ slice_get is i) (ds : List ℕ) (d : ds ≡ os) (s : n ≡ size_by_octets (meant x) ds) where
    next : cut_from is [] p₀ o
        ≡ ask (leb n (length rest)) (no_to Q.ItemFits p)
        (ask (within (meant x) (take n rest)) (no_to Q.Limit p)
        (cut_from (drop (suc i) is) (a.seen ++ take n rest ∷ []) (p + n) (drop n rest)))
    next = a.same ∙ next_item is i p a.seen ds rest x n (d ∙ a.octets) e s

    pub along_short : length rest < n → refused (no_to Q.ItemFits p) ≡ surveyed (cut_from is [] p₀ o)
    unfolding surveyed
    along_short h = sym (bind_refused _ _ _ (next ∙ ask_no _ _ _ (lt-leb n (length rest) h)))

    module _ (c behind : List ℕ) (cut : IsSplitAt rest n c behind) (v : ℕ) (ev : length c ≤ 8 → v ≡ big_endian c) (few : n ≤ 8) where
      value_is : v ≡ big_endian (take n rest)
      value_is = ev (omega (arith, cut.3)) ∙ ap big_endian cut.1

      fitting : (b : Bool) → b ≡ within_number (meant x).kind x.limit v
          → cut_from is [] p₀ o
          ≡ ask b (no_to Q.Limit p) (cut_from (drop (suc i) is) (a.seen ++ take n rest ∷ []) (p + n) (drop n rest))
      fitting b w =
          next
          ∙ ask_yes _ _ _ (le-leb n (length rest) cut.0)
          ∙ ap (λ (t : Bool). ask t (no_to Q.Limit p) (cut_from (drop (suc i) is) (a.seen ++ take n rest ∷ []) (p + n) (drop n rest)))
          (within_is (meant x).kind x.limit (take n rest) ∙ sym (w ∙ ap (within_number (meant x).kind x.limit) value_is))

      pub along_over : false ≡ within_number (meant x).kind x.limit v → refused (no_to Q.Limit p) ≡ surveyed (cut_from is [] p₀ o)
      unfolding surveyed
      along_over w = sym (bind_refused _ _ _ (fitting false w ∙ ask_no _ _ _ refl))

      pub along_more : true ≡ within_number (meant x).kind x.limit v → (j : ℕ) → j ≡ i + 1 → (ns : List ℕ) → ns ≡ os ++ v % 256 ∷ []
          → (one : ℕ) → one ≡ bool_byte (ltb 0 n) → Along is p₀ o j ns (many + one) (p + n) behind
      along_more w j ej ns en one eo =
          subst (λ (k : ℕ). Along is p₀ o k ns (many + one) (p + n) behind) (sym ej)
          (subst (λ (l : List ℕ). Along is p₀ o (i + 1) l (many + one) (p + n) behind) (sym en)
          (subst (λ (l : List ℕ). Along is p₀ o (i + 1) (os ++ v % 256 ∷ []) (many + one) (p + n) l) (sym cut.2) (record {
            seen = a.seen ++ take n rest ∷ [];
            same = rw add-one (fitting true w ∙ ask_yes _ _ _ refl);
            octets =
                ap₂ (λ (l : List ℕ) (m : ℕ). l ++ m ∷ []) a.octets (ap (λ (m : ℕ). m % 256) value_is)
                ∙ sym (map_push last_octet a.seen (take n rest));
            each = length-append os (v % 256 ∷ []) ∙ ap (λ (k : ℕ). k + 1) a.each;
            counted =
                ap₂ (λ (k m : ℕ). k + m) a.counted (eo ∙ ap (λ (m : ℕ). bool_byte (ltb 0 m)) (sym (length-take-le n rest cut.0)))
                ∙ sym (how_many_push a.seen (take n rest));
            few = few_more (ltb 0 n) eo;
            room = omega (arith, a.room, length-drop n rest, cut.0);
          })))
        where
          few_more : (b : Bool) → one ≡ bool_byte b → many + one ≤ i + 1
          few_more true h = omega (arith, a.few, h)
          few_more false h = omega (arith, a.few, h)

  pub along_all : (i : ℕ) (os : List ℕ) (many p : ℕ) (rest : List ℕ) → Along is p₀ o i os many p rest → length is ≤ i
      → gives (record { octets = os; present = many; tail = rest }) ≡ surveyed (cut_from is [] p₀ o)
  unfolding surveyed cut_from
  along_all i os many p rest a h =
      let l : cut_from is [] p₀ o ≡ gives (record { pieces = a.seen; tail = rest }) =
      a.same ∙ ap (λ (l : List ItemMeaning). cut_from l a.seen p rest) (drop_all i is h) in
      ap₂ (λ (x : List ℕ) (y : ℕ). gives (record { octets = x; present = y; tail = rest })) a.octets a.counted
      ∙ sym (bind_gives _ _ _ l)
