-- An accepted reading is the one and only cut by the rule of presence.
use Rattle.std.proofs.Common.{◌≡◌, ℕ, ◌+◌, ◌%◌, ◌^◌, ◌<◌, Bool, true, false, cond, List, [], ◌∷◌, ◌++◌, map, length, sym, refl, ap, ◌∙◌, subst, zero-add, arith}
use native.Mathlib.Nat.{zero-div}
use lib.ListN.{length-map}
use Rattle.std.proofs.lemmas.List.{get_or-map}
use Rattle.std.proofs.lemmas.Bool.{eqb-true, eq-eqb}
use Rattle.base.specs.Answers.{gives}
use Rattle.base.specs.Octets.{bit, big_endian}
use Rattle.base.proofs.Asking.{gives_inj}
use Rattle.layout.specs.Items.{bits_octet, ItemGovernor, ungoverned, governed_by, ItemMeaning, Meaning, item_at, no_item}
use Rattle.layout.specs.Questions.{lawful}
use Rattle.layout.proofs.Hooks.{Hooked, hooks}
use Rattle.frame.specs.Pieces.{joined, piece, present_by, size_of, Cut, cut_from}
use Rattle.frame.specs.Laws.{IsThere, IsCut, InLimits, OnlyCut, ReadingIsOnlyCut}
use Rattle.frame.proofs.Cutting.{Fit, Before, Earlier, read_pieces, pieces_read}

-- question 3: a governor stands before its item
before : (is : List ItemMeaning) (n : ℕ) (g : ItemGovernor) → Hooked is n g → Before n g
before is n ungoverned h = tt
before is n (governed_by g b) h = h.early

pub earlier : (o : ℕ) (m : Meaning) → lawful o m ≡ gives tt → Earlier 0 m.items
earlier o m e j l =
    subst (λ (n : ℕ). Before n (item_at m.items j).governor) (sym (zero-add j))
    (before m.items j (item_at m.items j).governor (hooks o m e j l))

-- the rule of presence and its test
there_present : (g : ItemGovernor) (cs : List (List ℕ)) → IsThere g cs → present_by g cs ≡ true
there_present ungoverned cs h = refl
there_present (governed_by g b) cs h = eq-eqb _ _ h.1

present_there : (g : ItemGovernor) (cs : List (List ℕ)) → present_by g cs ≡ true → IsThere g cs
present_there ungoverned cs e = tt
present_there (governed_by g b) cs e =
    let one : bit b (big_endian (piece cs g)) ≡ 1 = eqb-true _ _ e in (
      λ (none : piece cs g ≡ []).
          let zero : bit b (big_endian (piece cs g)) ≡ 0 = ap (λ (c : List ℕ). bit b (big_endian c)) none ∙ ap (λ (n : ℕ). n % 2) (zero-div (2 ^ b)) in
          omega (arith, one, zero),
      one,
    )

-- a cut by the rule of presence gives each item its size, and the other way round
module _ (is : List ItemMeaning) (o : List ℕ) (w : Cut) where
  sized : IsCut is o w → (j : ℕ) → j < length is → length (piece w.pieces j) ≡ size_of (item_at is j) w.pieces
  sized c j l = by (present_by (item_at is j).governor w.pieces) refl
    where
      by : (b : Bool) → present_by (item_at is j).governor w.pieces ≡ b → length (piece w.pieces j) ≡ size_of (item_at is j) w.pieces
      by true e =
          c.there j l (present_there (item_at is j).governor w.pieces e) ∙ sym (ap (λ (t : Bool). cond t (item_at is j).len 0) e)
      by false e =
          let gone : piece w.pieces j ≡ [] =
          c.not_there j l (λ h. let z : ◌≡◌ {A = ℕ} 0 1 = cc (e, there_present (item_at is j).governor w.pieces h) in omega arith) in
          ap length gone ∙ sym (ap (λ (t : Bool). cond t (item_at is j).len 0) e)

  cut_by_size : length w.pieces ≡ length is → joined w.pieces ++ w.tail ≡ o
      → ((j : ℕ) → j < length is → length (piece w.pieces j) ≡ size_of (item_at is j) w.pieces) → IsCut is o w
  cut_by_size n e s = record {
    each = n;
    whole = e;
    there = λ j l h. s j l ∙ ap (λ (t : Bool). cond t (item_at is j).len 0) (there_present (item_at is j).governor w.pieces h);
    not_there = λ j l h. none (piece w.pieces j) (s j l ∙ absent j h (present_by (item_at is j).governor w.pieces) refl);
  }
    where
      none : (c : List ℕ) → length c ≡ 0 → c ≡ []
      none [] e = refl
      none (x ∷ xs) e = absurd (let b : ⊥ = omega arith in b)

      absent : (j : ℕ) → (IsThere (item_at is j).governor w.pieces → ⊥) → (b : Bool) → present_by (item_at is j).governor w.pieces ≡ b
          → size_of (item_at is j) w.pieces ≡ 0
      absent j h true e = absurd (h (present_there (item_at is j).governor w.pieces e))
      absent j h false e = ap (λ (t : Bool). cond t (item_at is j).len 0) e

-- an item without its limit, so that only the rule of presence is left of its cut
abbrev unlimited : ItemMeaning → ItemMeaning
unlimited i = record { kind = bits_octet; governor = i.governor; len = i.len; mask = i.mask; limit = i.limit }

unlimited_at : (is : List ItemMeaning) (j : ℕ) → j < length is → item_at (map unlimited is) j ≡ unlimited (item_at is j)
unlimited_at is j l = get_or-map unlimited is j no_item no_item l

module _ (is : List ItemMeaning) (h : Earlier 0 is) where
  long : length (map unlimited is) ≡ length is
  long = length-map is unlimited

  earlier_unlimited : Earlier 0 (map unlimited is)
  earlier_unlimited j l =
      let k : j < length is = omega (arith, long) in
      subst (λ (i : ItemMeaning). Before (0 + j) i.governor) (sym (unlimited_at is j k)) (h j k)

  -- every cut by the rule of presence is what cutting without limits gives
  unlimited_cut : (p : ℕ) (o : List ℕ) (v : Cut) → IsCut is o v → cut_from (map unlimited is) [] p o ≡ gives v
  unlimited_cut p o v c =
      ap (cut_from (map unlimited is) [] p) (sym c.whole)
      ∙ pieces_read (map unlimited is) v.pieces p v.tail earlier_unlimited (record { many = c.each ∙ sym long; fit = fit })
    where
      fit : (j : ℕ) → j < length (map unlimited is) → Fit (item_at (map unlimited is) j) v.pieces (piece v.pieces j)
      fit j l =
          let k : j < length is = omega (arith, long) in
          subst (λ (i : ItemMeaning). Fit i v.pieces (piece v.pieces j)) (sym (unlimited_at is j k))
          (record { long = sized is o v c j k; small = refl })

  cut_only : (p : ℕ) (o : List ℕ) (w : Cut) → cut_from is [] p o ≡ gives w → OnlyCut is o w
  cut_only p o w e =
      let r = read_pieces is p o w h e in
      let c : IsCut is o w = cut_by_size is o w r.1.many (sym r.0) (λ j l. (r.1.fit j l).long) in
      record {
        cut = c;
        limits = λ j l. (r.1.fit j l).small;
        only = λ v d. gives_inj (sym (unlimited_cut p o v d) ∙ unlimited_cut p o w c);
      }

  only_cut : (p : ℕ) (o : List ℕ) (w : Cut) → IsCut is o w → InLimits is w.pieces → cut_from is [] p o ≡ gives w
  only_cut p o w c n =
      ap (cut_from is [] p) (sym c.whole)
      ∙ pieces_read is w.pieces p w.tail h (record { many = c.each; fit = λ j l. record { long = sized is o w c j l; small = n j l } })

pub reading_is_only_cut : ReadingIsOnlyCut
reading_is_only_cut o m e p frame w =
    (cut_only m.items (earlier o m e) p frame w, only_cut m.items (earlier o m e) p frame w)
