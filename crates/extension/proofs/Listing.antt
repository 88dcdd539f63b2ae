-- What an extension has at each place.
use Rattle.std.proofs.Common.{◌≡◌, ℕ, Option, zero, suc, ◌+◌, ◌-◌, ◌<◌, ◌≤◌, Bool, true, false, cond, leb, List, [], ◌∷◌, ◌++◌, map, length, get_or, take, set, sym, refl, ap, ap₂, ◌∙◌, le_of_suc-le-suc, not-suc-le-zero, arith, length-append, length-take-le, get_or-take}
use lib.ListN.{length-map}
use Rattle.std.specs.List.{slice_get}
use Rattle.std.specs.Option.{option_map, unwrap_or}
use Rattle.std.proofs.lemmas.List.{map-set, take_more_set, map_push, get_or-map, get_or-append_right}
use Rattle.std.proofs.lemmas.Bool.{le-leb}
use Rattle.std.proofs.lemmas.Option.{slice_get-map, unwrap_or-slice_get}
use Rattle.layout.specs.Items.{ItemMeaning, Meaning}
use Rattle.layout.specs.Tables.{NamedItem}
use Rattle.extension.specs.Extended.{Extras, named_too, with_masks, added_items, extended, extended_names}

-- rows of a table of which the first n count: one more, and one changed
pub take_set_within : {X : Type 0} (n : ℕ) (xs : List X) (k : ℕ) (y : X) → k < n → take n (set xs k y) ≡ set (take n xs) k y
take_set_within zero xs k y h = absurd (not-suc-le-zero h)
take_set_within (suc n) [] k y h = refl
take_set_within (suc n) (x ∷ xs) zero y h = refl
take_set_within (suc n) (x ∷ xs) (suc k) y h = ap (λ (l : List _). x ∷ l) (take_set_within n xs k y (le_of_suc-le-suc h))

module _ {X Y : Type 0} (f : X → Y) (xs : List X) (n : ℕ) where
  pub pushed : (y : X) → n < length xs → map f (take (n + 1) (set xs n y)) ≡ map f (take n xs) ++ f y ∷ []
  pushed y h = ap (map f) (take_more_set xs n y h) ∙ map_push f (take n xs) y

  pub changed : (k : ℕ) (y d : X) (e : Y) (g : Y → Y) → k < n → n ≤ length xs → f y ≡ g (f (get_or xs k d))
      → map f (take n (set xs k y)) ≡ set (map f (take n xs)) k (g (get_or (map f (take n xs)) k e))
  changed k y d e g h l q =
      ap (map f) (take_set_within n xs k y h)
      ∙ map-set f (take n xs) k y
      ∙ ap (λ (z : Y). set (map f (take n xs)) k z)
      (q ∙ ap g (sym (get_or-map f (take n xs) k d e (omega (arith, length-take-le n xs l)) ∙ ap f (get_or-take n xs k d h))))

pub length-with_masks : (ms : List ℕ) (is : List ItemMeaning) → length (with_masks ms is) ≡ length is
length-with_masks [] is = refl
length-with_masks (m ∷ ms) [] = refl
length-with_masks (m ∷ ms) (i ∷ is) = ap suc (length-with_masks ms is)

nth-with_masks : (ms : List ℕ) (is : List ItemMeaning) (i : ℕ) → i < length ms
    → slice_get (with_masks ms is) i ≡ option_map (named_too (get_or ms i 0)) (slice_get is i)
nth-with_masks [] is i h = absurd (not-suc-le-zero h)
nth-with_masks (m ∷ ms) [] i h = refl
nth-with_masks (m ∷ ms) (y ∷ is) zero h = refl
nth-with_masks (m ∷ ms) (y ∷ is) (suc i) h = nth-with_masks ms is i (le_of_suc-le-suc h)

nth_left : {X : Type 0} (a b : List X) (i : ℕ) → i < length a → slice_get a i ≡ slice_get (a ++ b) i
nth_left [] b i h = absurd (not-suc-le-zero h)
nth_left (x ∷ a) b zero h = refl
nth_left (x ∷ a) b (suc i) h = nth_left a b i (le_of_suc-le-suc h)

nth_right : {X : Type 0} (a b : List X) (i n : ℕ) → length a ≡ n → n ≤ i → slice_get b (i - n) ≡ slice_get (a ++ b) i
nth_right [] b i n e h = ap (slice_get b) (omega arith)
nth_right (x ∷ a) b zero n e h = absurd (omega arith)
nth_right (x ∷ a) b (suc i) n e h = ap (slice_get b) (step n e) ∙ nth_right a b i (n - 1) (omega arith) (omega arith)
  where
    step : (n : ℕ) → suc (length a) ≡ n → suc i - n ≡ i - (n - 1)
    step n e = omega arith

-- the items over at most 64 items below
abbrev pub items_of : Meaning → Extras → List ItemMeaning
items_of m x = with_masks x.masks m.items ++ added_items x

-- a layout with other items
abbrev pub with_items : Meaning → List ItemMeaning → Meaning
with_items m is = record { pdu_type = m.pdu_type; items = is }

module _ (m : Meaning) (x : Extras) where
  pub length_items : length (items_of m x) ≡ length m.items + length x.added
  length_items =
      length-append (with_masks x.masks m.items) (added_items x)
      ∙ ap₂ ◌+◌ (length-with_masks x.masks m.items) (length-map x.added (λ (i : NamedItem). i.item))

  pub extended_is : length m.items ≤ 64 → extended m x ≡ with_items m (items_of m x)
  extended_is few = ap (λ (b : Bool). cond b (with_items m (items_of m x)) m) (le-leb (length m.items) 64 few)

-- what an extension adds: the masks ms and the items xs
abbrev adding : List ℕ → List NamedItem → Extras
adding ms xs = record { masks = ms; added = xs }

-- how many items there are, and which
module _ (m : Meaning) (ms : List ℕ) (xs : List NamedItem) where
  pub extended_length : length (extended m (adding ms xs)).items ≡ cond (leb (length m.items) 64) (length m.items + length xs) (length m.items)
  extended_length = by (leb (length m.items) 64)
    where
      by : (b : Bool) → length (cond b (with_items m (items_of m (adding ms xs))) m).items ≡ cond b (length m.items + length xs) (length m.items)
      by true = length_items m (adding ms xs)
      by false = refl

  pub extended_count : length m.items ≤ 64 → length (extended m (adding ms xs)).items ≡ length m.items + length xs
  extended_count few = extended_length ∙ ap (λ (b : Bool). cond b (length m.items + length xs) (length m.items)) (le-leb (length m.items) 64 few)

  pub extended_low : (i : ℕ) → length m.items ≤ 64 → i < length m.items → i < length ms
      → slice_get (extended m (adding ms xs)).items i ≡ option_map (named_too (get_or ms i 0)) (slice_get m.items i)
  extended_low i few h l =
      ap (λ (y : Meaning). slice_get y.items i) (extended_is m (adding ms xs) few)
      ∙ sym (nth_left (with_masks ms m.items) (added_items (adding ms xs)) i (omega (arith, length-with_masks ms m.items)))
      ∙ nth-with_masks ms m.items i l

  pub extended_high : (i : ℕ) → length m.items ≤ 64 → length m.items ≤ i
      → slice_get (extended m (adding ms xs)).items i ≡ option_map (λ (y : NamedItem). y.item) (slice_get xs (i - length m.items))
  extended_high i few h =
      ap (λ (y : Meaning). slice_get y.items i) (extended_is m (adding ms xs) few)
      ∙ sym (nth_right (with_masks ms m.items) (added_items (adding ms xs)) i (length m.items) (length-with_masks ms m.items) h)
      ∙ slice_get-map (λ (y : NamedItem). y.item) xs (i - length m.items)

-- the names over n items, ns being those below
module _ (n : ℕ) (ns : List (List ℕ)) (xs : List NamedItem) where
  pub names_length : length (extended_names n ns (adding [] xs)) ≡ cond (leb n 64) (length ns + length xs) (length ns)
  names_length = by (leb n 64)
    where
      by : (b : Bool) → length (cond b (ns ++ map (λ (i : NamedItem). i.name) xs) ns) ≡ cond b (length ns + length xs) (length ns)
      by true = length-append ns (map (λ (i : NamedItem). i.name) xs) ∙ ap (λ (k : ℕ). length ns + k) (length-map xs (λ (i : NamedItem). i.name))
      by false = refl

  pub names_high : (i : ℕ) (d : List ℕ) → length ns ≡ n → n ≤ 64 → n ≤ i
      → get_or (extended_names n ns (adding [] xs)) i d ≡ unwrap_or (option_map (λ (i : NamedItem). i.name) (slice_get xs (i - n))) d
  names_high i d e few h =
      ap (λ (b : Bool). get_or (cond b (ns ++ map (λ (i : NamedItem). i.name) xs) ns) i d) (le-leb n 64 few)
      ∙ get_or-append_right ns (map (λ (i : NamedItem). i.name) xs) n i d e h
      ∙ sym (unwrap_or-slice_get (map (λ (i : NamedItem). i.name) xs) (i - n) d)
      ∙ ap (λ (o : Option (List ℕ)). unwrap_or o d) (slice_get-map (λ (i : NamedItem). i.name) xs (i - n))
