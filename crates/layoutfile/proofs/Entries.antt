-- The entries of a file, and the items that they are.
use Rattle.std.proofs.Common.{◌≡◌, ℕ, zero, suc, ◌+◌, ◌*◌, ◌<◌, Bool, true, false, not, cond, List, [], ◌∷◌, map, length, take, drop, is_some, Some, None, Option, sym, refl, ap, ◌∙◌, le_of_suc-le-suc, not-suc-le-zero, arith}
use lib.ListN.{length-map}
use Rattle.std.specs.List.{slice_get, position_or_len}
use Rattle.std.specs.Option.{option_map}
use Rattle.std.proofs.lemmas.List.{drop-drop}
use Rattle.std.proofs.lemmas.List.Recursion.{is_position_or_len}
use Rattle.std.proofs.lemmas.Option.{slice_get-map}
use Rattle.base.specs.Answers.{first_no}
use Rattle.layout.specs.declared.entry.RawEntry.{RawEntry}
use Rattle.layout.specs.Items.{ItemMeaning}
use Rattle.layout.specs.Tables.{NamedItem}
use Rattle.layout.specs.Entries.{entry_accepted}
use Rattle.layoutfile.specs.Files.{stated_count, sixteens, entry_in, entries, EachIsItem, with_entry, items_of}

pub length-sixteens : (n : ℕ) (os : List ℕ) → length (sixteens n os) ≡ n
length-sixteens zero os = refl
length-sixteens (suc n) os = ap suc (length-sixteens n (drop 16 os))

pub length-entries : (os : List ℕ) → length (entries os) ≡ stated_count os
length-entries os = length-map (sixteens (stated_count os) (drop 8 os)) entry_in ∙ length-sixteens (stated_count os) (drop 8 os)

nth-sixteens : (n : ℕ) (os : List ℕ) (i : ℕ) → i < n → Some (entry_in (take 16 (drop (16 * i) os))) ≡ slice_get (map entry_in (sixteens n os)) i
nth-sixteens zero os i h = absurd (not-suc-le-zero h)
nth-sixteens (suc n) os zero h = refl
nth-sixteens (suc n) os (suc i) h =
    let d : 16 * suc i ≡ 16 + 16 * i = omega arith in
    ap (λ (m : ℕ). Some (entry_in (take 16 (drop m os)))) d
    ∙ ap (λ (l : List ℕ). Some (entry_in (take 16 l))) (sym (drop-drop (16 * i) 16 os))
    ∙ nth-sixteens n (drop 16 os) i (le_of_suc-le-suc h)

-- where entry i lies
pub nth-entries : (os : List ℕ) (i : ℕ) → i < stated_count os → Some (entry_in (take 16 (drop (8 + 16 * i) os))) ≡ slice_get (entries os) i
nth-entries os i h =
    ap (λ (l : List ℕ). Some (entry_in (take 16 l))) (sym (drop-drop (16 * i) 8 os)) ∙ nth-sixteens (stated_count os) (drop 8 os) i h

-- what is said of an option by its two cases
pub mapped_twice : {X Y Z : Type 0} (f : Y → Z) (g : X → Y) (o : Option X) → option_map f (option_map g o) ≡ option_map (λ x. f (g x)) o
mapped_twice f g None = refl
mapped_twice f g (Some x) = refl

pub some_mapped : {X Y : Type 0} (f : X → Y) (o : Option X) → is_some (option_map f o) ≡ is_some o
some_mapped f None = refl
some_mapped f (Some x) = refl

-- the first no, as a search for it finds it
pub first_no_found : {X Y : Type 0} (f : X → Bool) (g : Y → X) (ys : List Y) → first_no (map f (map g ys)) ≡ position_or_len (λ y. not (f (g y))) ys
first_no_found f g = is_position_or_len (λ ys. first_no (map f (map g ys))) (λ y. not (f (g y))) refl (λ y ys. one (f (g y)) (map f (map g ys)))
  where
    one : (b : Bool) (bs : List Bool) → first_no (b ∷ bs) ≡ cond (not b) 0 (1 + first_no bs)
    one true bs = omega arith
    one false bs = refl

-- entries that are all items give one named item each: what f says of it is what g says of its entry
with_item : {X : Type 0} (f : NamedItem → X) (n : List ℕ) (a : Option ItemMeaning) (is : List NamedItem) (x : X) → is_some a ≡ true
    → ((i : ItemMeaning) → a ≡ Some i → f (record { name = n; item = i }) ≡ x) → map f (with_entry n a is) ≡ x ∷ map f is
with_item f n None is x e h = absurd (cc)
with_item f n (Some i) is x e h = ap (λ y. y ∷ map f is) (h i refl)

one_each : {X : Type 0} (f : NamedItem → X) (g : RawEntry → X)
    → ((e : RawEntry) (i : ItemMeaning) → entry_accepted e ≡ Some i → f (record { name = e.name.letters; item = i }) ≡ g e)
    → (es : List RawEntry) → EachIsItem es → map f (items_of es) ≡ map g es
one_each f g s [] h = refl
one_each f g s (e ∷ es) h =
    with_item f e.name.letters (entry_accepted e) (items_of es) (g e) (h 0 e refl) (s e)
    ∙ ap (λ r. g e ∷ r) (one_each f g s es (λ i x q. h (suc i) x q))

pub kept_names : (es : List RawEntry) → EachIsItem es → map (λ i. i.name) (items_of es) ≡ map (λ e. e.name.letters) es
kept_names es h = one_each (λ (x : NamedItem). x.name) (λ (e : RawEntry). e.name.letters) (λ e i q. refl) es h

pub as_many : (es : List RawEntry) → EachIsItem es → length (items_of es) ≡ length es
as_many es h = sym (length-map (items_of es) (λ (i : NamedItem). i.name)) ∙ ap length (kept_names es h) ∙ length-map es (λ (e : RawEntry). e.name.letters)

-- item i, as entry i is accepted
pub item_found : (es : List RawEntry) → EachIsItem es → (i : ℕ) (e : RawEntry) → Some e ≡ slice_get es i → entry_accepted e ≡ slice_get (map (λ i. i.item) (items_of es)) i
item_found es h i e q =
    let m =
    simp slice_get-map at
    (ap (λ (r : List (Option ItemMeaning)). slice_get r i) (one_each (λ (x : NamedItem). Some x.item) entry_accepted (λ d j r. sym r) es h)) in
    rw slice_get-map (found (slice_get (items_of es) i) (slice_get es i) m q)
  where
    found : (o : Option NamedItem) (p : Option RawEntry) → option_map (λ (x : NamedItem). Some x.item) o ≡ option_map entry_accepted p
        → Some e ≡ p → entry_accepted e ≡ option_map (λ (x : NamedItem). x.item) o
    found o None m q = absurd (cc)
    found None (Some d) m q = absurd (cc)
    found (Some x) (Some d) m q = cc
