-- Whatever is built over a lawful layout extends it.
use Rattle.std.proofs.Common.{◌≡◌, ℕ, zero, suc, ◌+◌, ◌-◌, ◌/◌, ◌%◌, ◌^◌, ◌<◌, ◌≤◌, Bool, true, false, cond, eqb, ltb, List, [], ◌∷◌, ◌++◌, length, get_or, set, replicate, Some, None, Option, sym, refl, ap, ◌∙◌, subst, ap₂, inl, inr, ⊎_elim, append_assoc, append-nil, le_of_suc-le-suc, not-suc-le-zero, arith, lit<, length-set}
use lib.Arith.{bin_ind}
use lib.Bits.{bit_or, or_step, or_shr, or_zero_r}
use lib.ListN.{length-replicate, get_or-map}
use Rattle.std.proofs.lemmas.List.{get_or_append_left, get_or-append_right, set-append_left, set-append_right, map-set, map_push}
use Rattle.std.proofs.lemmas.Bool.{and_parts, eqb-true, ltb-true, lt-ltb, le-ltb, cases_lt, cond-true, cond-false, cond_both}
use Rattle.base.specs.declared.refusal.Refusal.{Refusal}
use Rattle.base.specs.Answers.{Answer, refused, gives}
use Rattle.base.specs.Octets.{bit}
use Rattle.base.proofs.Asking.{never, gives_inj, asked_yes, bound}
use Rattle.base.proofs.Bits.{below8}
use Rattle.layout.specs.declared.entry.RawEntry.{RawEntry}
use Rattle.layout.specs.declared.maker.RawItem.{RawItem}
use Rattle.layout.specs.Items.{ItemKind, bits_octet, a_number, ItemGovernor, ungoverned, governed_by, ItemMeaning, Meaning}
use Rattle.layout.specs.Tables.{NamedItem}
use Rattle.layout.specs.Items.{is_bits, is_free, may_exist, item_at, no_item}
use Rattle.layout.specs.Entries.{is_name, entry_accepted}
use Rattle.layout.specs.Views.{governor_accepted, kind_accepted, accepted_with, accepted}
use Rattle.layout.proofs.Hooks.{bits_is}
use Rattle.layout.proofs.Passing.{Passes, passes_from}
use Rattle.pile.specs.Extends.{LawfulLayout, HangsAbove, Extends}
use Rattle.pile.proofs.Ordering.{extends_is_order}
use Rattle.extension.specs.Extended.{Extras, joined_mask, named_too, with_masks, added_items}
use Rattle.extension.specs.Building.{item_or, may_hang_on, may_add, name_below, no_named, called_too, name_added, name_governor, with_added, added_by, add_entry, may_name, may_name_bits, named_by, name_bits}
use Rattle.extension.specs.Building.{BuildStep, adding, naming, build, kept, nothing_added, built, OctetStep, OctetSteps, BuiltExtends}
use Rattle.extension.proofs.Listing.{length-with_masks, items_of, with_items, length_items, extended_is}
use Rattle.extension.proofs.Growing.{named_at, extends_naming, extends_governed}

-- bits joined one after another are joined at once
or_assoc : (a b c : ℕ) → bit_or (bit_or a b) c ≡ bit_or a (bit_or b c)
or_assoc =
    bin_ind (λ (n : ℕ). (b c : ℕ) → bit_or (bit_or n b) c ≡ bit_or n (bit_or b c)) (λ b c. refl)
    (λ n ih b c.
    let p : bit_or (bit_or n b / 2) (c / 2) ≡ bit_or (n / 2) (bit_or b c / 2) =
    ap (λ (x : ℕ). bit_or x (c / 2)) (or_shr n b 1) ∙ ih (b / 2) (c / 2) ∙ ap (bit_or (n / 2)) (sym (or_shr b c 1)) in
    omega (arith, or_step (bit_or n b) c, or_step n (bit_or b c), or_step n b, or_step b c, p))

joined_twice : (k : ItemKind) (old a b : ℕ) → joined_mask k old (bit_or a b) ≡ joined_mask k (joined_mask k old a) b
joined_twice bits_octet old a b = sym (or_assoc old a b)
joined_twice a_number old a b = refl

joined_none : (k : ItemKind) (old : ℕ) → joined_mask k old 0 ≡ old
joined_none bits_octet old = or_zero_r old
joined_none a_number old = refl

-- an item with another mask
abbrev masked : ItemMeaning → ℕ → ItemMeaning
masked i m = record { kind = i.kind; governor = i.governor; len = i.len; mask = m; limit = i.limit }

named_twice : (a b : ℕ) (i : ItemMeaning) → named_too (bit_or a b) i ≡ named_too b (named_too a i)
named_twice a b i = ap (masked i) (joined_twice i.kind i.mask a b)

named_none : (i : ItemMeaning) → named_too 0 i ≡ i
named_none i = ap (masked i) (joined_none i.kind i.mask)

masks_none : (n : ℕ) (is : List ItemMeaning) → with_masks (replicate n 0) is ≡ is
masks_none zero is = refl
masks_none (suc n) [] = refl
masks_none (suc n) (i ∷ is) = ap₂ (λ (x : ItemMeaning) (l : List ItemMeaning). x ∷ l) (named_none i) (masks_none n is)

masks_named : (ms : List ℕ) (is : List ItemMeaning) (j bits : ℕ) → j < length ms → j < length is
    → with_masks (set ms j (bit_or (get_or ms j 0) bits)) is ≡ named_at j bits (with_masks ms is)
masks_named [] is j bits h l = absurd (not-suc-le-zero h)
masks_named (m ∷ ms) [] j bits h l = absurd (not-suc-le-zero l)
masks_named (m ∷ ms) (i ∷ is) zero bits h l = ap (λ (x : ItemMeaning). x ∷ with_masks ms is) (named_twice m bits i)
masks_named (m ∷ ms) (i ∷ is) (suc j) bits h l =
    ap (λ (r : List ItemMeaning). named_too m i ∷ r) (masks_named ms is j bits (le_of_suc-le-suc h) (le_of_suc-le-suc l))

module _ (m : Meaning) (x : Extras) where
  items_at_added : (g : ℕ) → length m.items ≤ g → item_at (items_of m x) g ≡ item_at (added_items x) (g - length m.items)
  items_at_added g h =
      get_or-append_right (with_masks x.masks m.items) (added_items x) (length m.items) g no_item (length-with_masks x.masks m.items) h

  items_name_below : (j bits : ℕ) → j < length x.masks → j < length m.items → items_of m (name_below j bits x) ≡ named_at j bits (items_of m x)
  items_name_below j bits h l =
      let a = with_masks x.masks m.items in
      let k : j < length a = omega (arith, length-with_masks x.masks m.items) in
      ap (λ (r : List ItemMeaning). r ++ added_items x) (masks_named x.masks m.items j bits h l)
      ∙ sym (set-append_left a (added_items x) j (named_too bits (item_at a j)) k)
      ∙ ap (λ (y : ItemMeaning). set (items_of m x) j (named_too bits y)) (sym (get_or_append_left a (added_items x) no_item j k))

  added_name_added : (k bits : ℕ) → added_items (name_added k bits x) ≡ named_at k bits (added_items x)
  added_name_added k bits =
      map-set (λ (i : NamedItem). i.item) x.added k (called_too bits (get_or x.added k no_named))
      ∙ ap (λ (y : ItemMeaning). set (added_items x) k (named_too bits y)) (sym (get_or-map (λ (i : NamedItem). i.item) x.added k no_named))

  items_name_added : (g bits : ℕ) → length m.items ≤ g → items_of m (name_added (g - length m.items) bits x) ≡ named_at g bits (items_of m x)
  items_name_added g bits h =
      let a = with_masks x.masks m.items in
      ap (λ (r : List ItemMeaning). a ++ r) (added_name_added (g - length m.items) bits)
      ∙ sym (set-append_right a (added_items x) (length m.items) g _ (length-with_masks x.masks m.items) h)
      ∙ ap (λ (y : ItemMeaning). set (items_of m x) g (named_too bits y)) (sym (items_at_added g h))

  items_with_added : (i : NamedItem) → items_of m (with_added i x) ≡ items_of m x ++ i.item ∷ []
  items_with_added i =
      ap (λ (r : List ItemMeaning). with_masks x.masks m.items ++ r) (map_push (λ (j : NamedItem). j.item) x.added i)
      ∙ sym (append_assoc (with_masks x.masks m.items) (added_items x) (i.item ∷ []))

  module _ (wide : length x.masks ≡ 64) (few : length m.items ≤ 64) where
    items_name_governor : (g b : ℕ) → items_of m (name_governor (length m.items) (governed_by g b) x) ≡ named_at g (2 ^ b) (items_of m x)
    items_name_governor g b =
        ⊎_elim
        (λ (h : g < length m.items).
        ap (items_of m) (cond-true (ltb g (length m.items)) _ _ (lt-ltb g (length m.items) h)) ∙ items_name_below g (2 ^ b) (omega arith) h)
        (λ (h : length m.items ≤ g).
        ap (items_of m) (cond-false (ltb g (length m.items)) _ _ (le-ltb g (length m.items) h)) ∙ items_name_added g (2 ^ b) h)
        (cases_lt g (length m.items))

length-name_governor : (n g b : ℕ) (x : Extras) → length (name_governor n (governed_by g b) x).masks ≡ length x.masks
length-name_governor n g b x =
    cond_both (ltb g n) _ _ (λ (y : Extras). length y.masks ≡ length x.masks) (λ e. length-set x.masks g _) (λ e. refl)

-- what is built so far: its items extend the layout below
record Sound (m : Meaning) (x : Extras) : Type 0 where
  wide : length x.masks ≡ 64
  extends : Extends m (with_items m (items_of m x))

sound_none : (m : Meaning) → LawfulLayout m → Sound m nothing_added
sound_none m l =
    record {
      wide = length-replicate {A = ℕ} 64 0;
      extends =
          subst (λ (is : List ItemMeaning). Extends m (with_items m is))
          (sym (append-nil (with_masks (replicate 64 0) m.items) ∙ masks_none 64 m.items))
          (extends_is_order.0 m l);
    }

module _ (m : Meaning) (x : Extras) (s : Sound m x) where
  below : Passes m
  below = passes_from 0 m (s.extends.below.passes 0)

  sound_named : (j bits : ℕ) → j < length m.items → bits < 256 → Sound m (name_below j bits x)
  sound_named j bits h l =
      record {
        wide = length-set x.masks j _ ∙ s.wide;
        extends =
            subst (λ (is : List ItemMeaning). Extends m (with_items m is))
            (sym (items_name_below m x j bits (omega (arith, s.wide, below.few)) h))
            (extends_naming m (with_items m (items_of m x)) j bits l s.extends);
      }

-- a bit that is spare where bits 7 to 4 are named is one of the other four
low_spare : (v b : ℕ) → v / 16 ≡ 15 → b < 8 → bit b v ≡ 0 → b < 4
low_spare v b e h =
    below8 (λ (k : ℕ). bit k v ≡ 0 → k < 4)
    (λ z. lit< tt) (λ z. lit< tt) (λ z. lit< tt) (λ z. lit< tt)
    (λ z. absurd (high4 z)) (λ z. absurd (high5 z)) (λ z. absurd (high6 z)) (λ z. absurd (high7 z)) b h
  where
    high4 : v / 16 % 2 ≡ 0 → ⊥
    high4 z = omega arith

    high5 : v / 32 % 2 ≡ 0 → ⊥
    high5 z = omega arith

    high6 : v / 64 % 2 ≡ 0 → ⊥
    high6 z = omega arith

    high7 : v / 128 % 2 ≡ 0 → ⊥
    high7 z = omega arith

-- what a yes to question 27 says
record Hanging (m : Meaning) (x : Extras) (g b : ℕ) : Type 0 where
  early : g < length (items_of m x)
  octet : (item_at (items_of m x) g).kind ≡ bits_octet
  low : g ≡ 0 → b < 4
  above : HangsAbove m.items (governed_by g b)

hanging : (m : Meaning) (x : Extras) (g b : ℕ) → Sound m x → b < 8 → may_hang_on m x (governed_by g b) ≡ true → Hanging m x g b
hanging m x g b s l e = ⊎_elim spare added (cases_lt g (length m.items))
  where
    spare : g < length m.items → Hanging m x g b
    spare h =
        let t = sym (cond-true (ltb g (length m.items)) _ _ (lt-ltb g (length m.items) h)) ∙ e in
        let q = and_parts (is_bits (item_at m.items g).kind) _ t in
        let z : bit b (item_at m.items g).mask ≡ 0 = eqb-true (bit b (item_at m.items g).mask) 0 q.1 in
        let p = and_parts (is_bits (item_at m.items 0).kind) _ (below m x s).leads in
        let r = and_parts (is_free (item_at m.items 0).governor) (eqb ((item_at m.items 0).mask / 16) 15) p.1 in
        record {
          early = omega (arith, length_items m x);
          octet = sym (s.extends.alike g h).kind ∙ bits_is _ q.0;
          low = λ n.
              low_spare (item_at m.items 0).mask b (eqb-true ((item_at m.items 0).mask / 16) 15 r.1) l
              (subst (λ (k : ℕ). bit b (item_at m.items k).mask ≡ 0) n z);
          above = inr z;
        }

    added : length m.items ≤ g → Hanging m x g b
    added h =
        let t = sym (cond-false (ltb g (length m.items)) _ _ (le-ltb g (length m.items) h)) ∙ e in
        let q = and_parts (ltb (g - length m.items) (length x.added)) _ t in
        record {
          early = omega (arith, length_items m x, ltb-true (g - length m.items) (length x.added) q.0);
          octet = ap (λ (i : ItemMeaning). i.kind) (items_at_added m x g h) ∙ bits_is _ q.1;
          low = λ n. absurd (omega (arith, (below m x s).some));
          above = inl h;
        }

-- the bit of a governor is one of an octet
abbrev OctetBit : ItemGovernor → Type 0
OctetBit ungoverned = Unit {0}
OctetBit (governed_by g b) = b < 8

-- what yeses to 25, 26 and 27 say of an item
record Addable (m : Meaning) (x : Extras) (i : ItemMeaning) : Type 0 where
  made : may_exist i ≡ true
  eight : OctetBit i.governor
  room : length m.items + length x.added < 64
  hangs : may_hang_on m x i.governor ≡ true

sound_added : (m : Meaning) (x : Extras) (i : ItemMeaning) (name : List ℕ) → Sound m x → Addable m x i
    → Sound m (with_added (record { name = name; item = i }) (name_governor (length m.items) i.governor x))
sound_added m x i name s a = by i.governor refl
  where
    by : (g : ItemGovernor) → i.governor ≡ g → Sound m (with_added (record { name = name; item = i }) (name_governor (length m.items) g x))
    by ungoverned e =
        let h : false ≡ true = subst (λ (g : ItemGovernor). may_hang_on m x g ≡ true) e a.hangs in
        let z : ◌≡◌ {A = ℕ} 0 1 = cc in
        absurd (omega arith)
    by (governed_by g b) e =
        let l : b < 8 = subst OctetBit e a.eight in
        let h = hanging m x g b s l (subst (λ (g : ItemGovernor). may_hang_on m x g ≡ true) e a.hangs) in
        let y = name_governor (length m.items) (governed_by g b) x in
        record {
          wide = length-name_governor (length m.items) g b x ∙ s.wide;
          extends =
              subst (λ (is : List ItemMeaning). Extends m (with_items m is))
              (sym (items_with_added m y (record { name = name; item = i })
              ∙ ap (λ (is : List ItemMeaning). is ++ i ∷ []) (items_name_governor m x s.wide (below m x s).few g b)))
              (extends_governed m (with_items m (items_of m x)) i g b s.extends (omega (arith, length_items m x, a.room)) a.made e
              h.early h.octet l h.low h.above);
        }

-- what is accepted from an entry
cond_some : {A : Type 0} (t : Bool) (o : Option A) (i : A) → cond t o None ≡ Some i → (t ≡ true) × (o ≡ Some i)
cond_some true o i e = (refl, e)
cond_some false o i e = absurd (let z : ◌≡◌ {A = ℕ} 0 1 = cc in let b : ⊥ = omega arith in b)

governor_bit : (g b : ℕ) (r : ItemGovernor) → governor_accepted g b ≡ Some r → OctetBit r
governor_bit g b r = by (eqb g 255)
  where
    by : (t : Bool) → cond t (cond (eqb b 0) (Some ungoverned) None) (cond (ltb b 8) (Some (governed_by g b)) None) ≡ Some r → OctetBit r
    by true e =
        let q = cond_some (eqb b 0) (Some ungoverned) r e in
        let s : ungoverned ≡ r = cc q.1 in
        subst OctetBit s tt
    by false e =
        let q = cond_some (ltb b 8) (Some (governed_by g b)) r e in
        let s : governed_by g b ≡ r = cc q.1 in
        subst OctetBit s (ltb-true b 8 q.0)

accepted_some : (k : Option ItemKind) (g : Option ItemGovernor) (r : RawItem) (i : ItemMeaning) → accepted_with k g r ≡ Some i
    → (may_exist i ≡ true) × (g ≡ Some i.governor)
accepted_some None g r i e = absurd (let z : ◌≡◌ {A = ℕ} 0 1 = cc in let b : ⊥ = omega arith in b)
accepted_some (Some k) None r i e = absurd (let z : ◌≡◌ {A = ℕ} 0 1 = cc in let b : ⊥ = omega arith in b)
accepted_some (Some k) (Some g) r i e =
    let j : ItemMeaning = record { kind = k; governor = g; len = r.length; mask = r.mask; limit = r.limit } in
    let q = cond_some (may_exist j) (Some j) i e in
    let s : j ≡ i = cc q.1 in
    (subst (λ (y : ItemMeaning). may_exist y ≡ true) s q.0, ap (λ (y : ItemMeaning). Some y.governor) s)

entry_item_lem : (e : RawEntry) (i : ItemMeaning) → entry_accepted e ≡ Some i → (may_exist i ≡ true) × OctetBit i.governor
entry_item_lem e i h =
    let a = (cond_some (is_name e.name.letters) (accepted e.item) i h).1 in
    let q = accepted_some (kind_accepted e.item.kind) (governor_accepted e.item.governor e.item.bit) e.item i a in
    (q.0, governor_bit e.item.governor e.item.bit i.governor q.1)

item_or_gives : {A : Type 0} (i : Option ItemMeaning) (r : Refusal) (next : ItemMeaning → Answer A) (a : A) → item_or i r next ≡ gives a
    → (j : ItemMeaning) × (i ≡ Some j) × (next j ≡ gives a)
unfolding item_or
item_or_gives None r next a e = never (sym e)
item_or_gives (Some j) r next a e = (j, refl, e)

may_add_gives : (o : ℕ) (m : Meaning) (x : Extras) (e : RawEntry) (i : ItemMeaning) → may_add o m x e ≡ gives i → Addable m x i
unfolding may_add
may_add_gives o m x e i h =
    let a = item_or_gives _ _ _ _ (bound _ _ _ h).2 in
    let c = asked_yes _ _ _ _ a.2 in
    let d = asked_yes _ _ _ _ c.1 in
    let q = entry_item_lem e a.0 a.1 in
    let n = and_parts (ltb (length x.added) 16) _ c.0 in
    subst (Addable m x) (gives_inj d.1)
    (record { made = q.0; eight = q.1; room = ltb-true (length m.items + length x.added) 64 n.1; hangs = d.0 })

-- an accepted step stands behind accepted questions
added_gives : (m : Meaning) (x : Extras) (e : RawEntry) (a : Answer ItemMeaning) (y : Extras) → added_by m x e a ≡ gives y
    → (i : ItemMeaning) × (a ≡ gives i) × (with_added (record { name = e.name.letters; item = i }) (name_governor (length m.items) i.governor x) ≡ y)
added_gives m x e (refused r) y h = never (sym h)
added_gives m x e (gives i) y h = (i, refl, gives_inj h)

named_gives : (x : Extras) (j bits : ℕ) (a : Answer (Unit {0})) (y : Extras) → named_by x j bits a ≡ gives y → (a ≡ gives tt) × (name_below j bits x ≡ y)
named_gives x j bits (refused r) y h = never (sym h)
named_gives x j bits (gives tt) y h = (refl, gives_inj h)

may_name_gives : (o : ℕ) (m : Meaning) (j bits : ℕ) → may_name_bits o m j bits ≡ gives tt → may_name m j bits ≡ true
unfolding may_name_bits
may_name_gives o m j bits h = (asked_yes _ _ _ _ (bound _ _ _ h).2).0

-- each step keeps it
sound_add : (o : ℕ) (m : Meaning) (x : Extras) (e : RawEntry) (y : Extras) → Sound m x → add_entry o m x e ≡ gives y → Sound m y
sound_add o m x e y s h =
    let a = added_gives m x e (may_add o m x e) y h in
    subst (Sound m) a.2 (sound_added m x a.0 e.name.letters s (may_add_gives o m x e a.0 a.1))

sound_name : (o : ℕ) (m : Meaning) (x : Extras) (j bits : ℕ) (y : Extras) → bits < 256 → Sound m x → name_bits o m x j bits ≡ gives y → Sound m y
sound_name o m x j bits y l s h =
    let a = named_gives x j bits (may_name_bits o m j bits) y h in
    let n = and_parts (ltb j (length m.items)) _ (may_name_gives o m j bits a.0) in
    subst (Sound m) a.1 (sound_named m x s j bits (ltb-true j (length m.items) n.0) l)

sound_gives : (o : ℕ) (m : Meaning) (x : Extras) (t : BuildStep) (y : Extras) → OctetStep t → Sound m x → build o m x t ≡ gives y → Sound m y
sound_gives o m x (adding e) y q s h = sound_add o m x e y s h
sound_gives o m x (naming j bits) y q s h = sound_name o m x j bits y q s h

sound_kept : (o : ℕ) (m : Meaning) (x : Extras) (t : BuildStep) → OctetStep t → Sound m x → Sound m (kept x (build o m x t))
sound_kept o m x t q s = by (build o m x t) refl
  where
    by : (a : Answer Extras) → build o m x t ≡ a → Sound m (kept x a)
    by (refused r) e = s
    by (gives y) e = sound_gives o m x t y q s e

sound_built : (o : ℕ) (m : Meaning) → LawfulLayout m → (ss : List BuildStep) → OctetSteps ss → Sound m (built o m ss)
sound_built o m l [] q = sound_none m l
sound_built o m l (t ∷ ss) q = sound_kept o m (built o m ss) t q.0 (sound_built o m l ss q.1)

pub built_extends : BuiltExtends
built_extends o m l ss q =
    let s = sound_built o m l ss q in
    subst (Extends m) (sym (extended_is m (built o m ss) (below m (built o m ss) s).few)) s.extends
