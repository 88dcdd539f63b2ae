-- How a layout that extends another grows: bits named in an item, and an item added at the end, keep it so.
use Rattle.std.proofs.Common.{◌≡◌, ℕ, ◌+◌, ◌/◌, ◌%◌, ◌^◌, ◌<◌, ◌≤◌, true, eqb, ltb, List, [], ◌∷◌, ◌++◌, length, set, sym, refl, ap, ◌∙◌, subst, ⊎_elim, arith, length-set}
use lib.Bits.{bit_and, bit_or, and_self, and_le_l, or_lt}
use Rattle.std.proofs.lemmas.List.{get_or-set_same, get_or-set_other, get_or_append_left, get_or_push, length_push}
use Rattle.std.proofs.lemmas.Bool.{and_parts, and_from, eq-eqb, eqb-true, lt-ltb, ltb-true, cases_lt, cases_eq}
use Rattle.base.specs.Octets.{bit}
use Rattle.base.proofs.Bits.{bit-bit_and, bit-bit_or, bit_ext, bit_le, bit_same, pow8}
use Rattle.layout.specs.Items.{ItemKind, bits_octet, a_number, ItemGovernor, ungoverned, governed_by, ItemMeaning, Meaning}
use Rattle.layout.specs.Items.{is_bits, is_free, may_exist, may_exist_as, EachMayExist, item_at, no_item}
use Rattle.layout.specs.Questions.{may_lead}
use Rattle.layout.proofs.Hooks.{Hook, Hooked, hooks, all_fit}
use Rattle.layout.proofs.Made.{mask_small}
use Rattle.layout.proofs.Passing.{Passes, passes_from, lawful_from}
use Rattle.pile.specs.Extends.{LawfulLayout, Alike, HangsAbove, Extends}
use Rattle.pile.proofs.Ordering.{keeps_bit, extends_is_order}
use Rattle.extension.specs.Extended.{joined_mask, named_too}
use Rattle.extension.proofs.Listing.{with_items}

-- the items of a list are alike those of another at the same places
abbrev AlikeAll : List ItemMeaning → List ItemMeaning → Type 0
AlikeAll is js = (j : ℕ) → j < length is → Alike (item_at is j) (item_at js j)

alike_same : {i j : ItemMeaning} → i ≡ j → Alike i j
alike_same {i} e = subst (Alike i) e (record { kind = refl; governor = refl; len = refl; limit = refl; keeps = and_self i.mask })

hooked_alike : (is js : List ItemMeaning) (n : ℕ) (g : ItemGovernor) → n ≤ length is → AlikeAll is js → Hooked is n g → Hooked js n g
hooked_alike is js n ungoverned l a h = tt
hooked_alike is js n (governed_by g b) l a h =
    let x = a g (omega (arith, h.early)) in
    record {
      early = h.early;
      octet = sym x.kind ∙ h.octet;
      named = omega (arith, keeps_bit b (item_at is g).mask (item_at js g).mask x.keeps, bit_le b (item_at js g).mask, h.named);
      low = h.low;
    }

-- an octet that keeps the bits of one with bits 7 to 4 has them too
leads_keeps : (a b : ℕ) → b < 256 → bit_and a b ≡ a → a / 16 ≡ 15 → b / 16 ≡ 15
leads_keeps a b h e q =
    let h4 : a / 16 % 2 ≤ b / 16 % 2 = keeps_bit 4 a b e in
    let h5 : a / 32 % 2 ≤ b / 32 % 2 = keeps_bit 5 a b e in
    let h6 : a / 64 % 2 ≤ b / 64 % 2 = keeps_bit 6 a b e in
    let h7 : a / 128 % 2 ≤ b / 128 % 2 = keeps_bit 7 a b e in
    omega arith

lead_alike : (i j : ItemMeaning) → may_exist j ≡ true → Alike i j → may_lead i ≡ true → may_lead j ≡ true
lead_alike i j m a e =
    let p = and_parts (is_bits i.kind) _ e in
    let q = and_parts (is_free i.governor) (eqb (i.mask / 16) 15) p.1 in
    and_from _ _ (ap is_bits (sym a.kind) ∙ p.0)
    (and_from _ _ (ap is_free (sym a.governor) ∙ q.0)
    (eq-eqb (j.mask / 16) 15 (leads_keeps i.mask j.mask (mask_small j m) a.keeps (eqb-true (i.mask / 16) 15 q.1))))

-- a layout is lawful whose items may exist, whose first item leads, and whose governors are hooked
lawful_hooked : (m : Meaning) → EachMayExist m.items → 1 ≤ length m.items → length m.items ≤ 64 → may_lead (item_at m.items 0) ≡ true
    → ((j : ℕ) → j < length m.items → Hooked m.items j (item_at m.items j).governor) → LawfulLayout m
lawful_hooked m made some few leads h =
    record { items = made; passes = lawful_from m (record { some = some; few = few; leads = leads; fit = all_fit m.items h }) }

-- items alike in place of those of a lawful layout
alike_extends : (m : Meaning) (js : List ItemMeaning) → LawfulLayout m → length js ≡ length m.items → AlikeAll m.items js → EachMayExist js
    → Extends m (with_items m js)
alike_extends m js l n a made =
    record {
      below = l;
      above =
          lawful_hooked (with_items m js) made (omega (arith, p.some)) (omega (arith, p.few))
          (lead_alike _ _ (made 0 (omega (arith, p.some))) (a 0 p.some) p.leads) hooked;
      type = refl;
      first = omega arith;
      alike = a;
      further = λ j h k. absurd (omega arith);
    }
  where
    p : Passes m
    p = passes_from 0 m (l.passes 0)

    hooked : (j : ℕ) → j < length js → Hooked js j (item_at js j).governor
    hooked j h =
        let k : j < length m.items = omega arith in
        subst (Hooked js j) (a j k).governor (hooked_alike m.items js j _ (omega arith) a (hooks 0 m (l.passes 0) j k))

-- bits named in an item
or_keeps : (a b : ℕ) → a < 256 → bit_and a (bit_or a b) ≡ a
or_keeps a b h =
    bit_ext (bit_and a (bit_or a b)) a (omega (arith, and_le_l a (bit_or a b))) h
    (λ k l. omega (arith, bit-bit_and k a (bit_or a b), bit-bit_or k a b))

joined_keeps : (k : ItemKind) (a b : ℕ) → a < 256 → bit_and a (joined_mask k a b) ≡ a
joined_keeps bits_octet a b h = or_keeps a b h
joined_keeps a_number a b h = and_self a

alike_named : (bits : ℕ) (i : ItemMeaning) → may_exist i ≡ true → Alike i (named_too bits i)
alike_named bits i m =
    record { kind = refl; governor = refl; len = refl; limit = refl; keeps = joined_keeps i.kind i.mask bits (mask_small i m) }

named_may_exist : (bits : ℕ) (i : ItemMeaning) → bits < 256 → may_exist i ≡ true → may_exist (named_too bits i) ≡ true
named_may_exist bits i h = by i.kind
  where
    by : (k : ItemKind) → may_exist_as k i ≡ true
        → may_exist_as k (record { kind = i.kind; governor = i.governor; len = i.len; mask = joined_mask k i.mask bits; limit = i.limit }) ≡ true
    by bits_octet e =
        let p = and_parts (eqb i.len 1) _ e in
        let q = and_parts (ltb i.mask 256) _ p.1 in
        and_from _ _ p.0 (and_from _ _ (lt-ltb _ 256 (or_lt 8 i.mask bits (ltb-true i.mask 256 q.0) h)) q.1)
    by a_number e = e

abbrev pub named_at : ℕ → ℕ → List ItemMeaning → List ItemMeaning
named_at p bits is = set is p (named_too bits (item_at is p))

at_named : (P : ItemMeaning → Type 0) (is : List ItemMeaning) (p bits j : ℕ) → j < length is → P (item_at is j) → P (named_too bits (item_at is j))
    → P (item_at (named_at p bits is) j)
at_named P is p bits j h old new =
    ⊎_elim
    (λ (e : j ≡ p).
    subst P (ap (λ (q : ℕ). named_too bits (item_at is q)) e ∙ sym (get_or-set_same is p (named_too bits (item_at is p)) no_item (omega arith))
    ∙ ap (item_at (named_at p bits is)) (sym e)) new)
    (λ (e : j ≡ p → ⊥). subst P (sym (get_or-set_other is p j (named_too bits (item_at is p)) no_item e)) old)
    (cases_eq j p)

naming_extends : (m : Meaning) (p bits : ℕ) → LawfulLayout m → bits < 256 → Extends m (with_items m (named_at p bits m.items))
naming_extends m p bits l h = alike_extends m (named_at p bits m.items) l same alike each
  where
    same : length (named_at p bits m.items) ≡ length m.items
    same = length-set m.items p (named_too bits (item_at m.items p))

    alike : AlikeAll m.items (named_at p bits m.items)
    alike j k = at_named (Alike (item_at m.items j)) m.items p bits j k (alike_same refl) (alike_named bits (item_at m.items j) (l.items j k))

    each : EachMayExist (named_at p bits m.items)
    each j k =
        let q : j < length m.items = omega (arith, same) in
        at_named (λ i. may_exist i ≡ true) m.items p bits j q (l.items j q) (named_may_exist bits (item_at m.items j) h (l.items j q))

pub extends_naming : (low up : Meaning) (p bits : ℕ) → bits < 256 → Extends low up → Extends low (with_items up (named_at p bits up.items))
extends_naming low up p bits h e = extends_is_order.1 low up (with_items up (named_at p bits up.items)) e (naming_extends up p bits e.above h)

-- a bit that is named in an earlier bits octet hooks what comes after
bit-joined : (k : ItemKind) (b a : ℕ) → k ≡ bits_octet → b < 8 → bit b (joined_mask k a (2 ^ b)) ≡ 1
bit-joined bits_octet b a e h = omega (arith, bit-bit_or b a (2 ^ b), bit_same b h, bit_le b a)
bit-joined a_number b a e h = let z : ◌≡◌ {A = ℕ} 0 1 = cc in absurd (omega arith)

hook_named : (is : List ItemMeaning) (g b : ℕ) → g < length is → (item_at is g).kind ≡ bits_octet → b < 8 → (g ≡ 0 → b < 4)
    → Hook (named_at g (2 ^ b) is) (length (named_at g (2 ^ b) is)) g b
hook_named is g b h k l low =
    let n = length-set is g (named_too (2 ^ b) (item_at is g)) in
    let e : named_too (2 ^ b) (item_at is g) ≡ item_at (named_at g (2 ^ b) is) g = sym (get_or-set_same is g _ no_item h) in
    record {
      early = omega (arith, n);
      octet = subst (λ (x : ItemMeaning). x.kind ≡ bits_octet) e k;
      named = subst (λ (x : ItemMeaning). bit b x.mask ≡ 1) e (bit-joined (item_at is g).kind b (item_at is g).mask k l);
      low = low;
    }

-- an item added at the end
module _ (is : List ItemMeaning) (i : ItemMeaning) where
  at_added : (P : ItemMeaning → Type 0) (j : ℕ) → j < length (is ++ i ∷ []) → (j < length is → P (item_at is j)) → (j ≡ length is → P i)
      → P (item_at (is ++ i ∷ []) j)
  at_added P j h old new =
      ⊎_elim
      (λ (l : j < length is). subst P (sym (get_or_append_left is (i ∷ []) no_item j l)) (old l))
      (λ (l : length is ≤ j).
      let e : length is ≡ j = omega (arith, length_push is i) in
      subst P (sym (get_or_push is i no_item j e)) (new (sym e)))
      (cases_lt j (length is))

  alike_added : AlikeAll is (is ++ i ∷ [])
  alike_added j h = alike_same (sym (get_or_append_left is (i ∷ []) no_item j h))

-- its governor is hooked, and above the lower layout
extends_adding : (low up : Meaning) (i : ItemMeaning) → Extends low up → length up.items < 64 → may_exist i ≡ true
    → Hooked up.items (length up.items) i.governor → HangsAbove low.items i.governor → Extends low (with_items up (up.items ++ i ∷ []))
extends_adding low up i e few made hook hang =
    record {
      below = e.below;
      above = lawful_hooked (with_items up (up.items ++ i ∷ [])) each (omega (arith, p.some, more)) (omega (arith, more)) leads hooked;
      type = e.type;
      first = omega (arith, e.first, more);
      alike = λ j h. at (Alike (item_at low.items j)) j (omega (arith, e.first, more)) (λ q. e.alike j h) (λ q. absurd (omega (arith, e.first)));
      further = λ j h k. at (λ x. HangsAbove low.items x.governor) j k (e.further j h) (λ q. hang);
    }
  where
    p : Passes up
    p = passes_from 0 up (e.above.passes 0)

    more : length (up.items ++ i ∷ []) ≡ length up.items + 1
    more = length_push up.items i

    at : (P : ItemMeaning → Type 0) (j : ℕ) → j < length (up.items ++ i ∷ []) → (j < length up.items → P (item_at up.items j))
        → (j ≡ length up.items → P i) → P (item_at (up.items ++ i ∷ []) j)
    at = at_added up.items i

    each : EachMayExist (up.items ++ i ∷ [])
    each j h = at (λ x. may_exist x ≡ true) j h (e.above.items j) (λ q. made)

    leads : may_lead (item_at (up.items ++ i ∷ []) 0) ≡ true
    leads = at (λ x. may_lead x ≡ true) 0 (omega (arith, more)) (λ q. p.leads) (λ q. absurd (omega (arith, p.some)))

    hooked : (j : ℕ) → j < length (up.items ++ i ∷ []) → Hooked (up.items ++ i ∷ []) j (item_at (up.items ++ i ∷ []) j).governor
    hooked j h =
        at (λ x. Hooked (up.items ++ i ∷ []) j x.governor) j h
        (λ q. hooked_alike up.items _ j _ (omega arith) (alike_added up.items i) (hooks 0 up (e.above.passes 0) j q))
        (λ q. hooked_alike up.items _ j _ (omega arith) (alike_added up.items i) (subst (λ (n : ℕ). Hooked up.items n i.governor) (sym q) hook))

-- a governor's bit named, then an item added that it governs
pub extends_governed : (low up : Meaning) (i : ItemMeaning) (g b : ℕ) → Extends low up → length up.items < 64 → may_exist i ≡ true
    → i.governor ≡ governed_by g b → g < length up.items → (item_at up.items g).kind ≡ bits_octet → b < 8 → (g ≡ 0 → b < 4)
    → HangsAbove low.items (governed_by g b) → Extends low (with_items up (named_at g (2 ^ b) up.items ++ i ∷ []))
extends_governed low up i g b e few made by h k l lo hang =
    extends_adding low (with_items up is) i (extends_naming low up g (2 ^ b) (pow8 b l) e)
    (omega (arith, length-set up.items g (named_too (2 ^ b) (item_at up.items g)))) made
    (subst (Hooked is (length is)) (sym by) (hook_named up.items g b h k l lo)) (subst (HangsAbove low.items) (sym by) hang)
  where
    is : List ItemMeaning
    is = named_at g (2 ^ b) up.items
