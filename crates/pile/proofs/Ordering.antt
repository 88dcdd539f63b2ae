-- Extends is an order on lawful layouts, so the topmost of a pile extends each layout of it.
use Rattle.std.proofs.Common.{◌≡◌, ℕ, zero, suc, ◌<◌, ◌≤◌, List, [], ◌∷◌, length, refl, ap, ◌∙◌, subst, inl, inr, ⊎_elim, arith}
use lib.Bits.{bit_and, and_self, and_le_l}
use Rattle.std.proofs.lemmas.Bool.{cases_lt}
use Rattle.base.specs.Octets.{bit}
use Rattle.base.proofs.Bits.{bit-bit_and, bit_ext}
use Rattle.layout.specs.Items.{ItemGovernor, ungoverned, governed_by, ItemMeaning, Meaning, item_at}
use Rattle.layout.proofs.Made.{mask_small}
use Rattle.pile.specs.Extends.{LawfulLayout, Alike, HangsAbove, Extends, topmost, ExtendsIsOrder, TopmostExtends}

pub keeps_bit : (k a b : ℕ) → bit_and a b ≡ a → bit k a ≤ bit k b
keeps_bit k a b e = omega (arith, bit-bit_and k a b, ap (bit k) e)

keeps_trans : (a b c : ℕ) → a < 256 → bit_and a b ≡ a → bit_and b c ≡ b → bit_and a c ≡ a
keeps_trans a b c h e f =
    bit_ext (bit_and a c) a (omega (arith, and_le_l a c)) h
    (λ k l. omega (arith, bit-bit_and k a c, keeps_bit k a b e, keeps_bit k b c f))

extends_self : (l : Meaning) → LawfulLayout l → Extends l l
extends_self l h =
    record {
      below = h;
      above = h;
      type = refl;
      first = omega arith;
      alike = λ j k. record { kind = refl; governor = refl; len = refl; limit = refl; keeps = and_self (item_at l.items j).mask };
      further = λ j k m. absurd (omega arith);
    }

hangs_further : (low mid : List ItemMeaning) (g : ItemGovernor) → length low ≤ length mid
    → ((j : ℕ) → j < length low → Alike (item_at low j) (item_at mid j)) → HangsAbove mid g → HangsAbove low g
hangs_further low mid ungoverned n a h = h
hangs_further low mid (governed_by g b) n a h =
    ⊎_elim
    (λ (l : g < length low). ⊎_elim (λ (k : length mid ≤ g). absurd (omega arith)) (λ (z : bit b (item_at mid g).mask ≡ 0). inr (omega (arith, keeps_bit b (item_at low g).mask (item_at mid g).mask (a g l).keeps, z))) h)
    (λ (l : length low ≤ g). inl l)
    (cases_lt g (length low))

extends_trans : (a b c : Meaning) → Extends a b → Extends b c → Extends a c
extends_trans a b c e f =
    record {
      below = e.below;
      above = f.above;
      type = e.type ∙ f.type;
      first = omega (arith, e.first, f.first);
      alike = alike;
      further = further;
    }
  where
    alike : (j : ℕ) → j < length a.items → Alike (item_at a.items j) (item_at c.items j)
    alike j l =
        let x = e.alike j l in
        let y = f.alike j (omega (arith, e.first)) in
        record {
          kind = x.kind ∙ y.kind;
          governor = x.governor ∙ y.governor;
          len = x.len ∙ y.len;
          limit = x.limit ∙ y.limit;
          keeps = keeps_trans (item_at a.items j).mask (item_at b.items j).mask (item_at c.items j).mask (mask_small (item_at a.items j) (e.below.items j l)) x.keeps y.keeps;
        }

    further : (j : ℕ) → length a.items ≤ j → j < length c.items → HangsAbove a.items (item_at c.items j).governor
    further j l k =
        ⊎_elim
        (λ (m : j < length b.items). subst (HangsAbove a.items) (f.alike j m).governor (e.further j l m))
        (λ (m : length b.items ≤ j). hangs_further a.items b.items _ e.first e.alike (f.further j m k))
        (cases_lt j (length b.items))

pub extends_is_order : ExtendsIsOrder
extends_is_order = (extends_self, extends_trans)

pub topmost_extends : TopmostExtends
topmost_extends l [] p zero = extends_self l p
topmost_extends l [] p (suc k) = extends_self l p
topmost_extends l (m ∷ ms) p zero = extends_trans l m (topmost m ms) p.0 (topmost_extends m ms p.1 zero)
topmost_extends l (m ∷ ms) p (suc k) = topmost_extends m ms p.1 k
