-- Deciding whether a layout extends another: what each comparison of the code adds.
use Rattle.std.proofs.Common.{◌≡◌, ℕ, ◌+◌, ◌<◌, ◌≤◌, List, length, Some, None, sym, ap, ◌∙◌, subst, ⊎_elim, arith, below_more}
use Rattle.std.specs.List.{slice_get}
use Rattle.std.proofs.lemmas.Bool.{cases_lt}
use Rattle.base.specs.Answers.{gives}
use Rattle.layout.specs.declared.item.Item.{Item}
use Rattle.layout.specs.Itemized.{ItemGiven}
use Rattle.layout.specs.Views.{meant}
use Rattle.layout.specs.Items.{ItemMeaning, Meaning, EachMayExist, item_at, no_item}
use Rattle.layout.specs.Questions.{lawful}
use Rattle.layout.proofs.Nths.{lt_from_nth, le_from_nth, get_or-from_nth}
use Rattle.layout.proofs.Passing.{lawful_any}
use Rattle.pile.specs.declared.fault.Part.{Part}
use Rattle.pile.specs.declared.fault.ExtendsFault.TheVariants.{Missing, Unlike, Stray}
use Rattle.pile.specs.Extends.{LawfulLayout, Alike, HangsAbove, Extends}
use Rattle.pile.specs.Reasons.{Differs, Comparable, AlikeBelow, FurtherBelow, Reason}

pub lawful_layout : (o : ℕ) (m : Meaning) → EachMayExist m.items → lawful o m ≡ gives tt → LawfulLayout m
lawful_layout o m e h = record { items = e; passes = lawful_any m o h }

-- what the code keeps of two lawful layouts of one type
pub comparable : (o p : ℕ) (low up : Meaning) → EachMayExist low.items → lawful o low ≡ gives tt → EachMayExist up.items → lawful p up ≡ gives tt
    → low.pdu_type ≡ up.pdu_type → Comparable low up
comparable o p low up e f g h t = record { below = lawful_layout o low e f; above = lawful_layout p up g h; type = t }

-- an item that two lists have at a place, by what the code was answered
at_place : (P : ItemMeaning → ItemMeaning → Type 0) (low up : List ItemMeaning) (i : ℕ) (l u : ItemMeaning)
    → Some l ≡ slice_get low i → Some u ≡ slice_get up i → P l u → P (item_at low i) (item_at up i)
at_place P low up i l u e f h =
    subst (λ (y : ItemMeaning). P (item_at low i) y) (sym (get_or-from_nth up i u no_item f))
    (subst (λ (x : ItemMeaning). P x u) (sym (get_or-from_nth low i l no_item e)) h)

-- item l is given at place i of the lower layout, where the code looks as far as a: the item above is missing, unlike or alike
module _ (low up : Meaning) (a i b : ℕ) (l : Item) (so : AlikeBelow low.items up.items a) (e : i ≡ a) (f : ItemGiven low.items a l b) where
  before : AlikeBelow low.items up.items i
  before = subst (AlikeBelow low.items up.items) (sym e) so

  there : Some (meant l) ≡ slice_get low.items i
  there = f.item ∙ ap (slice_get low.items) (sym e)

  pub alike_more : (u : ItemMeaning) → Some u ≡ slice_get up.items i → Alike (meant l) u → AlikeBelow low.items up.items b
  alike_more u g h =
      subst (AlikeBelow low.items up.items) (ap (λ (n : ℕ). n + 1) e ∙ sym f.next)
      (below_more _ _ before (lt_from_nth up.items i u g, at_place Alike low.items up.items i (meant l) u there g h))

  module _ (o p : ℕ) (c : Comparable low up) where
    pub missing_here : None ≡ slice_get up.items i → Reason o p low up (Missing i)
    missing_here g = (c, before, omega (arith, e, f.within), le_from_nth up.items i g)

    pub unlike_here : (u : ItemMeaning) (part : Part) → Some u ≡ slice_get up.items i → Differs part (meant l) u → Reason o p low up (Unlike i part)
    unlike_here u part g d =
        (c, before, omega (arith, e, f.within), lt_from_nth up.items i u g, at_place (Differs part) low.items up.items i (meant l) u there g d)

-- an upper item given at place a, past the lower ones
module _ (low up : Meaning) (a b : ℕ) (u : Item) (so : FurtherBelow low.items up.items a) (f : ItemGiven up.items a u b) where
  here : (meant u).governor ≡ (item_at up.items a).governor
  here = ap (λ (x : ItemMeaning). x.governor) (sym (get_or-from_nth up.items a (meant u) no_item f.item))

  pub further_more : HangsAbove low.items (meant u).governor → FurtherBelow low.items up.items b
  further_more h =
      subst (FurtherBelow low.items up.items) (sym f.next)
      (λ j l k. below_more (λ (n : ℕ). length low.items ≤ n → HangsAbove low.items (item_at up.items n).governor) a (λ n m q. so n q m) (λ q. subst (HangsAbove low.items) here h) j k l)

  pub stray_here : (o p i : ℕ) → Comparable low up → AlikeBelow low.items up.items (length low.items) → i ≡ a → length low.items ≤ i
      → (HangsAbove low.items (meant u).governor → ⊥) → Reason o p low up (Stray i)
  stray_here o p i c al e l h = (
    c,
    al,
    subst (FurtherBelow low.items up.items) (sym e) so,
    l,
    omega (arith, e, f.within),
    λ x. h (subst (HangsAbove low.items) (ap (λ (n : ℕ). (item_at up.items n).governor) e ∙ sym here) x),
  )

-- the lower items come first where each of them is there above
first_from : (low up : List ItemMeaning) → AlikeBelow low up (length low) → length low ≤ length up
first_from low up a = ⊎_elim (λ (h : length up < length low). absurd (let b : ⊥ = omega (arith, (a (length up) h).0) in b)) (λ (h : length low ≤ length up). h) (cases_lt (length up) (length low))

pub extends_from : (low up : Meaning) (n : ℕ) → length up.items ≤ n → FurtherBelow low.items up.items n → Comparable low up
    → AlikeBelow low.items up.items (length low.items) → Extends low up
extends_from low up n l so c a =
    record {
      below = c.below;
      above = c.above;
      type = c.type;
      first = first_from low.items up.items a;
      alike = λ j h. (a j h).1;
      further = λ j h k. so j h (omega arith);
    }
