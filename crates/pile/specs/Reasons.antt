-- Why one layout does not extend another: the first thing that fails.
use Rattle.std.specs.Prelude.{◌≡◌, ℕ, ◌<◌, ◌≤◌, List, length, ◌≢◌, bit_and}
use Rattle.base.specs.Answers.{refused}
use Rattle.layout.specs.Faults.{layout_refusal}
use Rattle.layout.specs.Items.{ItemMeaning, Meaning, item_at}
use Rattle.layout.specs.Questions.{lawful}
use Rattle.pile.specs.declared.fault.Part.{Part}
use Rattle.pile.specs.declared.fault.Part.TheVariants.{Kind, Governor, Length, Limit, Mask}
use Rattle.pile.specs.declared.fault.ExtendsFault.{ExtendsFault}
use Rattle.pile.specs.declared.fault.ExtendsFault.TheVariants.{Lower, Upper, PduType, Missing, Unlike, Stray}
use Rattle.pile.specs.Extends.{LawfulLayout, Alike, HangsAbove, Extends}

-- the first part in which two items are not alike
abbrev pub Differs : Part → ItemMeaning → ItemMeaning → Type 0
Differs Kind l u = l.kind ≡ u.kind → ⊥
Differs Governor l u = (l.kind ≡ u.kind) × (l.governor ≢ u.governor)
Differs Length l u = (l.kind ≡ u.kind) × (l.governor ≡ u.governor) × (l.len ≢ u.len)
Differs Limit l u = (l.kind ≡ u.kind) × (l.governor ≡ u.governor) × (l.len ≡ u.len) × (l.limit ≢ u.limit)
Differs Mask l u =
    (l.kind ≡ u.kind) × (l.governor ≡ u.governor) × (l.len ≡ u.len) × (l.limit ≡ u.limit)
    × (bit_and l.mask u.mask ≢ l.mask)

-- both layouts are lawful and of one type
pub record Comparable (low up : Meaning) : Type 0 where
  pub below : LawfulLayout low
  pub above : LawfulLayout up
  pub type : low.pdu_type ≡ up.pdu_type

-- the first n lower items are there above, alike
abbrev pub AlikeBelow : List ItemMeaning → List ItemMeaning → ℕ → Type 0
AlikeBelow low up n = (j : ℕ) → j < n → (j < length up) × Alike (item_at low j) (item_at up j)

-- the further items below n have their governors above
abbrev pub FurtherBelow : List ItemMeaning → List ItemMeaning → ℕ → Type 0
FurtherBelow low up n = (j : ℕ) → length low ≤ j → j < n → HangsAbove low (item_at up j).governor

-- The reason that a fault gives, where the lower layout has the origin o and the upper p. They stand in their order: each
-- says too that those before it do not hold.
abbrev pub Reason : ℕ → ℕ → Meaning → Meaning → ExtendsFault → Type 0
-- the lower layout is not lawful
Reason o p low up (Lower f) = lawful o low ≡ refused (layout_refusal f)
-- the upper layout is not lawful
Reason o p low up (Upper f) = LawfulLayout low × (lawful p up ≡ refused (layout_refusal f))
-- they are of two types
Reason o p low up (PduType l u) =
    LawfulLayout low × LawfulLayout up × (l ≡ low.pdu_type) × (u ≡ up.pdu_type) × (low.pdu_type ≢ up.pdu_type)
-- a lower item is not there above
Reason o p low up (Missing n) =
    Comparable low up × AlikeBelow low.items up.items n × (n < length low.items) × (length up.items ≤ n)
-- a lower item is another above
Reason o p low up (Unlike n part) =
    Comparable low up × AlikeBelow low.items up.items n × (n < length low.items) × (n < length up.items)
    × Differs part (item_at low.items n) (item_at up.items n)
-- a further item has no governor, or hangs on a bit that the lower layout names
Reason o p low up (Stray n) =
    Comparable low up × AlikeBelow low.items up.items (length low.items) × FurtherBelow low.items up.items n
    × (length low.items ≤ n) × (n < length up.items) × (HangsAbove low.items (item_at up.items n).governor → ⊥)

-- where there is a reason, the one layout does not extend the other
abbrev pub ReasonsExclude : Type 0
ReasonsExclude = (o p : ℕ) (low up : Meaning) (f : ExtendsFault) → Reason o p low up f → Extends low up → ⊥
