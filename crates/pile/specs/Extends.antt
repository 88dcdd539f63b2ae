-- Which layout extends which, and piles of layouts.
use Rattle.std.specs.Prelude.{◌≡◌, ℕ, zero, suc, ◌<◌, ◌≤◌, ◌⊎◌, List, [], ◌∷◌, length, bit_and}
use Rattle.base.specs.Answers.{gives}
use Rattle.base.specs.Octets.{bit}
use Rattle.layout.specs.declared.table.Published.TheVariants.{Ul161, Ul163, Ul19}
use Rattle.layout.specs.Items.{ItemGovernor, ungoverned, governed_by, ItemMeaning, Meaning, EachMayExist, item_at}
use Rattle.layout.specs.Questions.{lawful}
use Rattle.layout.specs.Tables.{published_meaning}

-- a lawful layout: each item may exist, and it passes questions 1 to 3, whatever its origin
pub record LawfulLayout (m : Meaning) : Type 0 where
  pub items : EachMayExist m.items
  pub passes : (o : ℕ) → lawful o m ≡ gives tt

-- two items that are alike but for the masks, of which the upper keeps every lower bit
pub record Alike (low up : ItemMeaning) : Type 0 where
  pub kind : low.kind ≡ up.kind
  pub governor : low.governor ≡ up.governor
  pub len : low.len ≡ up.len
  pub limit : low.limit ≡ up.limit
  pub keeps : bit_and low.mask up.mask ≡ low.mask

-- what a further item may hang on: a bit that is spare in the lower layout, or one that lies in a further item
abbrev pub HangsAbove : List ItemMeaning → ItemGovernor → Type 0
HangsAbove low ungoverned = ⊥
HangsAbove low (governed_by g b) = (length low ≤ g) ⊎ (bit b (item_at low g).mask ≡ 0)

-- the upper layout extends the lower
pub record Extends (low up : Meaning) : Type 0 where
  -- both are lawful and of one type
  pub below : LawfulLayout low
  pub above : LawfulLayout up
  pub type : low.pdu_type ≡ up.pdu_type
  -- the lower items come first, alike but for masks
  pub first : length low.items ≤ length up.items
  pub alike : (j : ℕ) → j < length low.items → Alike (item_at low.items j) (item_at up.items j)
  -- every further item has a governor that lies above
  pub further : (j : ℕ) → length low.items ≤ j → j < length up.items → HangsAbove low.items (item_at up.items j).governor

-- a pile: a lowest layout and those above it, each extending the one before
abbrev pub Pile : Meaning → List Meaning → Type 0
Pile l [] = LawfulLayout l
Pile l (m ∷ ms) = Extends l m × Pile m ms

-- the topmost layout of a pile
abbrev pub topmost : Meaning → List Meaning → Meaning
topmost l [] = l
topmost l (m ∷ ms) = topmost m ms

-- layout k of a pile, the lowest being 0; past the end the topmost
abbrev pub layer : Meaning → List Meaning → ℕ → Meaning
layer l ms zero = l
layer l [] (suc k) = l
layer l (m ∷ ms) (suc k) = layer m ms k

-- a lawful layout extends itself, and what extends an extension extends what is below it
abbrev pub ExtendsIsOrder : Type 0
ExtendsIsOrder = ((a : Meaning) → LawfulLayout a → Extends a a) × ((a b c : Meaning) → Extends a b → Extends b c → Extends a c)

-- so the topmost layout of a pile extends every layout of it
abbrev pub TopmostExtends : Type 0
TopmostExtends = (l : Meaning) (ms : List Meaning) → Pile l ms → (k : ℕ) → Extends (layer l ms k) (topmost l ms)

-- the published uplink layouts are a pile
abbrev pub UplinksArePile : Type 0
UplinksArePile = Pile (published_meaning Ul161) (published_meaning Ul163 ∷ published_meaning Ul19 ∷ [])
