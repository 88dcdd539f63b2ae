-- What the makers answer: what raw values are by their meaning, or that they write down no item.
use Rattle.std.specs.Prelude.{◌≡◌, ℕ, Some, None, Option, Result, MatchResult}
use Rattle.layout.specs.declared.kind.Kind.{Kind}
use Rattle.layout.specs.declared.kind.Governor.{Governor}
use Rattle.layout.specs.declared.item.Item.{Item}
use Rattle.layout.specs.declared.maker.RawItem.{RawItem}
use Rattle.layout.specs.declared.maker.NoItem.{NoItem}
use Rattle.layout.specs.Views.{kind_meaning, governor_meaning, meant, kind_accepted, governor_accepted, accepted}

-- the result x of a maker is by its meaning what the definitions accept, and an error exactly where they accept nothing
abbrev pub Makes : {A B : Type 0} → (A → B) → Option B → Result A NoItem → Type 0
Makes means a x = MatchResult x (λ y. a ≡ Some (means y)) (λ _. a ≡ None)

abbrev pub MakesKind : ℕ → Result Kind NoItem → Type 0
MakesKind k x = Makes kind_meaning (kind_accepted k) x

abbrev pub MakesGovernor : ℕ → ℕ → Result (Option Governor) NoItem → Type 0
MakesGovernor g b x = Makes governor_meaning (governor_accepted g b) x

abbrev pub MakesItem : RawItem → Result Item NoItem → Type 0
MakesItem r x = Makes meant (accepted r) x
