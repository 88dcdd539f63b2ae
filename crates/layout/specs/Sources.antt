-- The names of the published layouts.
use Rattle.std.specs.Prelude.{◌≡◌, ℕ, List, codes, Result, MatchResult, ◌≢◌}
use Rattle.layout.specs.declared.table.Published.{Published}
use Rattle.layout.specs.declared.table.Published.TheVariants.{Dl16, Ul161, Ul163, Ul19}
use Rattle.layout.specs.declared.source.NotPublished.{NotPublished}

abbrev pub layout_name : Published → List ℕ
layout_name Dl16 = codes "DL16"
layout_name Ul161 = codes "UL16.1"
layout_name Ul163 = codes "UL16.3"
layout_name Ul19 = codes "UL19"

-- a text is read as the layout that it names, and refused where it names none
abbrev pub IsNamed : List ℕ → Result Published NotPublished → Type 0
IsNamed text x = MatchResult x (λ p. text ≡ layout_name p) (λ _. (p : Published) → text ≢ layout_name p)
