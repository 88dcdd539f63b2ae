-- Lines in what was read.
use Rattle.std.specs.Prelude.{ℕ, ◌<◌, List, length, ◌≢◌, slice_index}

-- no octet ends a line
abbrev pub NoEnd : List ℕ → Type 0
NoEnd xs = (k : ℕ) → k < length xs → slice_index xs k ≢ 10
