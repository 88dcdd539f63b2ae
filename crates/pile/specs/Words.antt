-- The parts of an item, in words.
use Rattle.std.specs.Prelude.{ℕ, List, codes}
use Rattle.pile.specs.declared.fault.Part.{Part}
use Rattle.pile.specs.declared.fault.Part.TheVariants.{Kind, Governor, Length, Limit, Mask}

-- what is another in the upper item
abbrev pub part_words : Part → List ℕ
part_words Kind = codes "kind"
part_words Governor = codes "governor"
part_words Length = codes "length"
part_words Limit = codes "limit"
part_words Mask = codes "mask, which lacks a bit that is named below"
