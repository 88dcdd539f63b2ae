-- What the code keeps of an extension, by its meaning.
use Rattle.std.specs.Prelude.{map, take}
use Rattle.layout.specs.Tables.{row_meaning}
use Rattle.extension.specs.declared.additions.Additions.{Additions}
use Rattle.extension.specs.Extended.{Extras}

abbrev pub extras_of : Additions → Extras
extras_of a = record { masks = a.masks; added = map row_meaning (take a.count a.rows) }
