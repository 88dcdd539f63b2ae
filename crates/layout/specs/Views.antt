-- Items of the code by their meaning, and which raw values are an item.
use Rattle.std.specs.Prelude.{ℕ, cond, Some, None, Option, ◌==◌, nat_lt}
use Rattle.layout.specs.declared.kind.Kind.{Kind}
use Rattle.layout.specs.declared.kind.Kind.TheVariants.{Bits, Number}
use Rattle.layout.specs.declared.kind.Governor.{Governor}
use Rattle.layout.specs.declared.item.Item.{Item}
use Rattle.layout.specs.declared.maker.RawItem.{RawItem}
use Rattle.layout.specs.Items.{ItemKind, bits_octet, a_number, ItemGovernor, ungoverned, governed_by, ItemMeaning, may_exist}

abbrev pub kind_meaning : Kind → ItemKind
kind_meaning Bits = bits_octet
kind_meaning Number = a_number

abbrev pub governor_meaning : Option Governor → ItemGovernor
governor_meaning None = ungoverned
governor_meaning (Some g) = governed_by g.item g.bit

abbrev pub meant : Item → ItemMeaning
meant i = record { kind = kind_meaning i.kind; governor = governor_meaning i.governor; len = i.length; mask = i.mask; limit = i.limit }

-- the governor that two raw values name: 255 and 0 stand for none, and a bit is at most 7
abbrev pub governor_accepted : ℕ → ℕ → Option ItemGovernor
governor_accepted g b =
    cond (g == 255) (cond (b == 0) (Some ungoverned) None) (cond (nat_lt b 8) (Some (governed_by g b)) None)

-- the kind that a raw value names: 0 a bits octet, 1 a number
abbrev pub kind_accepted : ℕ → Option ItemKind
kind_accepted k = cond (k == 0) (Some bits_octet) (cond (k == 1) (Some a_number) None)

abbrev pub if_made : ItemMeaning → Option ItemMeaning
if_made i = cond (may_exist i) (Some i) None

abbrev pub accepted_with : Option ItemKind → Option ItemGovernor → RawItem → Option ItemMeaning
accepted_with None g r = None
accepted_with (Some k) None r = None
accepted_with (Some k) (Some g) r =
    if_made (record { kind = k; governor = g; len = r.length; mask = r.mask; limit = r.limit })

-- the item that raw values write down, if they write down one that may exist
abbrev pub accepted : RawItem → Option ItemMeaning
accepted r = accepted_with (kind_accepted r.kind) (governor_accepted r.governor r.bit) r
