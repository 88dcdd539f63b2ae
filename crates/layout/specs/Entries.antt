-- Entries: items as they are written down, each with its name. Question 25.
use Rattle.std.specs.Prelude.{ℕ, Bool, cond, ◌&&◌, ◌||◌, List, None, Option, nat_le, slice_index}
use Rattle.layout.specs.declared.entry.RawEntry.{RawEntry}
use Rattle.layout.specs.Items.{ItemMeaning}
use Rattle.layout.specs.Views.{accepted}

-- a capital letter or a digit
abbrev pub is_name_octet : ℕ → Bool
is_name_octet o = (nat_le 65 o && nat_le o 90) || (nat_le 48 o && nat_le o 57)

-- a name: three of them
abbrev pub is_name : List ℕ → Bool
is_name os = is_name_octet (slice_index os 0) && (is_name_octet (slice_index os 1) && is_name_octet (slice_index os 2))

-- 25: the item of an entry, where its raw values are an item and its name is three capitals or digits
abbrev pub entry_accepted : RawEntry → Option ItemMeaning
entry_accepted e = cond (is_name e.name.letters) (accepted e.item) None
