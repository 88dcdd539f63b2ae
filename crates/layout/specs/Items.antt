-- Items and layouts: what a layout means.
use Rattle.std.specs.Prelude.{◌≡◌, ℕ, ◌^◌, ◌<◌, Bool, true, false, ◌&&◌, List, [], ◌∷◌, length, ◌==◌, nat_le, nat_lt, slice_index_or}

-- an item is an octet of bits or a number
pub data ItemKind : Type 0 where
  bits_octet : ItemKind
  a_number : ItemKind

-- what an item's presence hangs on: nothing, or bit b of item g
pub data ItemGovernor : Type 0 where
  ungoverned : ItemGovernor
  governed_by : ℕ → ℕ → ItemGovernor

-- an item: its length in octets, the named bits of a bits octet (the others are spare), the greatest value of a number
pub record ItemMeaning : Type 0 where
  pub kind : ItemKind
  pub governor : ItemGovernor
  pub len : ℕ
  pub mask : ℕ
  pub limit : ℕ

-- a layout: a PDU type and a list of items
pub record Meaning : Type 0 where
  pub pdu_type : ℕ
  pub items : List ItemMeaning

abbrev pub is_bits : ItemKind → Bool
is_bits bits_octet = true
is_bits a_number = false

abbrev pub is_free : ItemGovernor → Bool
is_free ungoverned = true
is_free (governed_by g b) = false

-- An item that may exist: a length of 1 to 8; a bits octet has length 1 and limit 0; a number has mask 0 and a
-- limit that fits its length.
abbrev pub may_exist_as : ItemKind → ItemMeaning → Bool
may_exist_as bits_octet i = i.len == 1 && (nat_lt i.mask 256 && i.limit == 0)
may_exist_as a_number i = nat_le 1 i.len && (nat_le i.len 8 && (i.mask == 0 && nat_lt i.limit (256 ^ i.len)))

abbrev pub may_exist : ItemMeaning → Bool
may_exist i = may_exist_as i.kind i

-- what stands in for an item past the end of a list
abbrev pub no_item : ItemMeaning
no_item = record { kind = a_number; governor = ungoverned; len = 1; mask = 0; limit = 0 }

-- item j of a list
abbrev pub item_at : List ItemMeaning → ℕ → ItemMeaning
item_at is j = slice_index_or is j no_item

-- each item of a list is one that may exist
abbrev pub EachMayExist : List ItemMeaning → Type 0
EachMayExist is = (j : ℕ) → j < length is → may_exist (item_at is j) ≡ true

-- the name of item j, zeros past the end
abbrev pub name_at : List (List ℕ) → ℕ → List ℕ
name_at ns j = slice_index_or ns j (0 ∷ 0 ∷ 0 ∷ [])
