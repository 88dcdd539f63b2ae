-- What a bit of a bits octet is to a layout.
use Rattle.std.specs.Prelude.{◌≡◌, ℕ, ◌<◌, ◌≤◌, List, length}
use Rattle.base.specs.Octets.{bit}
use Rattle.layout.specs.Items.{governed_by, ItemMeaning, item_at}
use Rattle.layouts.specs.declared.role.Role.{Role}
use Rattle.layouts.specs.declared.role.Role.TheVariants.{PduType, Spare, Flag, Value}

-- bit b of item g governs item j
abbrev pub Governs : List ItemMeaning → ℕ → ℕ → ℕ → Type 0
Governs is g b j = (item_at is j).governor ≡ governed_by g b

-- no item below n is governed by bit b of item g
abbrev pub NoneBelow : List ItemMeaning → ℕ → ℕ → ℕ → Type 0
NoneBelow is g b n = (j : ℕ) → j < n → Governs is g b j → ⊥

-- Bits 7 to 4 of item 0 are the PDU type. Of the others, a bit that governs an item is a flag (of these the first is shown),
-- a named bit that is no flag is a value bit, and the rest are spare.
abbrev pub HasRole : List ItemMeaning → ℕ → ℕ → ℕ → Role → Type 0
HasRole is g b m PduType = (g ≡ 0) × (4 ≤ b)
HasRole is g b m (Flag j) = ((g ≡ 0) × (4 ≤ b) → ⊥) × (j < length is) × Governs is g b j × NoneBelow is g b j
HasRole is g b m Value = ((g ≡ 0) × (4 ≤ b) → ⊥) × NoneBelow is g b (length is) × (bit b m ≡ 1)
HasRole is g b m Spare = ((g ≡ 0) × (4 ≤ b) → ⊥) × NoneBelow is g b (length is) × (bit b m ≡ 0)
