-- The bench's lines: the text of each command. A line is a command exactly if it is that command's text.
use Rattle.std.specs.Prelude.{◌≡◌, ℕ, ◌+◌, ◌/◌, ◌%◌, ◌≤◌, cond, List, [], ◌∷◌, ◌++◌, length, codes, nat_lt}
use Rattle.base.specs.Octets.{Octets}
use Rattle.layout.specs.declared.table.Published.{Published}
use Rattle.layout.specs.declared.table.Published.TheVariants.{Dl16, Ul161, Ul163, Ul19}
use Rattle.bench.specs.declared.line.Command.{Command}
use Rattle.bench.specs.declared.line.Command.TheVariants.{Packet, Read}

-- a hexadecimal digit, in capitals: 0 to 9, then A to F
abbrev pub hex_digit : ℕ → ℕ
hex_digit d = cond (nat_lt d 10) (48 + d) (55 + d)

-- octets as hexadecimal pairs, unspaced
abbrev pub hex_pairs : List ℕ → List ℕ
hex_pairs [] = []
hex_pairs (o ∷ os) = hex_digit (o / 16) ∷ hex_digit (o % 16) ∷ hex_pairs os

-- the bench's layouts are numbered 1 to 4
abbrev pub layout_text : Published → List ℕ
layout_text Dl16 = codes "1"
layout_text Ul161 = codes "2"
layout_text Ul163 = codes "3"
layout_text Ul19 = codes "4"

-- `p` and 1 to 9,216 octets
pub record IsPacketLine (line os : List ℕ) : Type 0 where
  pub octets : Octets os
  pub some : 1 ≤ length os
  pub most : length os ≤ 9216
  pub text : line ≡ codes "p " ++ hex_pairs os

-- `r` and a layout
abbrev pub IsReadLine : List ℕ → Published → Type 0
IsReadLine line l = line ≡ codes "r " ++ layout_text l

-- a line that is a command
abbrev pub IsCommand : List ℕ → Command → Type 0
IsCommand line (Packet digits) = (os : List ℕ) × (digits.now ≡ hex_pairs os) × IsPacketLine line os
IsCommand line (Read l) = IsReadLine line l

-- a line that is none
pub record IsNoCommand (line : List ℕ) : Type 0 where
  pub no_packet_line : (os : List ℕ) → IsPacketLine line os → ⊥
  pub no_read_line : (l : Published) → IsReadLine line l → ⊥
