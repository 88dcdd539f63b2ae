-- The round trip both ways, for every lawful layout.
use Rattle.std.specs.Prelude.{◌≡◌, ℕ, ◌+◌, ◌^◌, ◌<◌, ◌≤◌, true, List, ◌++◌, length, slice_index_or}
use Rattle.base.specs.Answers.{gives}
use Rattle.base.specs.Octets.{Octets}
use Rattle.layout.specs.Items.{Meaning, EachMayExist}
use Rattle.layout.specs.Questions.{lawful}
use Rattle.frame.specs.declared.row.Row.{Row}
use Rattle.frame.specs.Rows.{absent, rows_of}
use Rattle.frame.specs.Plain.{plain, all_zero}
use Rattle.frame.specs.Reading.{Opened, opened_packet}
use Rattle.write.specs.Writing.{packet_of, written}

-- the rows that a reading shows
abbrev pub shown_rows : Meaning → Opened → List Row
shown_rows m w = rows_of m.items (w.located.place + 1) w.parts.pieces

-- a reading shows a record: the same presence and value of each item, the inner packet, and a tail that is only padding
pub record Shows (m : Meaning) (rs : List Row) (inner : List ℕ) (w : Opened) : Type 0 where
  pub rows : (j : ℕ) → j < length m.items
      → ((slice_index_or (shown_rows m w) j absent).present ≡ (slice_index_or rs j absent).present) × ((slice_index_or (shown_rows m w) j absent).value ≡ (slice_index_or rs j absent).value)
  pub inner_packet : w.located.inner ≡ inner
  pub padding : (length w.parts.tail ≤ 3) × (all_zero w.parts.tail ≡ true)
  pub plainly : plain m.items w.parts ≡ true

-- a written record reads back as itself, whatever stands behind the packet in the buffer
abbrev pub WrittenReadsBack : Type 0
WrittenReadsBack =
    (o : ℕ) (m : Meaning) → EachMayExist m.items
    → (rs : List Row) (teid : ℕ) (inner : List ℕ) (room : ℕ) → teid < 2 ^ 32 → Octets inner
    → (k : List ℕ) → written o m rs teid inner room ≡ gives k
    → (behind : List ℕ) → (w : Opened) × (opened_packet m (k ++ behind) (length k) ≡ gives w) × Shows m rs inner w

-- A frame in plain form is rewritten to its own octets: of the rows that a reading shows, write makes the same frame,
-- with any TEID and any inner packet that has space.
abbrev pub PlainRewrites : Type 0
PlainRewrites =
    (o : ℕ) (m : Meaning) → EachMayExist m.items → lawful o m ≡ gives tt
    → (buffer : List ℕ) (n : ℕ) (w : Opened) → Octets buffer → opened_packet m buffer n ≡ gives w → plain m.items w.parts ≡ true
    → (teid : ℕ) (inner : List ℕ) (room : ℕ) → teid < 2 ^ 32
    → length w.located.frame + length inner + 14 ≤ 9216 → length w.located.frame + length inner + 14 ≤ room
    → written o m (shown_rows m w) teid inner room ≡ gives (packet_of teid w.located.frame inner)

-- rows behind a layout's last item are not looked at
abbrev pub RowsBehindDoNotCount : Type 0
RowsBehindDoNotCount =
    (o : ℕ) (m : Meaning) → lawful o m ≡ gives tt → (rs more : List Row) → length m.items ≤ length rs
    → (teid : ℕ) (inner : List ℕ) (room : ℕ) → written o m (rs ++ more) teid inner room ≡ written o m rs teid inner room
