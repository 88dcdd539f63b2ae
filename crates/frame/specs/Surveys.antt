-- What a first pass over the items of a frame gathers, and the rules on items by the numbers that the code holds.
use Rattle.std.specs.Prelude.{◌≡◌, ℕ, zero, suc, ◌%◌, Bool, true, cond, List, [], map, ◌==◌, nat_le, slice_index}
use Rattle.base.specs.Answers.{Answer, gives, bind}
use Rattle.base.specs.Octets.{bit, big_endian}
use Rattle.layout.specs.Items.{ItemKind, bits_octet, a_number, ItemGovernor, ungoverned, governed_by, ItemMeaning}
use Rattle.frame.specs.declared.row.Row.{Row}
use Rattle.frame.specs.declared.survey.Survey.{Survey}
use Rattle.frame.specs.Pieces.{Cut, cut_from}
use Rattle.frame.specs.Rows.{absent, shown_as, how_many}

-- the last octet of a piece, 0 where there is none; of a bits octet that is the octet itself
abbrev pub last_octet : List ℕ → ℕ
last_octet c = big_endian c % 256

-- presence by the last octets of the items before
abbrev pub present_by_octets : ItemGovernor → List ℕ → Bool
present_by_octets ungoverned os = true
present_by_octets (governed_by g b) os = bit b (slice_index os g) == 1

abbrev pub size_by_octets : ItemMeaning → List ℕ → ℕ
size_by_octets i os = cond (present_by_octets i.governor os) i.len 0

abbrev pub within_number : ItemKind → ℕ → ℕ → Bool
within_number bits_octet limit v = true
within_number a_number limit v = nat_le v limit

-- the row of an item of n octets at p that write v
abbrev pub row_number : ItemMeaning → ℕ → ℕ → ℕ → Row
row_number i p zero v = absent
row_number i p (suc n) v = record { present = true; place = p; value = shown_as i.kind i.mask v }

-- the last octet of each item, how many items are present, and the tail
pub record Gathered : Type 0 where
  pub octets : List ℕ
  pub present : ℕ
  pub tail : List ℕ

abbrev pub gathered : Cut → Gathered
gathered w = record { octets = map last_octet w.pieces; present = how_many w.pieces; tail = w.tail }

abbrev pub gathered_of : Survey → Gathered
gathered_of s = record { octets = s.octets.items; present = s.present; tail = s.tail.now }

unfoldable pub surveyed : Answer Cut → Answer Gathered
surveyed a = bind a (λ w. gives (gathered w))

-- a frame that was surveyed: its cut, and its last octets
pub record Surveyed (is : List ItemMeaning) (p : ℕ) (o os : List ℕ) : Type 0 where
  pub parts : Cut
  pub accepted : cut_from is [] p o ≡ gives parts
  pub octets : os ≡ map last_octet parts.pieces
