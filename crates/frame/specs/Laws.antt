-- The rule of presence, and that an accepted reading is the one and only way to cut a frame by it.
use Rattle.std.specs.Prelude.{◌≡◌, ℕ, ◌+◌, ◌-◌, ◌<◌, true, cond, List, [], ◌∷◌, ◌++◌, length, take, drop, ◌≢◌, slice_index_or}
use Rattle.base.specs.Answers.{gives}
use Rattle.base.specs.Octets.{bit, big_endian}
use Rattle.layout.specs.Items.{ItemGovernor, ungoverned, governed_by, ItemMeaning, Meaning, item_at, may_exist}
use Rattle.layout.specs.Questions.{lawful}
use Rattle.frame.specs.declared.row.Row.{Row}
use Rattle.frame.specs.Pieces.{joined, piece, within, Cut, cut_from}
use Rattle.frame.specs.Rows.{absent, shown_as, rows_of, how_many}

-- An item is there exactly if it has no governor, or its governor is there with the bit 1. An item that is there has a piece
-- of one octet or more, and one that is not has none.
abbrev pub IsThere : ItemGovernor → List (List ℕ) → Type 0
IsThere ungoverned cs = Unit {0}
IsThere (governed_by g b) cs = (piece cs g ≢ []) × (bit b (big_endian (piece cs g)) ≡ 1)

-- A frame cut by the rule of presence: one piece for each item, the items that are there one after another from the
-- frame's start, each with its length; the rest is the tail.
pub record IsCut (is : List ItemMeaning) (frame : List ℕ) (w : Cut) : Type 0 where
  pub each : length w.pieces ≡ length is
  pub whole : joined w.pieces ++ w.tail ≡ frame
  pub there : (j : ℕ) → j < length is → IsThere (item_at is j).governor w.pieces → length (piece w.pieces j) ≡ (item_at is j).len
  pub not_there : (j : ℕ) → j < length is → (IsThere (item_at is j).governor w.pieces → ⊥) → piece w.pieces j ≡ []

-- every number that is there is within its limit
abbrev pub InLimits : List ItemMeaning → List (List ℕ) → Type 0
InLimits is cs = (j : ℕ) → j < length is → within (item_at is j) (piece cs j) ≡ true

-- what an accepted reading w of a frame is
pub record OnlyCut (is : List ItemMeaning) (frame : List ℕ) (w : Cut) : Type 0 where
  pub cut : IsCut is frame w
  pub limits : InLimits is w.pieces
  pub only : (v : Cut) → IsCut is frame v → v ≡ w

-- What the row of item j shows of a frame that stands at place p and is cut into w: if the item is there, its place, where its
-- octets begin behind those of the items before, and the value that they write, less spare bits; if not, zeros.
pub record RowShows (is : List ItemMeaning) (p : ℕ) (frame : List ℕ) (w : Cut) (j : ℕ) (r : Row) : Type 0 where
  pub there : IsThere (item_at is j).governor w.pieces
      → (r.present ≡ true) × (r.place ≡ p + length (joined (take j w.pieces)))
      × (r.value ≡ shown_as (item_at is j).kind (item_at is j).mask (big_endian (take (item_at is j).len (drop (r.place - p) frame))))
  pub not_there : (IsThere (item_at is j).governor w.pieces → ⊥) → r ≡ absent

-- how many rows are of present items
abbrev pub present_rows : List Row → ℕ
present_rows [] = 0
present_rows (r ∷ rs) = cond r.present 1 0 + present_rows rs

-- Of every accepted reading: each row shows its item, and the count is that of the rows of present items.
abbrev pub RowsShowItems : Type 0
RowsShowItems =
    (o : ℕ) (m : Meaning) → lawful o m ≡ gives tt
    → ((j : ℕ) → j < length m.items → may_exist (item_at m.items j) ≡ true)
    → (p : ℕ) (frame : List ℕ) (w : Cut) → cut_from m.items [] p frame ≡ gives w
    → ((j : ℕ) → j < length m.items → RowShows m.items p frame w j (slice_index_or (rows_of m.items p w.pieces) j absent))
    × (how_many w.pieces ≡ present_rows (rows_of m.items p w.pieces))

-- For every lawful layout, every frame and wherever it stands: what is accepted is the only cut of the frame, and a cut whose
-- numbers are within their limits is accepted.
abbrev pub ReadingIsOnlyCut : Type 0
ReadingIsOnlyCut =
    (o : ℕ) (m : Meaning) → lawful o m ≡ gives tt
    → (p : ℕ) (frame : List ℕ) (w : Cut)
    → (cut_from m.items [] p frame ≡ gives w → OnlyCut m.items frame w)
    × (IsCut m.items frame w → InLimits m.items w.pieces → cut_from m.items [] p frame ≡ gives w)
