-- A layout file from end to end: its head, and its entries one after another. Whatever is written so is read back, and
-- nothing else is accepted.
use Rattle.std.specs.Prelude.{◌≡◌, ℕ, ◌^◌, ◌<◌, ◌≤◌, List, [], ◌∷◌, ◌++◌, map, length, Some}
use Rattle.std.specs.List.{slice_get}
use Rattle.base.specs.Answers.{gives}
use Rattle.base.specs.Octets.{Octets, octets_of}
use Rattle.layout.specs.declared.entry.RawEntry.{RawEntry}
use Rattle.layout.specs.Items.{Meaning}
use Rattle.layoutfile.specs.Files.{stated_type, entries, EachIsItem, file_questions, items_of, file_meaning, file_names}

-- the first eight octets of a file: `UPL` as letters, version 1 in two octets, the PDU type, the count, and 0
abbrev pub head : ℕ → ℕ → List ℕ
head t n = 85 ∷ 80 ∷ 76 ∷ 0 ∷ 1 ∷ t ∷ n ∷ 0 ∷ []

-- the first eight octets of an entry: kind, the governor's item and bit, length, mask, and the name in three
abbrev pub front : RawEntry → List ℕ
front e = e.item.kind ∷ e.item.governor ∷ e.item.bit ∷ e.item.length ∷ e.item.mask ∷ e.name.letters

-- the octets that write an entry: those eight, and the limit in eight, the highest first
abbrev pub written : RawEntry → List ℕ
written e = front e ++ octets_of 8 e.item.limit

-- entries one after another
abbrev pub all_written : List RawEntry → List ℕ
all_written [] = []
all_written (e ∷ es) = written e ++ all_written es

-- the file of a PDU type and entries
abbrev pub file_of : ℕ → List RawEntry → List ℕ
file_of t es = head t (length es) ++ all_written es

-- an entry as 16 octets can write it: values that are octets, a name of three, a limit of 64 bits
pub record Writable (e : RawEntry) : Type 0 where
  pub octets : Octets (front e)
  pub named : length e.name.letters ≡ 3
  pub limit : e.item.limit < 2 ^ 64

-- the entries of a file: 1 to 64, each of which can be written and is an item
pub record Listed (es : List RawEntry) : Type 0 where
  pub some : 1 ≤ length es
  pub most : length es ≤ 64
  pub writable : (i : ℕ) (e : RawEntry) → Some e ≡ slice_get es i → Writable e
  pub items : EachIsItem es

-- the layout of a PDU type and entries
abbrev pub layout_of : ℕ → List RawEntry → Meaning
layout_of t es = record { pdu_type = t; items = map (λ i. i.item) (items_of es) }

-- the file of a PDU type and entries is octets, passes questions 23 to 25, and gives back what was written
pub record ReadsBack (t : ℕ) (es : List RawEntry) : Type 0 where
  pub octets : Octets (file_of t es)
  pub passes : file_questions (file_of t es) ≡ gives tt
  pub type : stated_type (file_of t es) ≡ t
  pub entries_back : entries (file_of t es) ≡ es
  pub meaning : file_meaning (file_of t es) ≡ layout_of t es
  pub names : file_names (file_of t es) ≡ map (λ e. e.name.letters) es

-- octets that are the file of the PDU type and of the entries that are read in them
pub record IsWritten (os : List ℕ) : Type 0 where
  pub type : stated_type os ≤ 15
  pub listed : Listed (entries os)
  pub whole : os ≡ file_of (stated_type os) (entries os)

-- For every PDU type and all entries that a file may have: their file is accepted and read back. For all octets that are
-- accepted: they are the file of what is read in them, to the last octet.
abbrev pub FilesAreWritten : Type 0
FilesAreWritten =
    ((t : ℕ) (es : List RawEntry) → t ≤ 15 → Listed es → ReadsBack t es)
    × ((os : List ℕ) → Octets os → file_questions os ≡ gives tt → IsWritten os)
