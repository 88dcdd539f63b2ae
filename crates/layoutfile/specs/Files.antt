-- Layout files: the entries that octets write down, questions 23 to 25, and what a file means.
use Rattle.std.specs.Prelude.{◌≡◌, ℕ, true, ◌+◌, ◌*◌, Bool, ◌&&◌, List, [], ◌∷◌, map, length, take, drop, is_some, Some, None, Option, ◌==◌, nat_le, slice_index}
use Rattle.std.specs.List.{slice_get}
use Rattle.std.specs.Simd.{first_chunks}
use Rattle.base.specs.declared.question.Question.TheVariants as Q
use Rattle.base.specs.Answers.{Answer, refused, gives, ask, first_no, no_layout}
use Rattle.base.specs.Octets.{big_endian}
use Rattle.layout.specs.declared.entry.RawEntry.{RawEntry}
use Rattle.layout.specs.Items.{ItemMeaning, Meaning}
use Rattle.layout.specs.Tables.{NamedItem}
use Rattle.layout.specs.Entries.{entry_accepted}

-- The first eight octets are `UPL` as letters, the version in two octets, the PDU type, the count, and 0.
abbrev pub stated_type : List ℕ → ℕ
stated_type os = slice_index os 5

abbrev pub stated_count : List ℕ → ℕ
stated_count os = slice_index os 6

-- 23: are there 8 octets that start with `UPL` as letters and version 1?
abbrev pub starts_well : List ℕ → Bool
starts_well os =
    nat_le 8 (length os)
    && (slice_index os 0 == 85 && (slice_index os 1 == 80 && (slice_index os 2 == 76 && (slice_index os 3 == 0 && slice_index os 4 == 1))))

-- 24: is the file 8 + 16 * count long, count 1 to 64, type at most 15, the eighth octet 0?
abbrev pub well_sized : List ℕ → Bool
well_sized os =
    (length os == 8 + 16 * stated_count os)
    && (nat_le 1 (stated_count os) && (nat_le (stated_count os) 64 && (nat_le (stated_type os) 15 && slice_index os 7 == 0)))

-- octets by sixteens
abbrev pub sixteens : ℕ → List ℕ → List (List ℕ)
sixteens n os = first_chunks 16 n os

-- the entry that 16 octets write down: kind, the governor's item and bit, length, mask, three name octets, the limit in eight
abbrev pub entry_in : List ℕ → RawEntry
entry_in e =
    record {
      item = record {
        kind = slice_index e 0;
        governor = slice_index e 1;
        bit = slice_index e 2;
        length = slice_index e 3;
        mask = slice_index e 4;
        limit = big_endian (take 8 (drop 8 e));
      };
      name = record { letters = slice_index e 5 ∷ slice_index e 6 ∷ slice_index e 7 ∷ [] };
    }

-- the entries of a file, behind its first eight octets
abbrev pub entries : List ℕ → List RawEntry
entries os = map entry_in (sixteens (stated_count os) (drop 8 os))

-- 25: is the entry an item, its name three capitals or digits?
abbrev pub is_item : RawEntry → Bool
is_item e = is_some (entry_accepted e)

-- each of these entries is one
abbrev pub EachIsItem : List RawEntry → Type 0
EachIsItem es = (i : ℕ) (e : RawEntry) → Some e ≡ slice_get es i → is_item e ≡ true

abbrev pub first_no_item : List RawEntry → ℕ
first_no_item es = first_no (map is_item es)

-- questions 23 to 25 of a file
unfoldable pub file_questions : List ℕ → Answer (Unit {0})
file_questions os =
    ask (starts_well os) (no_layout 2 Q.FileStart 0)
    (ask (well_sized os) (no_layout 2 Q.FileSize 5)
    (ask (first_no_item (entries os) == length (entries os)) (no_layout 2 Q.Entry (first_no_item (entries os)))
    (gives tt)))

-- the named items that entries are, in their order
abbrev pub with_entry : List ℕ → Option ItemMeaning → List NamedItem → List NamedItem
with_entry n None is = is
with_entry n (Some i) is = record { name = n; item = i } ∷ is

abbrev pub items_of : List RawEntry → List NamedItem
items_of [] = []
items_of (e ∷ es) = with_entry e.name.letters (entry_accepted e) (items_of es)

-- the named items of a file; none where it fails 23 to 25
abbrev pub items_if : Answer (Unit {0}) → List ℕ → List NamedItem
items_if (refused r) os = []
items_if (gives u) os = items_of (entries os)

abbrev pub file_items : List ℕ → List NamedItem
file_items os = items_if (file_questions os) os

-- the PDU type of a file; 0 where it fails
abbrev pub type_if : Answer (Unit {0}) → List ℕ → ℕ
type_if (refused r) os = 0
type_if (gives u) os = stated_type os

abbrev pub file_type : List ℕ → ℕ
file_type os = type_if (file_questions os) os

-- what a file means
abbrev pub file_meaning : List ℕ → Meaning
file_meaning os = record { pdu_type = file_type os; items = map (λ i. i.item) (file_items os) }

abbrev pub file_names : List ℕ → List (List ℕ)
file_names os = map (λ i. i.name) (file_items os)
