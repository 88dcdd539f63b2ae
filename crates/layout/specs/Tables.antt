-- The published layouts, item by item.
use Rattle.std.specs.Prelude.{◌≡◌, ℕ, ◌-◌, ◌^◌, ◌<◌, true, List, [], ◌∷◌, ◌++◌, map, length, codes}
use Rattle.base.specs.Answers.{gives}
use Rattle.layout.specs.declared.table.Published.{Published}
use Rattle.layout.specs.declared.table.Published.TheVariants.{Dl16, Ul161, Ul163, Ul19}
use Rattle.layout.specs.declared.table.TableRow.{TableRow}
use Rattle.layout.specs.Items.{bits_octet, a_number, ItemGovernor, ungoverned, governed_by, ItemMeaning, Meaning, may_exist, item_at}
use Rattle.layout.specs.Questions.{lawful}
use Rattle.layout.specs.Views.{meant}

-- a bits octet with its named bits, a number with the largest limit for its length, and one with a limit of its own
abbrev pub octet : ItemGovernor → ℕ → ItemMeaning
octet g m = record { kind = bits_octet; governor = g; len = 1; mask = m; limit = 0 }

abbrev pub number_of : ItemGovernor → ℕ → ItemMeaning
number_of g n = record { kind = a_number; governor = g; len = n; mask = 0; limit = 256 ^ n - 1 }

abbrev pub number_up_to : ItemGovernor → ℕ → ℕ → ItemMeaning
number_up_to g n top = record { kind = a_number; governor = g; len = n; mask = 0; limit = top }

pub record NamedItem : Type 0 where
  pub name : List ℕ
  pub item : ItemMeaning

abbrev pub dl_16 : List NamedItem
dl_16 =
    record { name = codes "HD0"; item = octet ungoverned 252 }
    ∷ record { name = codes "HD1"; item = octet ungoverned 255 }
    ∷ record { name = codes "PPI"; item = octet (governed_by 1 7) 224 }
    ∷ record { name = codes "DST"; item = number_of (governed_by 0 3) 8 }
    ∷ record { name = codes "DSN"; item = number_of (governed_by 0 2) 3 }
    ∷ []

-- the items that all uplink layouts begin with, HD1 having the mask m
abbrev pub ul_first : ℕ → List NamedItem
ul_first m =
    record { name = codes "HD0"; item = octet ungoverned 255 }
    ∷ record { name = codes "HD1"; item = octet ungoverned m }
    ∷ record { name = codes "DSR"; item = number_of (governed_by 0 3) 8 }
    ∷ record { name = codes "DRT"; item = number_of (governed_by 0 3) 8 }
    ∷ record { name = codes "UST"; item = number_of (governed_by 0 3) 8 }
    ∷ record { name = codes "DDR"; item = number_of (governed_by 0 2) 4 }
    ∷ record { name = codes "UDR"; item = number_of (governed_by 0 1) 4 }
    ∷ record { name = codes "USN"; item = number_of (governed_by 0 0) 3 }
    ∷ []

abbrev pub ndr : NamedItem
ndr = record { name = codes "NDR"; item = number_of (governed_by 1 7) 4 }

abbrev pub ul_19_further : List NamedItem
ul_19_further =
    record { name = codes "NIF"; item = octet (governed_by 1 6) 31 }
    ∷ record { name = codes "D1I"; item = octet (governed_by 9 0) 1 }
    ∷ record { name = codes "UCI"; item = number_up_to (governed_by 9 1) 2 10000 }
    ∷ record { name = codes "DCI"; item = number_up_to (governed_by 9 2) 2 10000 }
    ∷ record { name = codes "UAB"; item = number_up_to (governed_by 9 3) 4 4000000000 }
    ∷ record { name = codes "DAB"; item = number_up_to (governed_by 9 4) 4 4000000000 }
    ∷ []

abbrev pub published : Published → List NamedItem
published Dl16 = dl_16
published Ul161 = ul_first 63
published Ul163 = ul_first 191 ++ ndr ∷ []
published Ul19 = ul_first 255 ++ ndr ∷ ul_19_further

abbrev pub published_type : Published → ℕ
published_type Dl16 = 0
published_type Ul161 = 1
published_type Ul163 = 1
published_type Ul19 = 1

abbrev pub published_items : Published → List ItemMeaning
published_items p = map (λ r. r.item) (published p)

abbrev pub published_names : Published → List (List ℕ)
published_names p = map (λ r. r.name) (published p)

abbrev pub published_meaning : Published → Meaning
published_meaning p = record { pdu_type = published_type p; items = published_items p }

-- a row of a table of the code
abbrev pub row_meaning : TableRow → NamedItem
row_meaning r = record { name = r.name.letters; item = meant r.item }

-- the rules that every published table keeps: each item may exist, and the layout passes questions 1 to 3
abbrev pub TablesStand : Type 0
TablesStand =
    (p : Published)
    → ((j : ℕ) → j < length (published_items p) → may_exist (item_at (published_items p) j) ≡ true)
    × ((o : ℕ) → lawful o (published_meaning p) ≡ gives tt)
