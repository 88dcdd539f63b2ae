-- Building an extension: adding an item and naming bits, with questions 25 to 28, and what any such building leads to.
use Rattle.std.specs.Prelude.{ℕ, ◌+◌, ◌-◌, ◌^◌, ◌<◌, Bool, false, cond, not, ◌&&◌, List, [], ◌∷◌, ◌++◌, length, replicate, Some, None, Option, ◌==◌, bit_and, bit_or, nat_lt, slice_index, slice_index_or, slice_set}
use Rattle.base.specs.declared.refusal.Refusal.{Refusal}
use Rattle.base.specs.declared.question.Question.TheVariants as Q
use Rattle.base.specs.Answers.{Answer, refused, gives, ask, bind, no_layout}
use Rattle.base.specs.Octets.{bit}
use Rattle.layout.specs.declared.entry.RawEntry.{RawEntry}
use Rattle.layout.specs.Items.{ItemGovernor, ungoverned, governed_by, ItemMeaning, Meaning, is_bits, item_at, no_item}
use Rattle.layout.specs.Tables.{NamedItem}
use Rattle.layout.specs.Entries.{entry_accepted}
use Rattle.layout.specs.Questions.{lawful}
use Rattle.pile.specs.Extends.{LawfulLayout, Extends}
use Rattle.extension.specs.Extended.{Extras, named_too, added_items, extended}

-- the number of items, below and added
abbrev pub count_all : Meaning → Extras → ℕ
count_all m x = length m.items + length x.added

-- 25: the item of an entry, or a no
unfoldable pub item_or : {A : Type 0} → Option ItemMeaning → Refusal → (ItemMeaning → Answer A) → Answer A
item_or None r next = refused r
item_or (Some i) r next = next i

-- 27: is the governor an earlier bits octet, its bit spare below or in an added item? No governor is a no.
abbrev pub may_hang_on : Meaning → Extras → ItemGovernor → Bool
may_hang_on m x ungoverned = false
may_hang_on m x (governed_by g b) =
    cond (nat_lt g (length m.items))
    (is_bits (item_at m.items g).kind && bit b (item_at m.items g).mask == 0)
    (nat_lt (g - length m.items) (length x.added) && is_bits (item_at (added_items x) (g - length m.items)).kind)

-- the item that adding an entry would add, over a layout of origin o: questions 1 to 3 of the layout below, 25, 26, 27
unfoldable pub may_add : ℕ → Meaning → Extras → RawEntry → Answer ItemMeaning
may_add o m x e =
    bind (lawful o m) (λ _.
    item_or (entry_accepted e) (no_layout 3 Q.Entry (count_all m x)) (λ i.
    ask (nat_lt (length x.added) 16 && nat_lt (count_all m x) 64) (no_layout 3 Q.Space (count_all m x))
    (ask (may_hang_on m x i.governor) (no_layout 3 Q.AddedGovernor e.item.governor)
    (gives i))))

-- bits named at a place below
abbrev pub name_below : ℕ → ℕ → Extras → Extras
name_below j bits x = record { masks = slice_set x.masks j (bit_or (slice_index x.masks j) bits); added = x.added }

-- bits named in an added item
abbrev pub no_named : NamedItem
no_named = record { name = 0 ∷ 0 ∷ 0 ∷ []; item = no_item }

abbrev pub called_too : ℕ → NamedItem → NamedItem
called_too bits i = record { name = i.name; item = named_too bits i.item }

abbrev pub name_added : ℕ → ℕ → Extras → Extras
name_added k bits x = record { masks = x.masks; added = slice_set x.added k (called_too bits (slice_index_or x.added k no_named)) }

-- adding an item also names its governor's bit, below a list of n items or in an added item
abbrev pub name_governor : ℕ → ItemGovernor → Extras → Extras
name_governor n ungoverned x = x
name_governor n (governed_by g b) x = cond (nat_lt g n) (name_below g (2 ^ b) x) (name_added (g - n) (2 ^ b) x)

abbrev pub with_added : NamedItem → Extras → Extras
with_added i x = record { masks = x.masks; added = x.added ++ i ∷ [] }

-- adding an entry, by the answer to its questions
abbrev pub added_by : Meaning → Extras → RawEntry → Answer ItemMeaning → Answer Extras
added_by m x e (refused r) = refused r
added_by m x e (gives i) = gives (with_added (record { name = e.name.letters; item = i }) (name_governor (length m.items) i.governor x))

abbrev pub add_entry : ℕ → Meaning → Extras → RawEntry → Answer Extras
add_entry o m x e = added_by m x e (may_add o m x e)

-- naming bits: questions 1 to 3 of the layout below, then 28: are the bits not none and all spare in a bits octet below?
abbrev pub may_name : Meaning → ℕ → ℕ → Bool
may_name m j bits =
    nat_lt j (length m.items)
    && (is_bits (item_at m.items j).kind && (not (bits == 0) && bit_and bits (item_at m.items j).mask == 0))

unfoldable pub may_name_bits : ℕ → Meaning → ℕ → ℕ → Answer (Unit {0})
may_name_bits o m j bits = bind (lawful o m) (λ _. ask (may_name m j bits) (no_layout 3 Q.SpareBits j) (gives tt))

-- naming bits, by the answer to its questions
abbrev pub named_by : Extras → ℕ → ℕ → Answer (Unit {0}) → Answer Extras
named_by x j bits (refused r) = refused r
named_by x j bits (gives u) = gives (name_below j bits x)

abbrev pub name_bits : ℕ → Meaning → Extras → ℕ → ℕ → Answer Extras
name_bits o m x j bits = named_by x j bits (may_name_bits o m j bits)

-- a building step, and what is there after it: a refused one changes nothing
pub data BuildStep : Type 0 where
  adding : RawEntry → BuildStep
  naming : ℕ → ℕ → BuildStep

abbrev pub build : ℕ → Meaning → Extras → BuildStep → Answer Extras
build o m x (adding e) = add_entry o m x e
build o m x (naming j bits) = name_bits o m x j bits

abbrev pub kept : Extras → Answer Extras → Extras
kept x (refused r) = x
kept x (gives y) = y

-- nothing is added at first
abbrev pub nothing_added : Extras
nothing_added = record { masks = replicate 64 0; added = [] }

-- what a list of steps builds over a layout of origin o, the newest step first; bits to be named are an octet
abbrev pub built : ℕ → Meaning → List BuildStep → Extras
built o m [] = nothing_added
built o m (s ∷ ss) = kept (built o m ss) (build o m (built o m ss) s)

-- a step that can be asked for: bits are those of an octet
abbrev pub OctetStep : BuildStep → Type 0
OctetStep (adding e) = Unit {0}
OctetStep (naming j bits) = bits < 256

abbrev pub OctetSteps : List BuildStep → Type 0
OctetSteps [] = Unit {0}
OctetSteps (s ∷ ss) = OctetStep s × OctetSteps ss

-- whatever is built over a lawful layout is lawful and extends it
abbrev pub BuiltExtends : Type 0
BuiltExtends = (o : ℕ) (m : Meaning) → LawfulLayout m → (ss : List BuildStep) → OctetSteps ss → Extends m (extended m (built o m ss))
