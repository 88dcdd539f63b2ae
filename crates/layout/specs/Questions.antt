-- Questions 1 to 3, which are put to every layout before it is used.
use Rattle.std.specs.Prelude.{ℕ, suc, ◌/◌, Bool, true, not, ◌&&◌, List, [], ◌∷◌, length, ◌==◌, nat_le, nat_lt}
use Rattle.base.specs.declared.question.Question.TheVariants as Q
use Rattle.base.specs.Answers.{Answer, gives, ask, first_no, no_layout}
use Rattle.base.specs.Octets.{bit}
use Rattle.layout.specs.Items.{ItemGovernor, ungoverned, governed_by, ItemMeaning, Meaning, is_bits, is_free, item_at}

-- 2: is it an ungoverned bits octet with bits 7 to 4 named?
abbrev pub may_lead : ItemMeaning → Bool
may_lead i = is_bits i.kind && (is_free i.governor && i.mask / 16 == 15)

-- 3: is the governor of item n an earlier bits octet, its bit named and not bits 7 to 4 of item 0?
abbrev pub governor_fits : List ItemMeaning → ℕ → ItemGovernor → Bool
governor_fits is n ungoverned = true
governor_fits is n (governed_by g b) =
    nat_lt g n && (is_bits (item_at is g).kind && (bit b (item_at is g).mask == 1 && not (g == 0 && nat_le 4 b)))

-- the answers to 3 for each item of a list that starts with item n
abbrev pub governors_fit : List ItemMeaning → ℕ → List ItemMeaning → List Bool
governors_fit is n [] = []
governors_fit is n (i ∷ rest) = governor_fits is n i.governor ∷ governors_fit is (suc n) rest

-- the first item whose governor does not fit; the number of items where all do
abbrev pub first_misfit : List ItemMeaning → ℕ
first_misfit is = first_no (governors_fit is 0 is)

-- questions 1 to 3 of a layout of origin o
unfoldable pub lawful : ℕ → Meaning → Answer (Unit {0})
lawful o m =
    ask (nat_le 1 (length m.items) && nat_le (length m.items) 64) (no_layout o Q.ItemCount (length m.items))
    (ask (may_lead (item_at m.items 0)) (no_layout o Q.FirstItem 0)
    (ask (first_misfit m.items == length m.items) (no_layout o Q.Governors (first_misfit m.items))
    (gives tt)))
