-- A frame as the pieces of its items, one after another, and the tail behind them.
-- A piece is the octets of one item; an absent item has none.
use Rattle.std.specs.Prelude.{ℕ, ◌+◌, ◌/◌, Bool, true, cond, List, [], ◌∷◌, ◌++◌, length, take, drop, ◌==◌, nat_le, slice_index, slice_index_or}
use Rattle.base.specs.declared.question.Question.TheVariants as Q
use Rattle.base.specs.Answers.{Answer, gives, ask, no_to}
use Rattle.base.specs.Octets.{bit, big_endian}
use Rattle.layout.specs.Items.{ItemKind, bits_octet, a_number, ItemGovernor, ungoverned, governed_by, ItemMeaning, Meaning}

abbrev pub joined : List (List ℕ) → List ℕ
joined [] = []
joined (c ∷ cs) = c ++ joined cs

-- the piece of item g
abbrev pub piece : List (List ℕ) → ℕ → List ℕ
piece cs g = slice_index_or cs g []

-- Is an item with this governor present, where cs are the pieces of the items before it?
-- An absent governor has no octets, so each of its bits counts as 0.
abbrev pub present_by : ItemGovernor → List (List ℕ) → Bool
present_by ungoverned cs = true
present_by (governed_by g b) cs = bit b (big_endian (piece cs g)) == 1

-- how many octets an item takes: none if it is absent
abbrev pub size_of : ItemMeaning → List (List ℕ) → ℕ
size_of i cs = cond (present_by i.governor cs) i.len 0

-- is a number within its limit?
abbrev pub within_as : ItemKind → ℕ → List ℕ → Bool
within_as bits_octet limit c = true
within_as a_number limit c = nat_le (big_endian c) limit

abbrev pub within : ItemMeaning → List ℕ → Bool
within i c = within_as i.kind i.limit c

pub record Cut : Type 0 where
  pub pieces : List (List ℕ)
  pub tail : List ℕ

-- Questions 12 and 13, item by item: the octets o at place p are cut into the pieces of the items and the tail;
-- seen has the pieces of the items before.
unfoldable pub cut_from : List ItemMeaning → List (List ℕ) → ℕ → List ℕ → Answer Cut
cut_from [] seen p o = gives (record { pieces = seen; tail = o })
cut_from (i ∷ is) seen p o =
    ask (nat_le (size_of i seen) (length o)) (no_to Q.ItemFits p)
    (ask (within i (take (size_of i seen) o)) (no_to Q.Limit p)
    (cut_from is (seen ++ take (size_of i seen) o ∷ []) (p + size_of i seen) (drop (size_of i seen) o)))

-- questions 11 to 13 of a frame o at place p
unfoldable pub cut_frame : Meaning → ℕ → List ℕ → Answer Cut
cut_frame m p o = ask (slice_index o 0 / 16 == m.pdu_type) (no_to Q.PduType p) (cut_from m.items [] p o)
