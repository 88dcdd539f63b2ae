-- Write: rows are looked at (question 22), and a packet with a frame in plain form is made of them (question 21).
use Rattle.std.specs.Prelude.{ℕ, ◌+◌, ◌-◌, ◌/◌, ◌%◌, Bool, true, cond, not, ◌&&◌, List, [], ◌∷◌, ◌++◌, length, drop, replicate, ◌==◌, bit_and, nat_le, slice_index_or}
use Rattle.base.specs.declared.question.Question.TheVariants as Q
use Rattle.base.specs.Answers.{Answer, refused, gives, ask, bind, first_no, no_to}
use Rattle.base.specs.Octets.{bit, octets_of}
use Rattle.layout.specs.Items.{ItemKind, bits_octet, a_number, ItemGovernor, ungoverned, governed_by, ItemMeaning, Meaning}
use Rattle.layout.specs.Questions.{lawful}
use Rattle.frame.specs.declared.row.Row.{Row}
use Rattle.frame.specs.Pieces.{joined}
use Rattle.frame.specs.Rows.{absent}

-- does the flag that an item hangs on stand, by the rows?
abbrev pub flag_stands : ItemGovernor → List Row → Bool
flag_stands ungoverned rs = true
flag_stands (governed_by g b) rs = bit b (slice_index_or rs g absent).value == 1

-- may the item have this value: no spare bit in a bits octet, a number within its limit?
abbrev pub may_have_as : ItemKind → ItemMeaning → ℕ → Bool
may_have_as bits_octet i v = bit_and v i.mask == v
may_have_as a_number i v = nat_le v i.limit

-- 22 of one row: is the item present as the flags say, its value 0 if it is absent, and one that it may have if present?
abbrev pub row_fits : ItemMeaning → List Row → Row → Bool
row_fits i rs r =
    cond (flag_stands i.governor rs) (r.present && may_have_as i.kind i r.value) (not r.present && r.value == 0)

abbrev pub rows_fit : List ItemMeaning → List Row → List Row → List Bool
rows_fit [] rs more = []
rows_fit (i ∷ is) rs [] = []
rows_fit (i ∷ is) rs (r ∷ more) = row_fits i rs r ∷ rows_fit is rs more

-- the first answer, and another of the same row
abbrev pub also_first : Bool → List Bool → List Bool
also_first b [] = []
also_first b (x ∷ xs) = (x && b) ∷ xs

-- the answer for row i: of the first row also whether its upper half octet is the type
abbrev pub fit_at : ℕ → ℕ → ItemMeaning → List Row → Row → Bool
fit_at t i item rs r = cond (i == 0) (row_fits item rs r && r.value / 16 == t) (row_fits item rs r)

-- 22: does each row fit, and is the upper half of item 0 the type? The first row that does not.
abbrev pub first_unfit : Meaning → List Row → ℕ
first_unfit m rs = first_no (also_first ((slice_index_or rs 0 absent).value / 16 == m.pdu_type) (rows_fit m.items rs rs))

-- the octets of an item by its row: none if it is absent
abbrev pub piece_for : ItemMeaning → Row → List ℕ
piece_for i r = cond r.present (octets_of i.len r.value) []

abbrev pub pieces_for : List ItemMeaning → List Row → List (List ℕ)
pieces_for [] rs = []
pieces_for (i ∷ is) [] = []
pieces_for (i ∷ is) (r ∷ rs) = piece_for i r ∷ pieces_for is rs

-- the fewest octets that make a frame of s octets 4n - 2 long
abbrev pub padding : ℕ → ℕ
padding s = (6 - s % 4) % 4

-- the items one after another, and the fewest zeros behind them
abbrev pub plain_frame : List ItemMeaning → List Row → List ℕ
plain_frame is rs = joined (pieces_for is rs) ++ replicate (padding (length (joined (pieces_for is rs)))) 0

-- The octets in front of a frame of f octets, with n octets of inner packet behind it: the first octets `34 FF`, the length,
-- the TEID, `00 00 00 85`, and the unit count of the header. The length counts the octets behind the first eight.
abbrev pub head_of : ℕ → ℕ → ℕ → List ℕ
head_of f teid n = 0x34 ∷ 0xFF ∷ (octets_of 2 (f + n + 6) ++ (octets_of 4 teid ++ (0 ∷ 0 ∷ 0 ∷ 0x85 ∷ (f + 2) / 4 ∷ [])))

-- the packet of a frame: one header with the frame and the next type 0, and the inner packet
abbrev pub packet_of : ℕ → List ℕ → List ℕ → List ℕ
packet_of teid f inner = head_of (length f) teid (length inner) ++ (f ++ 0 ∷ inner)

-- 21: is the new frame at most 1,018 octets, and the new packet at most 9,216 and no longer than the buffer?
abbrev pub may_be_held : List ℕ → List ℕ → ℕ → Bool
may_be_held f k room = nat_le (length f) 1018 && (nat_le (length k) 9216 && nat_le (length k) room)

-- the packet that write makes in a buffer of so many octets, by a layout of origin o: questions 1 to 4, 22, 21
unfoldable pub written : ℕ → Meaning → List Row → ℕ → List ℕ → ℕ → Answer (List ℕ)
written o m rs teid inner room =
    bind (lawful o m) (λ _.
    ask (nat_le (length m.items) (length rs)) (no_to Q.TableRows (length rs))
    (ask (first_unfit m rs == length m.items) (no_to Q.RowFits (first_unfit m rs))
    (ask (may_be_held (plain_frame m.items rs) (packet_of teid (plain_frame m.items rs) inner) room)
    (no_to Q.Room (length (packet_of teid (plain_frame m.items rs) inner)))
    (gives (packet_of teid (plain_frame m.items rs) inner)))))

-- what write answers: the packet's count; and the buffer after it, whose octets behind the packet stay, and all on a refusal
abbrev pub write_answer : Answer (List ℕ) → Answer ℕ
write_answer (refused r) = refused r
write_answer (gives k) = gives (length k)

abbrev pub write_buffer : Answer (List ℕ) → List ℕ → List ℕ
write_buffer (refused r) b = b
write_buffer (gives k) b = k ++ drop (length k) b
