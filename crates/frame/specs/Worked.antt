-- Frames worked through: what the published layouts read in them. Each frame starts at octet 13 of its packet.
use Rattle.std.specs.Prelude.{◌≡◌, ℕ, Bool, true, false, List, [], ◌∷◌}
use Rattle.base.specs.declared.question.Question.TheVariants as Q
use Rattle.base.specs.Answers.{Answer, refused, gives, bind, no_to}
use Rattle.layout.specs.declared.table.Published.TheVariants.{Dl16, Ul163, Ul19}
use Rattle.layout.specs.Items.{Meaning}
use Rattle.layout.specs.Tables.{published_meaning}
use Rattle.frame.specs.declared.row.Row.{Row}
use Rattle.frame.specs.Pieces.{cut_frame}
use Rattle.frame.specs.Rows.{rows_of, absent}
use Rattle.frame.specs.Plain.{plain}

-- what is seen of a frame: the rows, the tail, and whether it is in plain form
pub record View : Type 0 where
  pub rows : List Row
  pub tail : List ℕ
  pub is_plain : Bool

abbrev pub view : Meaning → List ℕ → Answer View
view m frame =
    bind (cut_frame m 13 frame) (λ w. gives (record { rows = rows_of m.items 13 w.pieces; tail = w.tail; is_plain = plain m.items w }))

abbrev pub row_at : ℕ → ℕ → Row
row_at p v = record { present = true; place = p; value = v }

pub record WorkedFrames : Type 0 where
  -- DL 16: PPI is 160, and the frame is plain; with another last octet it reads alike and is not plain
  pub dl_16 : view (published_meaning Dl16) (0x00 ∷ 0x89 ∷ 0xA0 ∷ 0x00 ∷ 0x00 ∷ 0x00 ∷ [])
      ≡ gives (record { rows = row_at 13 0 ∷ row_at 14 137 ∷ row_at 15 160 ∷ absent ∷ absent ∷ []; tail = 0 ∷ 0 ∷ 0 ∷ []; is_plain = true })
  pub dl_16_tail : view (published_meaning Dl16) (0x00 ∷ 0x89 ∷ 0xA0 ∷ 0x00 ∷ 0x00 ∷ 0x01 ∷ [])
      ≡ gives (record { rows = row_at 13 0 ∷ row_at 14 137 ∷ row_at 15 160 ∷ absent ∷ absent ∷ []; tail = 0 ∷ 0 ∷ 1 ∷ []; is_plain = false })
  -- UL 19: UCI is 9574
  pub ul_19 : view (published_meaning Ul19) (0x10 ∷ 0x45 ∷ 0x02 ∷ 0x25 ∷ 0x66 ∷ 0x00 ∷ [])
      ≡ gives (record {
        rows = row_at 13 16 ∷ row_at 14 69 ∷ absent ∷ absent ∷ absent ∷ absent ∷ absent ∷ absent ∷ absent
            ∷ row_at 15 2 ∷ absent ∷ row_at 16 9574 ∷ absent ∷ absent ∷ absent ∷ [];
        tail = 0 ∷ [];
        is_plain = true;
      })
  -- UL 16.3 shows 16 and 5 of the same frame; what it does not know is the tail
  pub ul_163 : view (published_meaning Ul163) (0x10 ∷ 0x45 ∷ 0x02 ∷ 0x25 ∷ 0x66 ∷ 0x00 ∷ [])
      ≡ gives (record {
        rows = row_at 13 16 ∷ row_at 14 5 ∷ absent ∷ absent ∷ absent ∷ absent ∷ absent ∷ absent ∷ absent ∷ [];
        tail = 0x02 ∷ 0x25 ∷ 0x66 ∷ 0x00 ∷ [];
        is_plain = false;
      })
  -- UL 19: 10001 is over the limit of UCI, and 10000 is not
  pub over_limit : view (published_meaning Ul19) (0x10 ∷ 0x45 ∷ 0x02 ∷ 0x27 ∷ 0x11 ∷ 0x00 ∷ []) ≡ refused (no_to Q.Limit 16)
  pub at_limit : view (published_meaning Ul19) (0x10 ∷ 0x45 ∷ 0x02 ∷ 0x27 ∷ 0x10 ∷ 0x00 ∷ [])
      ≡ gives (record {
        rows = row_at 13 16 ∷ row_at 14 69 ∷ absent ∷ absent ∷ absent ∷ absent ∷ absent ∷ absent ∷ absent
            ∷ row_at 15 2 ∷ absent ∷ row_at 16 10000 ∷ absent ∷ absent ∷ absent ∷ [];
        tail = 0 ∷ [];
        is_plain = true;
      })
