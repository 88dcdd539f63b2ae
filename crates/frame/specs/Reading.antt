-- What read answers: questions 1 to 13, and then a row for each item.
use Rattle.std.specs.Prelude.{ℕ, ◌+◌, List, length, nat_le}
use Rattle.base.specs.declared.question.Question.TheVariants as Q
use Rattle.base.specs.Answers.{Answer, refused, gives, ask, bind, no_to}
use Rattle.layout.specs.Items.{Meaning}
use Rattle.layout.specs.Questions.{lawful}
use Rattle.packet.specs.Containers.{Located, container}
use Rattle.frame.specs.declared.row.Row.{Row}
use Rattle.frame.specs.Pieces.{Cut, cut_frame}
use Rattle.frame.specs.Rows.{filled, how_many}

-- a packet taken apart: where its frame is, and the frame's pieces and tail
pub record Opened : Type 0 where
  pub located : Located
  pub parts : Cut

-- questions 5 to 13 of the packet that is the first n octets of a buffer; the frame starts behind the container's unit count
unfoldable pub opened_packet : Meaning → List ℕ → ℕ → Answer Opened
opened_packet m buffer n =
    bind (container buffer n) (λ w. bind (cut_frame m (w.place + 1) w.frame) (λ c. gives (record { located = w; parts = c })))

-- questions 1 to 13, by a layout of origin o and a table of k rows
unfoldable pub opened_for_read : ℕ → Meaning → ℕ → List ℕ → ℕ → Answer Opened
opened_for_read o m k buffer n =
    bind (lawful o m) (λ _. ask (nat_le (length m.items) k) (no_to Q.TableRows k) (opened_packet m buffer n))

-- what read hands out besides the rows: how many items are present, the tail, the inner packet
pub record Told : Type 0 where
  pub present : ℕ
  pub tail : List ℕ
  pub inner : List ℕ

abbrev pub told : Opened → Told
told w = record { present = how_many w.parts.pieces; tail = w.parts.tail; inner = w.located.inner }

-- what read answers
abbrev pub read_told : Answer Opened → Answer Told
read_told (refused r) = refused r
read_told (gives w) = gives (told w)

-- The table after read: a row for each item, and the rows past them as before. A refusal changes no row.
abbrev pub table_after : Meaning → Answer Opened → List Row → List Row
table_after m (refused r) t = t
table_after m (gives w) t = filled m.items (w.located.place + 1) (gives w.parts) t

-- read by a layout of origin o, of the first n octets of a buffer, into the table t: its answer, and the table after it
abbrev pub read_answer : ℕ → Meaning → List ℕ → ℕ → List Row → Answer Told
read_answer o m buffer n t = read_told (opened_for_read o m (length t) buffer n)

abbrev pub read_table : ℕ → Meaning → List ℕ → ℕ → List Row → List Row
read_table o m buffer n t = table_after m (opened_for_read o m (length t) buffer n) t
