-- What the bench answers to a line, and what it keeps then.
use Rattle.std.specs.Prelude.{◌≡◌, ℕ, List, ◌++◌, length, drop, Ok, Err, Result}
use Rattle.base.specs.declared.refusal.Refusal.{Refusal}
use Rattle.base.specs.declared.question.Question.TheVariants as Q
use Rattle.base.specs.Answers.{Answer, refused, gives, no_to}
use Rattle.layout.specs.declared.table.Published.{Published}
use Rattle.layout.specs.Tables.{published_meaning}
use Rattle.frame.specs.declared.row.Row.{Row}
use Rattle.frame.specs.Reading.{Told, read_answer, read_table}
use Rattle.bench.specs.declared.reply.Reply.{Reply}
use Rattle.bench.specs.declared.reply.Reply.TheVariants.{Kept, Shown}
use Rattle.bench.specs.declared.state.Bench.{Bench}
use Rattle.bench.specs.Lines.{IsPacketLine, IsReadLine, IsNoCommand}

-- what a read by a layout answers
abbrev pub reply_to_read : Published → Answer Told → Result Reply Refusal
reply_to_read l (refused r) = Err r
reply_to_read l (gives t) = Ok (Shown l t.present)

-- a read of the bench's packet by a published layout, whose origin is 1, into the table t: its reply, and the table after it
abbrev pub shown_reply : Published → Bench → List Row → Result Reply Refusal
shown_reply l b t = reply_to_read l (read_answer 1 (published_meaning l) b.buffer b.count t)

abbrev pub shown_table : Published → Bench → List Row → List Row
shown_table l b t = read_table 1 (published_meaning l) b.buffer b.count t

-- the same packet is kept
abbrev pub Same : Bench → Bench → Type 0
Same b a = (a.buffer ≡ b.buffer) × (a.count ≡ b.count)

-- A line's reply r, and what stands in the bench and the table before it (b, t) and after it (a, u).
pub record Answered (line : List ℕ) (b a : Bench) (t u : List Row) (r : Result Reply Refusal) : Type 0 where
  -- `p` keeps the packet, unchecked
  pub packet : (os : List ℕ) → IsPacketLine line os
      → (a.buffer ≡ os ++ drop (length os) b.buffer) × (a.count ≡ length os) × (u ≡ t) × (r ≡ Ok (Kept (length os)))
  -- `r` reads it and keeps it as it is
  pub read : (l : Published) → IsReadLine line l
      → Same b a × (u ≡ shown_table l b t) × (r ≡ shown_reply l b t)
  -- any other line gives 29, and changes nothing
  pub other : IsNoCommand line → Same b a × (u ≡ t) × (r ≡ Err (no_to Q.Command 0))
