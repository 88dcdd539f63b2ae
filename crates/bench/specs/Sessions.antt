-- A session: lines answered one after another, in whatever parts their octets come.
use Rattle.std.specs.Prelude.{◌≡◌, ℕ, List, [], ◌∷◌, ◌++◌, take, string_bytes, Result}
use Rattle.base.specs.declared.refusal.Refusal.{Refusal}
use Rattle.bench.specs.declared.desk.Desk.{Desk}
use Rattle.bench.specs.declared.reply.Reply.{Reply}
use Rattle.bench.specs.declared.session.Session.{Session}
use Rattle.bench.specs.Inputs.{NoEnd}
use Rattle.bench.specs.Replies.{Answered}
use Rattle.bench.specs.Texts.{reply_text}

-- a line answered
pub record AnswersLine (line : List ℕ) (d e : Desk) : Type 0 where
  pub reply : Result Reply Refusal
  pub answered : Answered line d.bench e.bench d.rows e.rows reply
  pub text : string_bytes e.text ≡ string_bytes d.text ++ reply_text reply e.rows

-- lines answered one after another
abbrev pub AnswersLines : List (List ℕ) → Desk → Desk → Type 0
AnswersLines [] d e = d ≡ e
AnswersLines (l ∷ ls) d e = (m : Desk) × AnswersLine l d m × AnswersLines ls m e

-- lines with their ends
abbrev pub ended : List (List ℕ) → List ℕ
ended [] = []
ended (l ∷ ls) = l ++ 10 ∷ ended ls

abbrev pub EachNoEnd : List (List ℕ) → Type 0
EachNoEnd [] = Unit {0}
EachNoEnd (l ∷ ls) = NoEnd l × EachNoEnd ls

-- what is kept of the start of a line: one octet more than the longest command has
abbrev pub kept : List ℕ → List ℕ
kept l = take 18435 l

-- A part of the input answered, where start is what came before of a line: the lines that end in it, and the start of the next.
pub record Fed (start input : List ℕ) (s t : Session) : Type 0 where
  pub lines : List (List ℕ)
  pub next : List ℕ
  pub octets : start ++ input ≡ ended lines ++ next
  pub whole : EachNoEnd lines
  pub open_line : NoEnd next
  pub keeps : t.line.items ≡ kept next
  pub answers : AnswersLines lines s.desk t.desk

-- the last line, if it has begun
abbrev pub last_line : List ℕ → List (List ℕ)
last_line [] = []
last_line (x ∷ xs) = (x ∷ xs) ∷ []
