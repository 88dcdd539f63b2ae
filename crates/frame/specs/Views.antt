-- What the code holds of a packet that was taken apart, by its octets.
use Rattle.std.specs.Prelude.{◌≡◌, ℕ, ◌+◌, ◌≤◌, List, [], length}
use Rattle.base.specs.Answers.{Answer, gives, bind}
use Rattle.layout.specs.Items.{Meaning}
use Rattle.frame.specs.declared.row.Row.{Row}
use Rattle.frame.specs.declared.read.Reading.{Reading}
use Rattle.frame.specs.declared.open.Open.{Open}
use Rattle.frame.specs.Pieces.{cut_from}
use Rattle.frame.specs.Rows.{filled}
use Rattle.frame.specs.Reading.{Opened, Told, read_told, table_after}
use Rattle.frame.specs.Surveys.{Gathered, gathered, gathered_of, Surveyed}

abbrev pub told_of : Reading → Told
told_of r = record { present = r.present; tail = r.tail.now; inner = r.inner.now }

-- a frame at its place with what a first pass over it gathers, and the inner packet
pub record FrameSurveyed : Type 0 where
  pub place : ℕ
  pub frame : List ℕ
  pub found : Gathered
  pub inner : List ℕ

abbrev pub opened_of : Open → FrameSurveyed
opened_of o = record { place = o.frame.place; frame = o.frame.octets.now; found = gathered_of o.survey; inner = o.inner.now }

abbrev pub surveyed_of : Opened → FrameSurveyed
surveyed_of w = record { place = w.located.place + 1; frame = w.located.frame; found = gathered w.parts; inner = w.located.inner }

unfoldable pub gathered_packet : Answer Opened → Answer FrameSurveyed
gathered_packet a = bind a (λ w. gives (surveyed_of w))

-- a packet that was opened for a table of k rows, where a is what its opening answers
pub record IsOpen (m : Meaning) (k : ℕ) (o : Open) (a : Answer Opened) : Type 0 where
  pub surveyed : Surveyed m.items o.frame.place o.frame.octets.now o.survey.octets.items
  pub fits : length m.items ≤ k
  pub told : gives (record { present = o.survey.present; tail = o.survey.tail.now; inner = o.inner.now }) ≡ read_told a
  pub table : (t : List Row) → filled m.items o.frame.place (cut_from m.items [] o.frame.place o.frame.octets.now) t ≡ table_after m a t
