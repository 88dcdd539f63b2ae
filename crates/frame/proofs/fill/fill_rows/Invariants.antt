use Rattle.std.proofs.Common.{◌≡◌}
use Rattle.std.specs.Iterator.Adapters.{enumerate_source, enumerate_count}
use Rattle.frame.proofs.Filling.{Filling}
use Rattle.frame.proofs.fill.fill_rows.Given as goal

abbrev pub invariant-loop-i : goal.invariant-loop-i
invariant-loop-i g l = record {
  can : (goal.iterator-loop-i g).can_next l.i-iterator;
  ends : (goal.iterator-loop-i g).is_finite l.i-iterator;
  same : (enumerate_source l.i-iterator).layout.now ≡ l.lawful.layout.now;
  count : (enumerate_source l.i-iterator).count ≡ l.lawful.count;
  index : enumerate_count l.i-iterator ≡ (enumerate_source l.i-iterator).at;
  filling : Filling (g.L.Layout.meaning l.lawful.layout.now).items l.fn.frame.place l.fn.frame.octets.now l.initial.rows (enumerate_source l.i-iterator).at l.rows l.at l.rest;
}
