use Rattle.std.proofs.Common.{◌≡◌, drop}
use Rattle.std.specs.Iterator.Adapters.{enumerate_source, enumerate_count, zip_first, zip_second}
use Rattle.std.specs.Slice.Iter.{iter_rest}
use Rattle.write.proofs.Checking.{Fitting}
use Rattle.write.proofs.check.check_rows.Given as goal

abbrev pub invariant-loop-i : goal.invariant-loop-i
invariant-loop-i g l = record {
  can : (goal.iterator-loop-i g).can_next l.i-iterator;
  ends : (goal.iterator-loop-i g).is_finite l.i-iterator;
  same : (zip_first (enumerate_source l.i-iterator)).layout.now ≡ l.given.lawful.layout.now;
  count : (zip_first (enumerate_source l.i-iterator)).count ≡ l.given.lawful.count;
  index : enumerate_count l.i-iterator ≡ (zip_first (enumerate_source l.i-iterator)).at;
  rest : iter_rest (zip_second (enumerate_source l.i-iterator)) ≡ drop (zip_first (enumerate_source l.i-iterator)).at l.given.rows.now;
  fitting : Fitting (g.L.Layout.meaning l.given.lawful.layout.now) l.given.rows.now (zip_first (enumerate_source l.i-iterator)).at l.size;
}
