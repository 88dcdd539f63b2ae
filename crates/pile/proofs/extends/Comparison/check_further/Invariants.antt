use Rattle.std.proofs.Common.{◌≡◌, ◌+◌}
use Rattle.std.specs.Iterator.Adapters.{enumerate_source, enumerate_count}
use Rattle.pile.specs.Reasons.{FurtherBelow}
use Rattle.pile.proofs.extends.Comparison.check_further.Given as goal

abbrev pub invariant-loop-k : goal.invariant-loop-k
invariant-loop-k g l = record {
  can : (goal.iterator-loop-k g).can_next l.k-iterator;
  ends : (goal.iterator-loop-k g).is_finite l.k-iterator;
  same : (enumerate_source l.k-iterator).layout.now ≡ l.self.upper.layout.now;
  place : l.self.lower.count + enumerate_count l.k-iterator ≡ (enumerate_source l.k-iterator).at;
  further : FurtherBelow (g.L.Layout.meaning l.self.lower.layout.now).items (g.U.Layout.meaning l.self.upper.layout.now).items (enumerate_source l.k-iterator).at;
}
