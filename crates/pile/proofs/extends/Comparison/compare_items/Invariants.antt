use Rattle.std.proofs.Common.{◌≡◌}
use Rattle.std.specs.Iterator.Adapters.{enumerate_source, enumerate_count}
use Rattle.pile.specs.Reasons.{AlikeBelow}
use Rattle.pile.proofs.extends.Comparison.compare_items.Given as goal

abbrev pub invariant-loop-item : goal.invariant-loop-item
invariant-loop-item g l = record {
  can : (goal.iterator-loop-item g).can_next l.item-iterator;
  ends : (goal.iterator-loop-item g).is_finite l.item-iterator;
  same : (enumerate_source l.item-iterator).layout.now ≡ l.self.lower.layout.now;
  place : enumerate_count l.item-iterator ≡ (enumerate_source l.item-iterator).at;
  alike : AlikeBelow (g.L.Layout.meaning l.self.lower.layout.now).items (g.U.Layout.meaning l.self.upper.layout.now).items (enumerate_source l.item-iterator).at;
}
