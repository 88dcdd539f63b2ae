use Rattle.std.proofs.Common.{◌≡◌, ◌≤◌}
use Rattle.layout.proofs.Misfits.{Fitted}
use Rattle.layout.proofs.lawful.first_misfit.Given as goal

abbrev pub invariant-loop-item : goal.invariant-loop-item
invariant-loop-item g l = record {
  can : (goal.iterator-loop-item g).can_next l.item-iterator;
  ends : (goal.iterator-loop-item g).is_finite l.item-iterator;
  same : l.item-iterator.layout.now ≡ l.fn.items.layout.now;
  few : l.item-iterator.count ≤ 64;
  fitted : Fitted (g.L.Layout.meaning l.fn.items.layout.now).items l.item-iterator.at l.masks.items;
}
