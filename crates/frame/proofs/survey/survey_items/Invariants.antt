use Rattle.std.proofs.Common.{◌≡◌, ◌≤◌}
use Rattle.frame.proofs.Along.{Along}
use Rattle.frame.proofs.survey.survey_items.Given as goal

abbrev pub invariant-loop-item : goal.invariant-loop-item
invariant-loop-item g l = record {
  can : (goal.iterator-loop-item g).can_next l.item-iterator;
  ends : (goal.iterator-loop-item g).is_finite l.item-iterator;
  same : l.item-iterator.layout.now ≡ l.lawful.layout.now;
  few : l.item-iterator.count ≤ 64;
  along : Along (g.L.Layout.meaning l.lawful.layout.now).items l.fn.frame.place l.fn.frame.octets.now l.item-iterator.at l.octets.items l.present l.at l.rest;
}
