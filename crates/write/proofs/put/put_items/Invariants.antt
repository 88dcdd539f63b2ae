use Rattle.std.proofs.Common.{◌≡◌, drop}
use Rattle.std.specs.Iterator.Adapters.{zip_first, zip_second}
use Rattle.std.specs.Slice.Iter.{iter_rest}
use Rattle.write.proofs.Putting.{Put}
use Rattle.write.proofs.put.put_items.Given as goal

abbrev pub invariant-loop-item : goal.invariant-loop-item
invariant-loop-item g l = record {
  can : (goal.iterator-loop-item g).can_next l.item-iterator;
  ends : (goal.iterator-loop-item g).is_finite l.item-iterator;
  same : (zip_first l.item-iterator).layout.now ≡ l.plan.record.lawful.layout.now;
  rest : iter_rest (zip_second l.item-iterator) ≡ drop (zip_first l.item-iterator).at l.plan.record.rows.now;
  put : Put (g.L.Layout.meaning l.plan.record.lawful.layout.now).items l.plan.record.rows.now (zip_first l.item-iterator).at l.at l.out;
}
