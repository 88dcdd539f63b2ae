use Rattle.std.proofs.Common.{ap, ◌∙◌, arith}
use Rattle.frame.proofs.Along.{along_short, along_over, along_more, along_all}
use Rattle.frame.proofs.survey.survey_items.Goals as goal

pub returns-in_default : goal.returns-in_default
returns-in_default g c =
    let given = rw c.loop-item.invariant.same at c.in-Some.ensures.steps.1 in
    along_short _ _ _ _ _ _ _ _ c.in-Some.item _ c.loop-item.invariant.along given.item
    _ c.deref.ensures.0 c.size_in-size.ensures.is c.in_default.ensures.cases

pub returns-then-not-is_within : goal.returns-then-not-is_within
returns-then-not-is_within g c =
    let given = rw c.loop-item.invariant.same at c.in-Some.ensures.steps.1 in
    along_over _ _ _ _ _ _ _ _ c.in-Some.item _ c.loop-item.invariant.along given.item
    _ c.deref.ensures.0 c.size_in-size.ensures.is
    _ _ c.in-Some-split_at_checked.ensures.cases _ c.number-value.ensures.exact c.size_in-size.ensures.few c.if-not-is_within.ensures

pub loop-item-preserved : goal.loop-item-preserved
loop-item-preserved g c =
    let given = rw c.loop-item.invariant.same at c.in-Some.ensures.steps.1 in
    record {
      can = tt;
      ends = tt;
      same = ap (λ r. r.now) c.in-Some.ensures.steps.0.0 ∙ c.loop-item.invariant.same;
      few = omega arith;
      along =
          along_more _ _ _ _ _ _ _ _ c.in-Some.item _ c.loop-item.invariant.along given.item
          _ c.deref.ensures.0 c.size_in-size.ensures.is
          _ _ c.in-Some-split_at_checked.ensures.cases _ c.number-value.ensures.exact c.size_in-size.ensures.few c.if-not-is_within.ensures
          _ given.next _ c.push.ensures.items _ c.from-present.ensures;
    }

pub returns : goal.returns
returns g c =
    let left = rw c.loop-item.invariant.same at c.in-None.ensures.steps.1 in
    along_all _ _ _ _ _ _ _ _ c.loop-item.invariant.along left.past
