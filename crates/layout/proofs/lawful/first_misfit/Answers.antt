use Rattle.std.proofs.Common.{arith}
use Rattle.layout.proofs.Made.{item_may_exist}
use Rattle.layout.proofs.Misfits.{misfit_here, fitted_more}
use Rattle.layout.proofs.lawful.first_misfit.Goals as goal

pub returns-then-not-governor_fits : goal.returns-then-not-governor_fits
returns-then-not-governor_fits g c =
    let given = rw c.loop-item.invariant.same at c.in-Some.ensures.steps.1 in
    misfit_here _ _ _ _ c.loop-item.invariant.fitted given.item _ (cc) c.if-not-governor_fits.true _ c.len.ensures.value

pub loop-item-preserved : goal.loop-item-preserved
loop-item-preserved g c =
    let given = rw c.loop-item.invariant.same at c.in-Some.ensures.steps.1 in
    record {
      can = tt;
      ends = tt;
      same = cc;
      few = omega arith;
      fitted =
          fitted_more _ _ _ _ c.loop-item.invariant.fitted given.item _ (cc)
          c.if-not-governor_fits.false (item_may_exist c.in-Some.item) _ given.next _ c.push.ensures.items;
    }
