use Rattle.std.proofs.Common.{arith, subst}
use Rattle.pile.specs.Reasons.{AlikeBelow}
use Rattle.pile.proofs.Deciding.{comparable, stray_here}
use Rattle.pile.proofs.extends.Comparison.check_further.Goals as goal

pub returns-then-not-lies_above : goal.returns-then-not-lies_above
returns-then-not-lies_above g c =
    let b = c.args.self.now in
    let given = rw c.loop-k.invariant.same at c.in-Some.ensures.steps.0.1 in
    stray_here (g.L.Layout.meaning b.lower.layout.now) (g.U.Layout.meaning b.upper.layout.now) _ _ _ c.loop-k.invariant.further given
    g.L.Layout.source g.U.Layout.source _ (comparable _ _ _ _ b.lower.exist b.lower.passed b.upper.exist b.upper.passed b.typed)
    (subst (AlikeBelow (g.L.Layout.meaning b.lower.layout.now).items (g.U.Layout.meaning b.upper.layout.now).items) b.lower.counted c.requires)
    (omega (arith, c.in-Some.ensures.steps.1, c.loop-k.invariant.place)) (omega (arith, b.lower.counted)) c.if-not-lies_above.ensures
