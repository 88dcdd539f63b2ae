use Rattle.std.proofs.Common.{◌+◌, sym, ◌∙◌, ap}
use Rattle.pile.proofs.Deciding.{comparable, missing_here, alike_more, unlike_here}
use Rattle.pile.proofs.extends.Comparison.compare_items.Goals as goal

pub returns-in_default : goal.returns-in_default
returns-in_default g c =
    let b = c.args.self.now in
    let given = rw c.loop-item.invariant.same at c.in-Some.ensures.steps.0.1 in
    missing_here (g.L.Layout.meaning b.lower.layout.now) (g.U.Layout.meaning b.upper.layout.now) _ _ _ _ c.loop-item.invariant.alike
    (c.in-Some.ensures.steps.1 ∙ c.loop-item.invariant.place) given
    g.L.Layout.source g.U.Layout.source (comparable _ _ _ _ b.lower.exist b.lower.passed b.upper.exist b.upper.passed b.typed) c.in_default.ensures

pub returns-in-Some-difference : goal.returns-in-Some-difference
returns-in-Some-difference g c =
    let b = c.args.self.now in
    let given = rw c.loop-item.invariant.same at c.in-Some.ensures.steps.0.1 in
    unlike_here (g.L.Layout.meaning b.lower.layout.now) (g.U.Layout.meaning b.upper.layout.now) _ _ _ _ c.loop-item.invariant.alike
    (c.in-Some.ensures.steps.1 ∙ c.loop-item.invariant.place) given
    g.L.Layout.source g.U.Layout.source (comparable _ _ _ _ b.lower.exist b.lower.passed b.upper.exist b.upper.passed b.typed) _ _ c.in-Some-item.ensures c.in-Some-difference.ensures

pub loop-item-preserved : goal.loop-item-preserved
loop-item-preserved g c =
    let b = c.args.self.now in
    let given = rw c.loop-item.invariant.same at c.in-Some.ensures.steps.0.1 in
    record {
      can = c.in-Some.ensures.goes.keeps;
      ends = tt;
      same = ap (λ r. r.now) c.in-Some.ensures.steps.0.0.0 ∙ c.loop-item.invariant.same;
      place = c.in-Some.ensures.steps.2 ∙ ap (λ n. n + 1) c.loop-item.invariant.place ∙ sym given.next;
      alike =
          alike_more (g.L.Layout.meaning b.lower.layout.now) (g.U.Layout.meaning b.upper.layout.now) _ _ _ _ c.loop-item.invariant.alike
          (c.in-Some.ensures.steps.1 ∙ c.loop-item.invariant.place) given _ c.in-Some-item.ensures c.in_default-difference.ensures;
    }
