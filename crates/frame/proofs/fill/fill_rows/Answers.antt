use Rattle.std.proofs.Common.{ℕ, ◌+◌, inl, sym, ap, ◌∙◌, arith}
use Rattle.frame.proofs.Presence.{earlier}
use Rattle.frame.proofs.Filling.{fits, filling_more, filled_all}
use Rattle.frame.proofs.fill.fill_rows.Goals as goal

pub split_at-requires : goal.split_at-requires
split_at-requires g c =
    let given = rw c.loop-i.invariant.same at c.in-Some.ensures.steps.0.1 in
    fits _ _ _ _ _ (earlier g.L.Layout.source (g.L.Layout.meaning c.args.lawful.now.layout.now) c.args.lawful.now.passed) c.requires.surveyed _ _ _ _ c.loop-i.invariant.filling c.in-Some.item _ given.item c.size_in-size.ensures.is

pub loop-i-preserved : goal.loop-i-preserved
loop-i-preserved g c =
    let steps = c.in-Some.ensures.steps in
    let given = rw c.loop-i.invariant.same at steps.0.1 in
    let count = steps.0.0.1 ∙ c.loop-i.invariant.count in
    let index = steps.2 ∙ ap (λ (i : ℕ). i + 1) c.loop-i.invariant.index ∙ sym given.next in
    let here = steps.1 ∙ c.loop-i.invariant.index in
    record {
      can = (tt, tt, inl (omega (arith, count, index)));
      ends = tt;
      same = ap (λ r. r.now) steps.0.0.0 ∙ c.loop-i.invariant.same;
      count = count;
      index = index;
      filling =
          filling_more _ _ _ _ _ (earlier g.L.Layout.source (g.L.Layout.meaning c.args.lawful.now.layout.now) c.args.lawful.now.passed)
          c.requires.surveyed _ _ _ _ c.loop-i.invariant.filling c.in-Some.item _ given.item c.size_in-size.ensures.is
          _ _ c.split_at.ensures.front c.split_at.ensures.back _ c.number.ensures.exact c.size_in-size.ensures.few
          _ _ given.next here (omega (arith, here, given.within, c.loop-i.invariant.filling.wide, c.requires.fits)) _ c.make_row.ensures;
    }

pub returns : goal.returns
returns g c =
    let left = rw c.loop-i.invariant.same at c.in-None.ensures.steps.0.1 in
    filled_all _ _ _ _ _ c.requires.surveyed _ _ _ _ c.loop-i.invariant.filling left.past
