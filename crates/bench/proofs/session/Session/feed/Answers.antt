use Rattle.std.proofs.Common.{◌∷◌, length, ap, refl, arith, length-append}
use Rattle.bench.proofs.Feeding.{feeding_more, fed}
use Rattle.bench.proofs.session.Session.feed.Goals as goal

pub loop-line-smaller : goal.loop-line-smaller
loop-line-smaller c =
    let e = c.in-Some.ensures.0 in
    omega (arith, ap length e, length-append c.in-Some.line.now (10 ∷ c.in-Some.behind.now))

pub loop-line-preserved : goal.loop-line-preserved
loop-line-preserved c =
    λ start n k.
    let f = c.loop-line.invariant start n k in
    feeding_more start _ _ _ _ f _ _ _ c.in-Some.ensures.0 c.in-Some.ensures.1 c.in_ok-end_line.ensures.answers c.in_ok-end_line.ensures.line

pub returns : goal.returns
returns c = λ start n k. fed start _ _ _ _ (c.loop-line.invariant start n k) _ c.in_default.ensures refl c.keep.ensures
