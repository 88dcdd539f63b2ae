use Rattle.std.proofs.lemmas.List.{take_min}
use Rattle.bench.proofs.Printing.{rows_all}
use Rattle.bench.proofs.print.push_rows.Goals as goal

pub returns : goal.returns
returns g c =
    let e = rows_all _ _ c.loop-i.i _ _ c.loop-i.invariant c.loop-i-test.false in
    rw (c.min-shown.ensures, c.count.ensures, take_min) at e
