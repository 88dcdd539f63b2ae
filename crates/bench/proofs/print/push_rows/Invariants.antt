use Rattle.std.proofs.Common.{◌≡◌, ◌++◌, take, drop, string_bytes}
use Rattle.bench.specs.Texts.{rows_text}
use Rattle.bench.proofs.print.push_rows.Given as goal

abbrev pub invariant-loop-i : goal.invariant-loop-i
invariant-loop-i g l =
    let ns = g.N.NamedLayout.names l.layout in
    let rs = take l.shown l.rows in
    string_bytes l.initial.out ++ rows_text ns 0 rs ≡ string_bytes l.out ++ rows_text ns l.i (drop l.i rs)
