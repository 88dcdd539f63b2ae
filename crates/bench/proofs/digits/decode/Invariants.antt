use Rattle.bench.proofs.Decoding.{Decoded}
use Rattle.bench.proofs.digits.decode.Given as goal

abbrev pub invariant-loop-i : goal.invariant-loop-i
invariant-loop-i l = Decoded l.digits l.initial.buffer l.i l.buffer
