use Rattle.base.proofs.Writing.{IsWrittenFrom}
use Rattle.base.proofs.number.put_number.Given as goal

abbrev pub invariant-loop-i : goal.invariant-loop-i
invariant-loop-i l = IsWrittenFrom l.value l.octets l.i l.rest
