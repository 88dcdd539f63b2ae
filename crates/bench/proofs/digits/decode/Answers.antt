use Rattle.std.proofs.Common.{refl, arith}
use Rattle.bench.proofs.Decoding.{decoded_more, decoded_all}
use Rattle.bench.proofs.digits.decode.Goals as goal

pub loop-i-preserved : goal.loop-i-preserved
loop-i-preserved c =
    decoded_more _ _ _ _ _ _ c.loop-i.invariant (omega arith) (omega arith) c.digit_value.ensures.value c.digit_value-in-loop-i.ensures.value

pub returns : goal.returns
returns c = decoded_all _ _ _ _ _ c.loop-i.invariant refl (omega arith) (omega arith)
