-- The walk starts, stops and ends as its definition does.
use Rattle.std.proofs.Common.{sym}
use Rattle.std.proofs.lemmas.List.{take_rest}
use Rattle.base.proofs.Asking.{answer_at_break}
use Rattle.packet.specs.Faults.{packet_refusal}
use Rattle.packet.specs.Views.{walked_of}
use Rattle.packet.proofs.Walks.{going_starts, going_ends, going_stops}
use Rattle.packet.proofs.packet.Packet.walk.Goals as goal

pub loop-kind-init : goal.loop-kind-init
loop-kind-init c = going_starts _ _ c.args.self.least c.args.self.most (take_rest c.args.self.octets.now 12)

pub returns-in_err-size : goal.returns-in_err-size
returns-in_err-size c =
    answer_at_break walked_of packet_refusal _ _ _ c.from_residual.ensures.1
    (going_stops _ _ _ _ _ c.loop-kind.invariant _ c.loop-kind-test.true c.in_err-size.ensures)

pub returns : goal.returns
returns c = sym (going_ends _ _ _ _ _ c.loop-kind.invariant c.loop-kind-test.false)
