-- A turn keeps what the whole walk gives, and leaves fewer octets.
use Rattle.std.proofs.Common.{length}
use Rattle.packet.specs.Views.{seen_of}
use Rattle.packet.proofs.Walks.{Going}
use Rattle.packet.proofs.packet.Packet.walk.Given as goal

abbrev pub invariant-loop-kind : goal.invariant-loop-kind
invariant-loop-kind l = Going l.self.octets.now l.kind l.place l.rest (seen_of l.met)

abbrev pub decreases-loop-kind : goal.decreases-loop-kind
decreases-loop-kind l = length l.rest
