-- The refusal that each fault is.
use Rattle.base.specs.declared.refusal.Refusal.{Refusal}
use Rattle.base.specs.declared.question.Question.TheVariants as Q
use Rattle.base.specs.Answers.{no_to}
use Rattle.packet.specs.declared.fault.PacketFault.{PacketFault}
use Rattle.packet.specs.declared.fault.PacketFault.TheVariants.{Count, Flags, MessageType, Length, Header, Container}

abbrev pub packet_refusal : PacketFault → Refusal
packet_refusal (Count n) = no_to Q.PacketCount n
packet_refusal Flags = no_to Q.Flags 0
packet_refusal MessageType = no_to Q.MessageType 1
packet_refusal Length = no_to Q.StatedLength 2
packet_refusal (Header p) = no_to Q.Header p
packet_refusal (Container p) = no_to Q.Container p
