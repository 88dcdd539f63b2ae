-- The refusal that each fault is.
use Rattle.base.specs.declared.refusal.Refusal.{Refusal}
use Rattle.base.specs.declared.question.Question.TheVariants as Q
use Rattle.base.specs.Answers.{no_to}
use Rattle.layout.specs.Faults.{layout_refusal}
use Rattle.packet.specs.Faults.{packet_refusal}
use Rattle.frame.specs.declared.fault.FrameFault.{FrameFault}
use Rattle.frame.specs.declared.fault.FrameFault.TheVariants.{Layout, Packet, PduType, Short, Limit}
use Rattle.frame.specs.declared.fault.ReadFault.{ReadFault}
use Rattle.frame.specs.declared.fault.ReadFault.TheVariants.{Frame, Rows}

abbrev pub frame_refusal : FrameFault → Refusal
frame_refusal (Layout f) = layout_refusal f
frame_refusal (Packet f) = packet_refusal f
frame_refusal (PduType p) = no_to Q.PduType p
frame_refusal (Short p) = no_to Q.ItemFits p
frame_refusal (Limit p) = no_to Q.Limit p

abbrev pub read_refusal : ReadFault → Refusal
read_refusal (Frame f) = frame_refusal f
read_refusal (Rows k) = no_to Q.TableRows k
