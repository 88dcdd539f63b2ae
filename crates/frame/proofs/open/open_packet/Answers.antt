use Rattle.std.proofs.Common.{sym, rules}
use Rattle.base.proofs.Asking.{answer_at_break}
use Rattle.packet.proofs.Containers.{container_inside}
use Rattle.packet.specs.Views.{located_of}
use Rattle.frame.specs.declared.fault.FrameFault.TheVariants.{Packet}
use Rattle.frame.specs.Faults.{frame_refusal}
use Rattle.frame.proofs.Opening.{open_no_packet, open_no_frame, open_yes}
use Rattle.frame.proofs.open.open_packet.Goals as goal

pub returns-in_err-found : goal.returns-in_err-found
returns-in_err-found g c =
    answer_at_break _ frame_refusal c.from_residual.result (Packet c.in_err-found.field-0.0) _ c.from_residual.ensures.1
    (open_no_packet (g.L.Layout.meaning c.args.lawful.now.layout.now) _ _ _ c.in_err-found.ensures.answer)

pub overflow_add-frame : goal.overflow_add-frame
overflow_add-frame g c =
    let i = container_inside c.args.buffer.now c.args.count (located_of c.in_ok-found.found) (sym c.in_ok-found.ensures.answer) in
    search rules

pub invariant_of-frame : goal.invariant_of-frame
invariant_of-frame g c =
    let i = container_inside c.args.buffer.now c.args.count (located_of c.in_ok-found.found) (sym c.in_ok-found.ensures.answer) in
    search rules

pub returns-in_err-survey : goal.returns-in_err-survey
returns-in_err-survey g c =
    answer_at_break _ frame_refusal c.from_residual-in_err-survey.result c.in_err-survey.field-0.0 _ c.from_residual-in_err-survey.ensures.1
    (open_no_frame (g.L.Layout.meaning c.args.lawful.now.layout.now) _ _ (located_of c.in_ok-found.found) c.in_ok-found.ensures.answer
    _ c.in_err-survey.ensures)

pub returns : goal.returns
returns g c =
    open_yes (g.L.Layout.meaning c.args.lawful.now.layout.now) _ _ (located_of c.in_ok-found.found) c.in_ok-found.ensures.answer
    _ c.in_ok-survey.ensures
