use Rattle.std.proofs.Common.{length, sym, ap}
use Rattle.base.proofs.Asking.{answer_at_break}
use Rattle.frame.specs.declared.fault.FrameFault.TheVariants.{Layout}
use Rattle.frame.specs.declared.fault.ReadFault.TheVariants.{Frame}
use Rattle.frame.specs.Faults.{read_refusal}
use Rattle.frame.specs.Reading.{read_told, table_after}
use Rattle.frame.specs.Views.{told_of}
use Rattle.frame.proofs.Opening.{read_no_layout}
use Rattle.frame.proofs.Presence.{reading_is_only_cut}
use Rattle.frame.proofs.Showing.{rows_show_items}
use Rattle.frame.proofs.Examples.{worked_frames}
use Rattle.frame.proofs.read.read.Goals as goal

pub returns-in_err-lawful : goal.returns-in_err-lawful
returns-in_err-lawful g c =
    let no = read_no_layout g.L.Layout.source (g.L.Layout.meaning c.args.layout.now) (length c.args.rows.now) c.args.buffer.now c.args.count _ c.in_err-lawful.ensures.answer in
    record {
      answer = answer_at_break told_of read_refusal c.from_residual.result (Frame (Layout c.in_err-lawful.field-0.0)) _ c.from_residual.ensures.1 (ap read_told no);
      table = ap (λ a. table_after (g.L.Layout.meaning c.args.layout.now) a c.args.rows.now) (sym no);
      only_cut = reading_is_only_cut;
      rows_show = rows_show_items;
      worked = worked_frames;
    }

pub returns-in_err-frame-clause-only_cut : goal.returns-in_err-frame-clause-only_cut
returns-in_err-frame-clause-only_cut g c = reading_is_only_cut

pub returns-in_err-frame-clause-rows_show : goal.returns-in_err-frame-clause-rows_show
returns-in_err-frame-clause-rows_show g c = rows_show_items

pub returns-in_err-frame-clause-worked : goal.returns-in_err-frame-clause-worked
returns-in_err-frame-clause-worked g c = worked_frames

pub returns-clause-only_cut : goal.returns-clause-only_cut
returns-clause-only_cut g c = reading_is_only_cut

pub returns-clause-rows_show : goal.returns-clause-rows_show
returns-clause-rows_show g c = rows_show_items

pub returns-clause-worked : goal.returns-clause-worked
returns-clause-worked g c = worked_frames
