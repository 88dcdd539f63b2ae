use Rattle.std.proofs.Common.{arith}
use Rattle.base.proofs.Asking.{cases_at_break}
use Rattle.frame.specs.declared.fault.ReadFault.TheVariants.{Frame}
use Rattle.frame.proofs.Opening.{read_no_rows, read_no_packet, read_accepted}
use Rattle.frame.proofs.open.open_for_read.Goals as goal

pub returns-then-lawful-row_count : goal.returns-then-lawful-row_count
returns-then-lawful-row_count g c =
    read_no_rows g.L.Layout.source (g.L.Layout.meaning c.args.lawful.now.layout.now) c.args.row_count c.args.buffer.now c.args.count
    c.args.lawful.now.passed (omega (arith, c.args.lawful.now.counted))

pub returns-in_err-open : goal.returns-in_err-open
returns-in_err-open g c =
    cases_at_break _ _ c.from_residual.result (Frame c.in_err-open.field-0.0) c.from_residual.ensures.1
    (read_no_packet g.L.Layout.source (g.L.Layout.meaning c.args.lawful.now.layout.now) c.args.row_count c.args.buffer.now c.args.count
    c.args.lawful.now.passed (omega (arith, c.args.lawful.now.counted)) _ c.in_err-open.ensures)

pub returns : goal.returns
returns g c =
    read_accepted g.L.Layout.source (g.L.Layout.meaning c.args.lawful.now.layout.now) c.args.row_count c.args.buffer.now c.args.count
    c.args.lawful.now.passed (omega (arith, c.args.lawful.now.counted)) c.in_ok-open.open c.in_ok-open.ensures
