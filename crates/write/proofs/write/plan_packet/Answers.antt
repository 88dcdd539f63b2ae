use Rattle.std.proofs.Common.{◌<◌, length, sym, ap, ◌∙◌, arith}
use Rattle.base.specs.Answers.{refused}
use Rattle.base.proofs.Asking.{cases_at_break}
use Rattle.write.specs.declared.fault.WriteFault.TheVariants.{Layout}
use Rattle.write.specs.Faults.{write_refusal}
use Rattle.write.proofs.Planning.{plan_no_layout, plan_no_rows, plan_unfit, plan_no_space, plan_gives}
use Rattle.write.proofs.write.plan_packet.Goals as goal

pub returns-in_err-lawful-clause-answer : goal.returns-in_err-lawful-clause-answer
returns-in_err-lawful-clause-answer g c =
    cases_at_break _ _ c.from_residual.result (Layout c.in_err-lawful.field-0.0) c.from_residual.ensures.1
    (plan_no_layout g.L.Layout.source (g.L.Layout.meaning c.args.layout.now) c.args.rows.now c.args.inner.now c.args.room
    _ c.in_err-lawful.ensures.answer)

pub returns-then-lawful-rows-clause-answer : goal.returns-then-lawful-rows-clause-answer
returns-then-lawful-rows-clause-answer g c =
    let few : length c.args.rows.now < length (g.L.Layout.meaning c.in_ok-lawful.lawful.layout.now).items = omega (arith, c.in_ok-lawful.lawful.counted) in
    plan_no_rows g.L.Layout.source (g.L.Layout.meaning c.args.layout.now) c.args.rows.now c.args.inner.now c.args.room
    c.in_ok-lawful.ensures.answer (rw c.in_ok-lawful.ensures.same at few)

pub returns-in_err-size-clause-answer : goal.returns-in_err-size-clause-answer
returns-in_err-size-clause-answer g c =
    let u = rw c.in_ok-lawful.ensures.same at c.in_err-size.ensures in
    let counted = rw c.in_ok-lawful.ensures.same at c.in_ok-lawful.lawful.counted in
    let n = plan_unfit g.L.Layout.source (g.L.Layout.meaning c.args.layout.now) c.args.rows.now c.args.inner.now c.args.room c.in_ok-lawful.ensures.answer
    (omega (arith, counted)) (λ e. u.1 (e ∙ sym counted)) in
    cases_at_break _ _ c.from_residual-in_err-size.result c.in_err-size.field-0.0 c.from_residual-in_err-size.ensures.1
    (λ t. n t ∙ ap (λ f. refused (write_refusal f)) (sym u.0))

pub returns-then-not-may_hold-clause-answer : goal.returns-then-not-may_hold-clause-answer
returns-then-not-may_hold-clause-answer g c =
    let u = rw c.in_ok-lawful.ensures.same at c.in_ok-size.ensures in
    let counted = rw c.in_ok-lawful.ensures.same at c.in_ok-lawful.lawful.counted in
    plan_no_space g.L.Layout.source (g.L.Layout.meaning c.args.layout.now) c.args.rows.now c.args.inner.now c.args.room c.in_ok-lawful.ensures.answer
    (omega (arith, counted)) (u.0 ∙ counted) c.in_ok-size.size c.padding_of.result u.1 c.padding_of.ensures c.if-not-may_hold.ensures

pub returns-clause-answer : goal.returns-clause-answer
returns-clause-answer g c =
    let u = rw c.in_ok-lawful.ensures.same at c.in_ok-size.ensures in
    let counted = rw c.in_ok-lawful.ensures.same at c.in_ok-lawful.lawful.counted in
    plan_gives g.L.Layout.source (g.L.Layout.meaning c.args.layout.now) c.args.rows.now c.args.inner.now c.args.room c.in_ok-lawful.ensures.answer
    (omega (arith, counted)) (u.0 ∙ counted) c.in_ok-size.size c.padding_of.result u.1 c.padding_of.ensures c.if-not-may_hold.ensures
