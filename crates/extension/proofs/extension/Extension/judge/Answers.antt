use Rattle.std.proofs.Common.{◌≡◌, ◌≤◌, length, take, sym, ◌∙◌, arith, length-take-le}
use lib.ListN.{length-map}
use Rattle.layout.specs.Tables.{row_meaning}
use Rattle.layout.specs.Views.{governor_meaning}
use Rattle.extension.specs.Views.{extras_of}
use Rattle.extension.proofs.Judged.{ready_from}
use Rattle.extension.proofs.extension.Extension.judge.Goals as goal

pub returns-clause-ready : goal.returns-clause-ready
returns-clause-ready g c =
    let e = c.args.self.now in
    let m = g.L.Layout.meaning e.below in
    let n : c.in_ok-below.below.count ≡ length m.items = rw c.in_ok-below.ensures.same at c.in_ok-below.below.counted in
    let rows = e.more.rows in
    let long : e.more.count ≤ length rows = omega (arith, e.more.few, e.more.full) in
    let len : e.more.count ≡ length (extras_of e.more).added =
    sym (length-map (take e.more.count rows) row_meaning ∙ length-take-le e.more.count rows long) in
    let governor = governor_meaning c.in_ok-item.item.governor in
    ready_from m (extras_of e.more) governor _ _ _ e.counted len (omega (arith, n, e.counted)) c.if-not-has_space.ensures c.if-not-may_hang_on.ensures
