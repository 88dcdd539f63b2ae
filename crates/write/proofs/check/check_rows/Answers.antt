use Rattle.std.proofs.Common.{◌≡◌, ℕ, ◌+◌, ◌≤◌, length, inl, sym, ap, ◌∙◌, ⊎_elim, arith}
use Rattle.std.specs.Iterator.Adapters.{enumerate_source, zip_first}
use Rattle.write.specs.declared.fault.WriteFault.TheVariants.{Unfit}
use Rattle.write.specs.Writing.{first_unfit}
use Rattle.write.proofs.Checking.{nth_from_rest, rest_more, all_past, unfit_here, fitting_more, fitting_all}
use Rattle.write.proofs.check.check_rows.Goals as goal

pub returns-then-not-is_fit_at : goal.returns-then-not-is_fit_at
returns-then-not-is_fit_at g c =
    let m = g.L.Layout.meaning c.args.given.now.lawful.layout.now in
    let rs = c.args.given.now.rows.now in
    let i = (zip_first (enumerate_source c.loop-i.i-iterator)).at in
    let steps = c.in-Some.ensures.steps in
    let given = rw c.loop-i.invariant.same at steps.0.0.1 in
    let here = steps.1 ∙ c.loop-i.invariant.index in
    let u : c.in-Some.i ≡ first_unfit m rs =
    unfit_here m rs i _ c.loop-i.invariant.fitting _ _ given.item (nth_from_rest rs i _ _ (sym c.loop-i.invariant.rest ∙ steps.0.1))
    _ _ c.pdu_type-pdu_type.ensures.value here c.if-not-is_fit_at.ensures in
    (ap Unfit u, λ e. let b : ⊥ = omega (arith, u, e, here, given.within, c.args.given.now.lawful.counted) in b)

pub loop-i-preserved : goal.loop-i-preserved
loop-i-preserved g c =
    let m = g.L.Layout.meaning c.args.given.now.lawful.layout.now in
    let rs = c.args.given.now.rows.now in
    let i = (zip_first (enumerate_source c.loop-i.i-iterator)).at in
    let steps = c.in-Some.ensures.steps in
    let given = rw c.loop-i.invariant.same at steps.0.0.1 in
    let here = steps.1 ∙ c.loop-i.invariant.index in
    let count = steps.0.0.0.1 ∙ c.loop-i.invariant.count in
    let index = steps.2 ∙ ap (λ (k : ℕ). k + 1) c.loop-i.invariant.index ∙ sym given.next in
    let rest = sym c.loop-i.invariant.rest ∙ steps.0.1 in
    record {
      can = ((tt, tt), tt, inl (omega (arith, count, index)));
      ends = tt;
      same = ap (λ r. r.now) steps.0.0.0.0 ∙ c.loop-i.invariant.same;
      count = count;
      index = index;
      rest = rest_more rs i _ _ rest _ given.next;
      fitting =
          fitting_more m rs i _ c.loop-i.invariant.fitting _ _ given.item (nth_from_rest rs i _ _ rest) _ _ c.pdu_type-pdu_type.ensures.value here
          c.if-not-is_fit_at.ensures _ c.octets_in-size.ensures.is c.octets_in-size.ensures.few _ given.next;
    }

pub returns : goal.returns
returns g c =
    let m = g.L.Layout.meaning c.args.given.now.lawful.layout.now in
    let rs = c.args.given.now.rows.now in
    let s = enumerate_source c.loop-i.i-iterator in
    let enough : length m.items ≤ length rs = omega (arith, c.args.given.now.enough, c.args.given.now.lawful.counted) in
    let past : length m.items ≤ (zip_first s).at =
    ⊎_elim (λ u. let left = rw c.loop-i.invariant.same at u.1.1 in left.past) (λ u. all_past m.items rs _ _ enough c.loop-i.invariant.rest u.1.0) c.in-None.ensures.steps.0 in
    let within : (zip_first s).at ≤ length m.items = omega (arith, c.loop-i.invariant.count, (zip_first s).within, c.args.given.now.lawful.counted) in
    let f = fitting_all m rs _ _ c.loop-i.invariant.fitting past within enough in
    (f.0 ∙ sym c.args.given.now.lawful.counted, f.1, omega (arith, c.loop-i.invariant.fitting.small, within, c.args.given.now.lawful.counted, c.args.given.now.lawful.few))
