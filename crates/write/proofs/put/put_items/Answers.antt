use Rattle.std.proofs.Common.{◌≡◌, ℕ, ◌+◌, ◌-◌, ◌^◌, ◌<◌, ◌≤◌, length, take, drop, sym, ap, ◌∙◌, subst, ⊎_elim, arith, length-drop, length-take-le, rules}
use Rattle.std.specs.Iterator.Adapters.{zip_first}
use Rattle.base.specs.Octets.{octets_of}
use Rattle.layout.proofs.Made.{item_may_exist}
use Rattle.write.proofs.Checking.{nth_from_rest, rest_more, all_past}
use Rattle.write.proofs.Putting.{within_out, put_more, put_all, value_fits}
use Rattle.write.proofs.put.put_items.Goals as goal

pub slice_bounds-put_number-end : goal.slice_bounds-put_number-end
slice_bounds-put_number-end g c =
    let m = g.L.Layout.meaning c.args.plan.now.record.lawful.layout.now in
    let rs = c.args.plan.now.record.rows.now in
    let i = (zip_first c.loop-item.item-iterator).at in
    let steps = c.in-Some.ensures.steps in
    let given = rw c.loop-item.invariant.same at steps.0.1 in
    let h : c.loop-item.at + c.octets_in.result ≤ length c.loop-item.out =
    within_out m.items rs i _ _ c.loop-item.invariant.put _ _ given.item (nth_from_rest rs i _ _ (sym c.loop-item.invariant.rest ∙ steps.1))
    _ c.octets_in.ensures.is (c.loop-item.auto.out ∙ c.requires ∙ c.args.plan.now.sized) in
    search rules

pub loop-item-preserved : goal.loop-item-preserved
loop-item-preserved g c =
    let m = g.L.Layout.meaning c.args.plan.now.record.lawful.layout.now in
    let rs = c.args.plan.now.record.rows.now in
    let i = (zip_first c.loop-item.item-iterator).at in
    let steps = c.in-Some.ensures.steps in
    let given = rw c.loop-item.invariant.same at steps.0.1 in
    let rest = sym c.loop-item.invariant.rest ∙ steps.1 in
    let r = c.in-Some.row.now in
    let q = nth_from_rest rs i _ _ rest in
    let sized : length c.loop-item.out ≡ _ = c.loop-item.auto.out ∙ c.requires ∙ c.args.plan.now.sized in
    let counted = c.args.plan.now.record.lawful.counted in
    let enough : length m.items ≤ length rs = omega (arith, c.args.plan.now.record.enough, counted) in
    let n = c.octets_in.result in
    let h : c.loop-item.at + n ≤ length c.loop-item.out =
    within_out m.items rs i _ _ c.loop-item.invariant.put _ _ given.item q _ c.octets_in.ensures.is sized in
    let part = take (c.loop-item.at + n - c.loop-item.at) (drop c.loop-item.at c.loop-item.out) in
    let l : length part ≡ n =
    length-take-le (c.loop-item.at + n - c.loop-item.at) (drop c.loop-item.at c.loop-item.out) (omega (arith, h, length-drop c.loop-item.at c.loop-item.out))
    ∙ omega arith in
    let v : r.value < 256 ^ n =
    subst (λ (k : ℕ). r.value < 256 ^ k) (sym c.octets_in.ensures.is)
    (value_fits m rs enough (c.args.plan.now.fit ∙ counted) i _ r given.item q (item_may_exist c.in-Some.item)) in
    record {
      can = (tt, tt);
      ends = tt;
      same = ap (λ r. r.now) steps.0.0.0 ∙ c.loop-item.invariant.same;
      rest = rest_more rs i _ _ rest _ given.next;
      put =
          put_more m.items rs i _ _ c.loop-item.invariant.put _ r given.item q n c.octets_in.ensures.is _ _ sized
          (c.put_number.ensures.exact (subst (λ (k : ℕ). r.value < 256 ^ k) (sym l) v) ∙ ap (λ (k : ℕ). octets_of k r.value) l)
          _ given.next;
    }

pub returns : goal.returns
returns g c =
    let m = g.L.Layout.meaning c.args.plan.now.record.lawful.layout.now in
    let rs = c.args.plan.now.record.rows.now in
    let counted = c.args.plan.now.record.lawful.counted in
    let enough : length m.items ≤ length rs = omega (arith, c.args.plan.now.record.enough, counted) in
    let past : length m.items ≤ (zip_first c.loop-item.item-iterator).at =
    ⊎_elim (λ u. let left = rw c.loop-item.invariant.same at u.1.1 in left.past) (λ u. all_past m.items rs _ _ enough c.loop-item.invariant.rest u.1.0) c.in-None.ensures.steps in
    put_all m.items rs _ _ _ c.loop-item.invariant.put past enough (c.loop-item.auto.out ∙ c.requires ∙ c.args.plan.now.sized)
