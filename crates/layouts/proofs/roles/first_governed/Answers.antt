use Rattle.std.proofs.Common.{rules, ◌≡◌, List, Option, ap}
use borrow.Author.Tests.{tests}
use Rattle.std.proofs.lemmas.Iterator.{IsFirst-from_position}
use Rattle.layout.specs.declared.item.Item.{Item}
use Rattle.layout.specs.declared.items.Items.{Items}
use Rattle.layout.specs.Itemized.{GivesItem}
use Rattle.layout.specs.Items.{ItemMeaning}
use Rattle.layouts.proofs.Governing.{YieldsList-from_items, Yes, No, first_governor}
use Rattle.layouts.proofs.roles.first_governed.Goals as goal

pub returns : goal.returns
returns g c =
    let S : Type 0 = Items g.row.L.Denot g.L.Layout in
    let is : S → List ItemMeaning = λ s. (g.L.Layout.meaning s.layout.now).items in
    let steps : S → Option Item → S → Type 0 = λ s x t. ((t.layout ≡ s.layout) × (t.count ≡ s.count)) × GivesItem (is s) s.at x t.at in
    let y = YieldsList-from_items steps is (λ s. s.at) (λ s t x h. (ap (λ l. (g.L.Layout.meaning l.now).items) h.0.0, h.1)) c.new.result in
    let f = IsFirst-from_position {steps = steps} c.position.new.self _ c.position.result (Yes c.args.item c.args.bit) (No c.args.item c.args.bit) c.position.ensures.ran y
    (λ x q k. search (rules, tests)) (λ x q k. search (rules, tests)) in
    first_governor _ _ _ _ (rw (c.new.ensures.start, c.new.ensures.layout) at f)
