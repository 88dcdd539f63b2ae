use Rattle.std.proofs.Common.{List, get_or, refl, ap, arith}
use Rattle.layout.specs.Items.{ItemMeaning}
use Rattle.layout.specs.Tables.{row_meaning, NamedItem}
use Rattle.extension.specs.Building.{called_too, no_named}
use Rattle.extension.specs.Extended.{Extras}
use Rattle.extension.proofs.Listing.{changed}
use Rattle.extension.proofs.additions.Additions.name_added.Goals as goal

pub returns : goal.returns
returns c =
    let s = c.args.self.now in
    record {
      extras = ap (λ (l : List NamedItem). let x : Extras = record { masks = s.masks; added = l } in x)
          (changed row_meaning s.rows s.count c.args.k _ c.index-self-k.result no_named (called_too c.args.bits) c.requires (omega (arith, s.full, s.few))
          (ap (λ (i : ItemMeaning). let r : NamedItem = record { name = (get_or s.rows c.args.k c.index-self-k.result).name.letters; item = i } in r) c.with_bits-item.ensures));
      count = refl;
    }
