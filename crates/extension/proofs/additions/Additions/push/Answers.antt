use Rattle.std.proofs.Common.{List, ap, arith}
use Rattle.layout.specs.Tables.{row_meaning, NamedItem}
use Rattle.extension.specs.Extended.{Extras}
use Rattle.extension.proofs.Listing.{pushed}
use Rattle.extension.proofs.additions.Additions.push.Goals as goal

pub returns : goal.returns
returns c =
    let s = c.args.self.now in
    ap (λ (l : List NamedItem). let x : Extras = record { masks = s.masks; added = l } in x)
    (pushed row_meaning s.rows s.count _ (omega (arith, s.full)))
