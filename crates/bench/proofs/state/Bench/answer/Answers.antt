use Rattle.std.proofs.Common.{Option, Some, MatchOption, length, ap, ◌∙◌, subst, arith}
use Rattle.bench.specs.declared.line.Command.{Command}
use Rattle.bench.specs.Lines.{IsCommand, IsNoCommand}
use Rattle.bench.proofs.Pairs.{length_pairs}
use Rattle.bench.proofs.state.Bench.answer.Goals as goal

pub decode-count-requires : goal.decode-count-requires
decode-count-requires c =
    let line = c.args.line.now in
    let p =
    subst (λ (o : Option Command). MatchOption o (IsNoCommand line) (λ d. IsCommand line d)) (c.in_ok-digits.ensures.ok_part ∙ ap Some c.in-Packet.is)
    c.parse.ensures in
    omega (arith, ap length p.1, length_pairs p.0, p.2.most, c.args.self.now.wide)
