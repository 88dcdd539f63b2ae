use Rattle.std.proofs.Common.{◌≡◌, ℕ, List, length}
use Rattle.bench.specs.Inputs.{NoEnd}
use Rattle.bench.specs.Sessions.{kept}
use Rattle.bench.proofs.Feeding.{Feeding}
use Rattle.bench.proofs.session.Session.feed.Given as goal

abbrev pub invariant-loop-line : goal.invariant-loop-line
invariant-loop-line l =
    (start : List ℕ) → NoEnd start → l.initial.self.line.items ≡ kept start → Feeding start l.input l.initial.self l.self l.rest

abbrev pub decreases-loop-line : goal.decreases-loop-line
decreases-loop-line l = length l.rest
