use Rattle.std.proofs.lemmas.Result.{IfOk-weaker}
use Rattle.bench.proofs.Keeping.{last_none, last_answers}
use Rattle.bench.proofs.session.Session.finish.Goals as goal

pub returns-then-is_empty : goal.returns-then-is_empty
returns-then-is_empty c = λ l e. last_none l _ _ c.if-is_empty.ensures e

pub returns : goal.returns
returns c = λ l e. IfOk-weaker c.end_kept.result _ _ (λ _. last_answers l _ _ _ c.if-is_empty.ensures e) c.end_kept.ensures.answers
