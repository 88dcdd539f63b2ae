use Rattle.std.proofs.lemmas.Result.{IfOk-weaker}
use Rattle.bench.proofs.Keeping.{answers_whole}
use Rattle.bench.proofs.session.Session.end_line.Goals as goal

pub returns-clause-answers : goal.returns-clause-answers
returns-clause-answers c = IfOk-weaker c.end_kept.result _ _ (λ _. answers_whole _ _ _ _ c.keep.ensures) c.end_kept.ensures.answers
