use Rattle.layoutfile.proofs.Passing.{refused_25}
use Rattle.layoutfile.proofs.check.check_file.Goals as goal

pub returns-in-Some-clause-answer : goal.returns-in-Some-clause-answer
returns-in-Some-clause-answer c =
    refused_25 c.args.octets.now c.if-not-starts_well.ensures c.if-not-is_well_sized.ensures c.entries_of.result.now c.entries_of.ensures
    c.in-Some.entry c.in-Some.ensures
