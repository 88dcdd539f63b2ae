use Rattle.write.proofs.ReadingBack.{written_reads_back}
use Rattle.write.proofs.write.write.Goals as goal

pub returns-in_err-plan-clause-reads_back : goal.returns-in_err-plan-clause-reads_back
returns-in_err-plan-clause-reads_back g c = written_reads_back

pub returns-clause-reads_back : goal.returns-clause-reads_back
returns-clause-reads_back g c = written_reads_back
