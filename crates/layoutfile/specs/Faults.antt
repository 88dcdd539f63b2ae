-- The refusal that each fault of a file is. The origin of files is 2.
use Rattle.base.specs.declared.refusal.Refusal.{Refusal}
use Rattle.base.specs.declared.question.Question.TheVariants as Q
use Rattle.base.specs.Answers.{no_layout}
use Rattle.layoutfile.specs.declared.fault.FileFault.{FileFault}
use Rattle.layoutfile.specs.declared.fault.FileFault.TheVariants.{Start, Size, Entry}

abbrev pub file_refusal : FileFault → Refusal
file_refusal Start = no_layout 2 Q.FileStart 0
file_refusal Size = no_layout 2 Q.FileSize 5
file_refusal (Entry i) = no_layout 2 Q.Entry i
