-- The refusal that each fault of write is.
use Rattle.base.specs.declared.refusal.Refusal.{Refusal}
use Rattle.base.specs.declared.question.Question.TheVariants as Q
use Rattle.base.specs.Answers.{no_to}
use Rattle.layout.specs.Faults.{layout_refusal}
use Rattle.write.specs.declared.fault.WriteFault.{WriteFault}
use Rattle.write.specs.declared.fault.WriteFault.TheVariants.{Layout, Rows, Unfit, Space}

abbrev pub write_refusal : WriteFault → Refusal
write_refusal (Layout f) = layout_refusal f
write_refusal (Rows n) = no_to Q.TableRows n
write_refusal (Unfit i) = no_to Q.RowFits i
write_refusal (Space n) = no_to Q.Room n
