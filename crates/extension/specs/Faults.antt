-- The refusal that each fault of building is. The origin of extensions is 3; a fault of the layout below carries its own.
use Rattle.base.specs.declared.refusal.Refusal.{Refusal}
use Rattle.base.specs.declared.question.Question.TheVariants as Q
use Rattle.base.specs.Answers.{no_layout}
use Rattle.layout.specs.Faults.{layout_refusal}
use Rattle.extension.specs.declared.fault.BuildFault.{BuildFault}
use Rattle.extension.specs.declared.fault.BuildFault.TheVariants.{Below, Entry, Space, Governor, Bits}

abbrev pub build_refusal : BuildFault → Refusal
build_refusal (Below f) = layout_refusal f
build_refusal (Entry i) = no_layout 3 Q.Entry i
build_refusal (Space n) = no_layout 3 Q.Space n
build_refusal (Governor g) = no_layout 3 Q.AddedGovernor g
build_refusal (Bits i) = no_layout 3 Q.SpareBits i
