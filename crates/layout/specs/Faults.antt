-- The refusal that each fault is.
use Rattle.base.specs.declared.refusal.Refusal.{Refusal}
use Rattle.base.specs.declared.question.Question.TheVariants as Q
use Rattle.base.specs.Answers.{no_layout}
use Rattle.layout.specs.declared.fault.LayoutFault.{LayoutFault}
use Rattle.layout.specs.declared.fault.LayoutFault.TheVariants.{Count, First, Governor}

abbrev pub layout_refusal : LayoutFault → Refusal
layout_refusal (Count o n) = no_layout o Q.ItemCount n
layout_refusal (First o) = no_layout o Q.FirstItem 0
layout_refusal (Governor o i) = no_layout o Q.Governors i
