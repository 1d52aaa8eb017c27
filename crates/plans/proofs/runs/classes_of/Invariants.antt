use Rattle.plans.proofs.Classes.{AreUsed}
use Rattle.plans.proofs.runs.classes_of.Given as goal

abbrev pub invariant-loop-number : goal.invariant-loop-number
invariant-loop-number l = AreUsed l.blocks l.number l.used.items
