use Rattle.std.proofs.Common.{refl}
use Rattle.graph_heap.specs.declared.command.Change.TheVariants as changes
use Rattle.machine.proofs.heap.planning.leave.Goals as goal

pub returns : goal.returns
returns c g a = rw c.done.ensures (changes.Leave c.args.mutator, refl, (refl, c.requires))
