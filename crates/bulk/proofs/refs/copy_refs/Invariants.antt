use Rattle.std.specs.Prelude.{◌*◌, None}
use Rattle.bulk.specs.InOrder.{DoesFrontBy}
use Rattle.bulk.specs.Lists.{copies}
use Rattle.bulk.proofs.refs.copy_refs.Given as goal

abbrev pub invariant-loop-i : goal.invariant-loop-i
invariant-loop-i g l = DoesFrontBy (g.H.Commands.does l.mutator) l.fn.heap (copies l.through l.from l.from_first l.to l.to_first l.i)
    (record { done = 2 * l.i; refused = None }) l.heap
