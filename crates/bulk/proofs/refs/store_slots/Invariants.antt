use Rattle.std.specs.Prelude.{None, map}
use Rattle.bulk.specs.InOrder.{DoesFrontBy}
use Rattle.bulk.specs.Lists.{upto}
use Rattle.bulk.proofs.Lists.{store_at}
use Rattle.bulk.proofs.refs.store_slots.Given as goal

abbrev pub invariant-loop-i : goal.invariant-loop-i
invariant-loop-i g l = DoesFrontBy (g.H.Commands.does l.mutator) l.fn.heap (map (store_at l.obj l.slots) (upto l.i)) (record { done = l.i; refused = None }) l.heap
