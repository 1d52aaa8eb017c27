use Rattle.std.specs.Prelude.{None, map}
use Rattle.bulk.specs.InOrder.{DoesFrontBy}
use Rattle.bulk.specs.Lists.{upto}
use Rattle.bulk.proofs.Lists.{put_at}
use Rattle.bulk.proofs.words.put_each.Given as goal

abbrev pub invariant-loop-i : goal.invariant-loop-i
invariant-loop-i g l = DoesFrontBy (g.H.Commands.does l.mutator) l.fn.heap (map (put_at l.obj l.first l.words) (upto l.i)) (record { done = l.i; refused = None }) l.heap
