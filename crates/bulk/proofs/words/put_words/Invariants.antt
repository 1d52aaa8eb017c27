use Rattle.std.specs.Prelude.{◌-◌, ◌≤◌, None, map}
use Rattle.bulk.specs.InOrder.{DoesFrontBy}
use Rattle.bulk.specs.Lists.{upto}
use Rattle.bulk.proofs.Lists.{put_at}
use Rattle.bulk.proofs.words.put_words.Given as goal

abbrev pub invariant-loop-done : goal.invariant-loop-done
invariant-loop-done g l = (l.done ≤ l.count)
    × DoesFrontBy (g.H.Commands.does l.mutator) l.fn.heap (map (put_at l.obj l.first l.words) (upto l.done)) (record { done = l.done; refused = None }) l.heap

abbrev pub decreases-loop-done : goal.decreases-loop-done
decreases-loop-done g l = l.count - l.done
