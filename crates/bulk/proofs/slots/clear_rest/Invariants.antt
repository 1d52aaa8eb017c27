use Rattle.std.specs.Prelude.{◌-◌, ◌≤◌, None}
use Rattle.bulk.specs.InOrder.{DoesFrontBy}
use Rattle.bulk.specs.Lists.{clears}
use Rattle.bulk.proofs.slots.clear_rest.Given as goal

abbrev pub invariant-loop-done : goal.invariant-loop-done
invariant-loop-done g l = (l.done ≤ l.count)
    × ((h : g.row.H.Denot) → DoesFrontBy (g.H.Commands.does l.mutator) h (clears l.first l.cleared) (record { done = l.cleared; refused = None }) l.fn.heap
    → DoesFrontBy (g.H.Commands.does l.mutator) h (clears l.first l.done) (record { done = l.done; refused = None }) l.heap)

abbrev pub decreases-loop-done : goal.decreases-loop-done
decreases-loop-done g l = l.count - l.done
