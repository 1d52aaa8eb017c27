use Rattle.std.proofs.Common.{◌-◌}
use Rattle.machine.proofs.Collecting.{HasSpent}
use Rattle.machine.proofs.heap.collecting.spend.Given as goal

abbrev pub invariant-loop-heap : goal.invariant-loop-heap
invariant-loop-heap l = HasSpent l.fn.heap l.heap l.budget

abbrev pub decreases-loop-heap : goal.decreases-loop-heap
decreases-loop-heap l = l.end - l.heap.units
