use Rattle.inspector.specs.Counted.{IsCounted}
use Rattle.inspector.proofs.shapes.counting.count.Given as goal

-- the blocks of the pages so far are counted
abbrev pub invariant-loop-page : goal.invariant-loop-page
invariant-loop-page l = IsCounted l.heap.store l.page 0 l.counted
