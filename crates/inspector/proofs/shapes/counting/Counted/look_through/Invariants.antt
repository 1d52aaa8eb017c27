use Rattle.inspector.specs.Counted.{IsCounted}
use Rattle.inspector.proofs.shapes.counting.Counted.look_through.Given as goal

-- the blocks of the page so far are counted
abbrev pub invariant-loop-index : goal.invariant-loop-index
invariant-loop-index l = IsCounted l.heap.store l.page l.index l.self
