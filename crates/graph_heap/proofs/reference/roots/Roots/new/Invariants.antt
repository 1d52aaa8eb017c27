use Rattle.std.proofs.Common.{◌≡◌}
use Rattle.graph_heap.specs.Roots.{null_slots, slots_below}
use Rattle.graph_heap.proofs.reference.roots.Roots.new.Given as goal

abbrev pub invariant-loop-mutator : goal.invariant-loop-mutator
invariant-loop-mutator l = l.slots.entries ≡ null_slots (slots_below l.mutator l.limits.slots)
