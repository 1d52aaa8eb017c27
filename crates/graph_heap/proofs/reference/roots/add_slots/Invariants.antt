use Rattle.std.proofs.Common.{◌≡◌, ◌++◌}
use Rattle.graph_heap.specs.Roots.{null_slots, slots_below, slots_of}
use Rattle.graph_heap.proofs.reference.roots.add_slots.Given as goal

abbrev pub invariant-loop-slot : goal.invariant-loop-slot
invariant-loop-slot l = l.slots.entries ≡ null_slots (slots_below l.mutator l.count ++ slots_of l.mutator l.slot)
