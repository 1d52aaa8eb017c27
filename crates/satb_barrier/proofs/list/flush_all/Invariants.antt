use Rattle.std.proofs.Common.{◌≡◌, ◌<◌, [], ℕ, length}
use Rattle.heap_model.specs.Action.{Relinks}
use Rattle.nodes.specs.Grey.{grey_in, buffer_of, AreLinked}
use Rattle.satb_barrier.proofs.list.flush_all.Given as goal

-- the same parts are grey, and the buffers before this one are empty
abbrev pub invariant-loop-mutator : goal.invariant-loop-mutator
invariant-loop-mutator l =
    (grey_in l.heap.nodes l.heap.grey ≡ grey_in l.fn.heap.nodes l.fn.heap.grey) × Relinks l.fn.heap.nodes l.heap.nodes × (l.heap ≡ record l.fn.heap { nodes = l.heap.nodes; grey = l.heap.grey })
    × (length l.heap.grey.buffers ≡ length l.fn.heap.grey.buffers) × AreLinked l.heap.nodes l.heap.grey × ((i : ℕ) → i < l.mutator → buffer_of l.heap.grey i ≡ [])
