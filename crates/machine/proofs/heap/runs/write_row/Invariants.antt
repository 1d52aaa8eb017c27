use Rattle.std.specs.Prelude.{ℕ, ◌+◌, slice_index}
use Rattle.graph_heap.specs.declared.command.Command.TheVariants as commands
use Rattle.graph_heap.specs.declared.command.Reply.TheVariants as replies
use Rattle.nodes.specs.HeapFields.{state_of, AreHeapFields}
use Rattle.machine.specs.Runs.{HasRun, StepsEach}
use Rattle.machine.proofs.heap.runs.write_row.Given as goal

abbrev pub invariant-loop-i : goal.invariant-loop-i
invariant-loop-i l = AreHeapFields l.heap × ((m obj first : ℕ) → HasRun (state_of l.fn.heap) m obj first l.run
    → HasRun (state_of l.heap) m obj first l.run
    × StepsEach (state_of l.fn.heap) m (λ i. commands.Put obj (first + i) (slice_index l.words i)) (λ i. replies.Done) l.i (state_of l.heap))
