-- Methods of a heap that do a command of a mutator.
use Rattle.std.specs.Prelude.{ℕ}
use Rattle.graph_heap.specs.declared.command.Command.{Command}
use Rattle.graph_heap.specs.declared.command.Reply.{Reply}
use Rattle.heap_model.specs.State.{HeapState}
use Rattle.machine.specs.Plan.{Steps}

-- on each heap a method does this command of this mutator, as the heap's own method for it does
abbrev pub IsMethodOf : ℕ → Command → (HeapState → Reply → HeapState → Type 0) → Type 0
IsMethodOf m c call = (h : HeapState) (reply : Reply) (after : HeapState) → call h reply after → Steps h m c reply after
