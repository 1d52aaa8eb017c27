use Rattle.std.specs.Prelude.{◌≡◌, ◌+◌, ◌<◌, ℕ, drop, slice_index}
use Rattle.heap_model.specs.Store.{record_of}
use Rattle.machine.proofs.heap.runs.read_row.Given as goal

abbrev pub invariant-loop-i : goal.invariant-loop-i
invariant-loop-i l = ((k : ℕ) → k < l.i → slice_index l.words k ≡ slice_index (record_of l.nodes l.at.block).cells (l.at.index + k))
    × (drop l.i l.words ≡ drop l.i l.fn.words)
