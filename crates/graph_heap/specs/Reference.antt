-- The slow heap, as a graph heap.
use Rattle.std.specs.Prelude.{ℕ, ◌≤◌, length, slice_index, Result, Ok}
use Rattle.graph_heap.specs.declared.command.Refusal.{Refusal}
use Rattle.graph_heap.specs.declared.reference.Reference.TheInside.{Inside}
use Rattle.graph_heap.specs.Graph.{Graph}
use Rattle.graph_heap.specs.Effect.{◌>>=◌, slot_at}

-- the slow heap's fields, as a graph heap
abbrev pub graph_in : Inside → Graph
graph_in a = record {
  limits = a.roots.limits;
  objects = a.objects;
  roots = a.roots.cells;
  live = a.live.items;
}

-- each mutator is live or not
abbrev pub TellsLive : Inside → Type 0
TellsLive a = a.roots.limits.mutators ≤ length a.live.items

-- the identity in a slot of a mutator, or 0 for null
abbrev pub referent_at : Graph → ℕ → ℕ → Result ℕ Refusal
referent_at g m slot = slot_at g.limits m slot >>= λ at. Ok (slice_index g.roots at)
