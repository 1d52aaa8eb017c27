-- The outcome of drawing a graph heap.
use Rattle.std.specs.Prelude.{◌≡◌, ℕ, List, ◌++◌, Result, Ok, Err}
use Rattle.trace.specs.declared.fault.PlayFault.{PlayFault}
use Rattle.trace.specs.declared.fault.PlayFault.TheVariants.{Write, NoMemory}
use Rattle.trace.specs.Streams.{Taken, GrowsByPart}
use Rattle.graph_heap.specs.Graph.{Graph}
use Rattle.graph_heap.specs.declared.reachability.found.Found.{Found}
use Rattle.graph_heap.specs.Distance.{FindsAll}
use Rattle.pictures.specs.GraphDrawing.{graph_picture}

-- The objects nearest to the roots are drawn, at most this many of those that can be reached. Or a part of the document
-- is written and then a write failed. Or memory was refused, and nothing is written. There is no other fault.
abbrev pub GraphDrawn : Graph → ℕ → Taken → Result (Unit {0}) PlayFault → Type 0
GraphDrawn g most taken (Ok drawn) =
    (found : List Found) × FindsAll g found × (taken.after ≡ taken.before ++ graph_picture g most found)
GraphDrawn g most taken (Err Write) =
    (found : List Found) × FindsAll g found × GrowsByPart taken.before taken.after (graph_picture g most found)
GraphDrawn g most taken (Err NoMemory) = taken.after ≡ taken.before
GraphDrawn g most taken (Err fault) = ⊥
