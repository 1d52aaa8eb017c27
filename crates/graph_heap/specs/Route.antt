-- Paths from a root to an object.
use Rattle.std.specs.Prelude.{◌≡◌, ℕ, ◌+◌, ◌<◌, ◌≤◌, List, [], ◌∷◌, length, slice_index}
use Rattle.graph_heap.specs.Graph.{Graph, object_of}
use Rattle.graph_heap.specs.Reach.{Path, Reaches}
use Rattle.graph_heap.specs.Reaching.{IsAmong}
use Rattle.graph_heap.specs.declared.reachability.found.Holder.{Holder}
use Rattle.graph_heap.specs.declared.reachability.found.Holder.TheVariants.{Root, Cell}
use Rattle.graph_heap.specs.declared.reachability.found.Found.{Found}
use Rattle.graph_heap.specs.declared.reachability.route.Step.{Step}
use Rattle.graph_heap.specs.declared.reachability.route.Route.{Route}
use Rattle.graph_heap.specs.declared.reachability.route.Standing.{Standing}
use Rattle.graph_heap.specs.declared.reachability.route.Standing.TheVariants.{Reached, Unreachable, NeverMade}
use Rattle.graph_heap.specs.Distance.{found_at}
use Rattle.graph_heap.specs.Search.{IsAt}

-- the cells lead from one object to another: each is a cell of the object that the cell before it holds
abbrev pub Leads : Graph → ℕ → List Step → ℕ → Type 0
Leads g from [] id = from ≡ id
Leads g from (step ∷ steps) id =
    (from ≡ step.object) × (step.cell < length (object_of g.objects step.object).refs)
    × Leads g (slice_index (object_of g.objects step.object).refs step.cell) steps id

-- a path to an object: a root, and cells that lead there from the object that the root holds
abbrev pub IsPath : Graph → ℕ → Route → Type 0
IsPath g id r = (r.root < length g.roots) × Leads g (slice_index g.roots r.root) r.steps.items id

-- such a path, and none has fewer cells
pub record IsShortest (g : Graph) (id : ℕ) (r : Route) : Type 0 where
  pub path : IsPath g id r
  pub least : (k : ℕ) → Path g k id → length r.steps.items ≤ k

-- how an object stands: a shortest path leads to it, or it was made and none leads to it, or it wasn't made
abbrev pub StandsAs : Graph → ℕ → Standing → Type 0
StandsAs g id (Reached r) = IsAmong (length g.objects) id × IsShortest g id r
StandsAs g id Unreachable = IsAmong (length g.objects) id × (Reaches g id → ⊥)
StandsAs g id NeverMade = IsAmong (length g.objects) id → ⊥

-- a root is the last holder at distance 0, and else an object that was found one cell nearer
abbrev pub IsLinked : List Found → Found → Holder → Type 0
IsLinked found f (Root place) = f.distance ≡ 0
IsLinked found f (Cell object cell) = (k : ℕ) × IsAt found object k × ((found_at found k).distance + 1 ≡ f.distance)

-- each that was found is linked so
abbrev pub AreLinked : List Found → Type 0
AreLinked found = (k : ℕ) → k < length found → IsLinked found (found_at found k) (found_at found k).holder
