-- The objects that a graph heap reaches, as a list.
use Rattle.std.specs.Prelude.{◌≡◌, ℕ, ◌<◌, ◌≤◌, ◌↔◌, true, List, Option, Some, None, length, nat_eq}
use Rattle.std.specs.List.{IsDistinct}
use Rattle.std.specs.Set.{is_member}
use Rattle.graph_heap.specs.declared.command.Shape.{Shape}
use Rattle.graph_heap.specs.declared.command.Change.{Change}
use Rattle.graph_heap.specs.declared.command.Change.TheVariants as changes
use Rattle.graph_heap.specs.Graph.{Graph}
use Rattle.graph_heap.specs.Reach.{Reaches}

-- an identity is that of one of this many objects
abbrev pub IsAmong : ℕ → ℕ → Type 0
IsAmong objects id = (0 < id) × (id ≤ objects)

-- these are the identities of the objects that can be reached, each once
pub record AreReached (g : Graph) (ids : List ℕ) : Type 0 where
  pub exactly : (id : ℕ) → is_member nat_eq ids id ≡ true ↔ (Reaches g id × (id ≤ length g.objects))
  pub once : IsDistinct nat_eq ids

-- the shape of the object that a change makes
abbrev pub new_shape : Change → Option Shape
new_shape (changes.New cell id shape) = Some shape
new_shape _ = None
