-- The document of a graph heap: the objects nearest to its roots, and the references between them.
use Rattle.std.specs.Prelude.{ℕ, ◌-◌, ◌==◌, nat_eq, if◌then◌else◌, List, [], ◌∷◌, ◌++◌, length, map, take, flat_map, Option, None, Some}
use Rattle.std.specs.Set.{is_member}
use Rattle.graph_heap.specs.declared.command.Limits.{Limits}
use Rattle.graph_heap.specs.Graph.{Graph, object_of}
use Rattle.graph_heap.specs.declared.reachability.found.Found.{Found}
use Rattle.graph_heap.specs.declared.reachability.found.Holder.{Holder}
use Rattle.graph_heap.specs.declared.reachability.found.Holder.TheVariants as holds
use Rattle.inspector.specs.Roots.{root_at}
use Rattle.pictures.specs.declared.graph.statement.Statement.{Statement}
use Rattle.pictures.specs.declared.graph.statement.Statement.TheVariants.{Open, LeftToRight, Box, Holds, Object, Cell, LeftOut, Close}
use Rattle.pictures.specs.Lines.{each_from}
use Rattle.graph_heap.specs.Search.{holders}
use Rattle.pictures.specs.Statements.{dot_text}

-- the identities of the first objects that were found, at most this many
abbrev pub shown_of : ℕ → List Found → List ℕ
shown_of most found = map (λ f. f.id) (take most found)

-- a holder, and the object that it holds: a root has a box, and a reference cell is written with its object
abbrev pub holder_drawn : Limits → Holder → ℕ → List Statement
holder_drawn l (holds.Root place) id = Box (root_at l place) ∷ Holds (root_at l place) id ∷ []
holder_drawn l (holds.Cell from cell) id = Cell from cell id ∷ []

-- the drawing of a cell at a place, among cells with these holders, if it holds a shown object
abbrev pub cell_drawn : Limits → List ℕ → (ℕ → Holder) → ℕ → ℕ → List Statement
cell_drawn l shown holder place id = if is_member nat_eq shown id then holder_drawn l (holder place) id else []

-- the cells of an object, or else the roots, if they hold shown objects
abbrev pub cells_drawn : Limits → List ℕ → Option ℕ → List ℕ → List Statement
cells_drawn l shown object cells = each_from (cell_drawn l shown (holders object)) 0 cells

-- an object, and its reference cells
abbrev pub object_drawn : Graph → List ℕ → ℕ → List Statement
object_drawn g shown id =
    Object id (object_of g.objects id).shape ∷ cells_drawn g.limits shown (Some id) (object_of g.objects id).refs

-- objects of those that were found
abbrev pub objects_drawn : Graph → List ℕ → List Found → List Statement
objects_drawn g shown objects = flat_map (λ f. object_drawn g shown f.id) objects

-- how many objects aren't drawn, if there are any
abbrev pub left_out : ℕ → List Statement
left_out n = if n == 0 then [] else LeftOut n ∷ []

-- the beginning of the document
abbrev pub opening : List Statement
opening = Open ∷ LeftToRight ∷ []

-- the document of a graph heap, with at most this many of the objects that were found
abbrev pub graph_drawn : Graph → ℕ → List Found → List Statement
graph_drawn g most found =
    let shown = shown_of most found in
    opening
    ++ (cells_drawn g.limits shown None g.roots
    ++ (objects_drawn g shown (take most found) ++ (left_out (length found - most) ++ Close ∷ [])))

-- the text of the document
abbrev pub graph_picture : Graph → ℕ → List Found → List ℕ
graph_picture g most found = dot_text (graph_drawn g most found)
