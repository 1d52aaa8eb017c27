-- The drawing, in parts.
use Rattle.std.proofs.Common.{◌≡◌, ◌≢◌, ℕ, ◌+◌, ◌-◌, ◌<◌, min, Bool, true, false, if◌then◌else◌, List, [], ◌∷◌, ◌++◌, length, take, drop, get_or, ap, ◌∙◌, sym}
use Rattle.std.specs.Prelude.{nat_eq, Some, Result, Ok, Err}
use Rattle.std.specs.Result.{IsErrAnd}
use Rattle.std.specs.Set.{is_member}
use Rattle.std.proofs.lemmas.Bool.{ne_eqb}
use Rattle.std.proofs.lemmas.List.{drop_more, take_min}
use Rattle.graph_heap.specs.declared.command.Limits.{Limits}
use Rattle.graph_heap.specs.declared.command.Shape.{Shape}
use Rattle.graph_heap.specs.Graph.{Graph, object_of}
use Rattle.graph_heap.specs.declared.reachability.found.Found.{Found}
use Rattle.graph_heap.specs.declared.reachability.found.Holder.{Holder}
use Rattle.graph_heap.specs.declared.reachability.found.Holder.TheVariants as holds
use Rattle.inspector.specs.declared.by_root.places.Root.{Root}
use Rattle.pictures.specs.declared.graph.statement.Statement.TheVariants.{Box, Holds, Object, LeftOut}
use Rattle.inspector.specs.Roots.{root_at}
use Rattle.pictures.specs.GraphDrawing.{holder_drawn, cell_drawn, cells_drawn, object_drawn, objects_drawn, left_out}

-- a result that is this error
pub failed_so : {A E : Type 0} (r : Result A E) (why : E) → IsErrAnd r (λ e. e ≡ why) → r ≡ Err why
failed_so (Ok x) why h = elim h [ ]
failed_so (Err e) why h = ap Err h

-- a root and what it holds, by what its name is
pub root_is : (l : Limits) (root : Root) (place id : ℕ) → root ≡ root_at l place → Box root ∷ Holds root id ∷ [] ≡ holder_drawn l (holds.Root place) id
root_is l root place id e = ap (λ (r : Root). Box r ∷ Holds r id ∷ []) e

-- a cell that holds no shown object, or one
module _ (l : Limits) (shown : List ℕ) (holder : ℕ → Holder) (place id : ℕ) where
  pub cell_hidden : is_member nat_eq shown id ≡ false → cell_drawn l shown holder place id ≡ []
  cell_hidden h = ap (λ (b : Bool). if b then holder_drawn l (holder place) id else []) h

  pub cell_shown : is_member nat_eq shown id ≡ true → cell_drawn l shown holder place id ≡ holder_drawn l (holder place) id
  cell_shown h = ap (λ (b : Bool). if b then holder_drawn l (holder place) id else []) h

-- an object, and its cells
pub object_is : (g : Graph) (shown : List ℕ) (id : ℕ) (shape : Shape) (refs : List ℕ) → shape ≡ (object_of g.objects id).shape → refs ≡ (object_of g.objects id).refs
    → object_drawn g shown id ≡ (Object id shape ∷ []) ++ cells_drawn g.limits shown (Some id) refs
object_is g shown id shape refs e f =
    sym (ap (λ (s : Shape). Object id s ∷ cells_drawn g.limits shown (Some id) refs) e ∙ ap (λ (xs : List ℕ). Object id (object_of g.objects id).shape ∷ cells_drawn g.limits shown (Some id) xs) f)

-- the next object, and those behind it
pub objects_on : (g : Graph) (shown : List ℕ) (objects : List Found) (k : ℕ) (none : Found) → k < length objects
    → objects_drawn g shown (drop k objects) ≡ object_drawn g shown (get_or objects k none).id ++ objects_drawn g shown (drop (k + 1) objects)
objects_on g shown objects k none l = ap (objects_drawn g shown) (drop_more objects k none l)

-- how many aren't drawn: none, or some
pub none_left : (n : ℕ) → n ≡ 0 → left_out n ≡ []
none_left n e = ap left_out e

pub some_left : (n : ℕ) → n ≢ 0 → left_out n ≡ LeftOut n ∷ []
some_left n h = ap (λ (b : Bool). if b then [] else LeftOut n ∷ []) (ne_eqb n 0 h)

-- the parts of a document, by what calls answered
module _ (shown : List ℕ) where
  pub objects_are : (g : Graph) (found all : List Found) (count most : ℕ) → found ≡ all → count ≡ min most (length found) → objects_drawn g shown (take count found) ≡ objects_drawn g shown (take most all)
  objects_are g found all count most e few =
      ap (λ n. objects_drawn g shown (take n found)) few ∙ ap (objects_drawn g shown) (take_min most found) ∙ ap (λ (xs : List Found). objects_drawn g shown (take most xs)) e

pub left_is : (found all : List Found) (n most : ℕ) → found ≡ all → n ≡ length found - most → left_out n ≡ left_out (length all - most)
left_is found all n most e is = ap left_out is ∙ ap (λ (xs : List Found). left_out (length xs - most)) e
