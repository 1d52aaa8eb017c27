-- How commands read the words of the heap.
use Rattle.std.specs.Prelude.{◌≡◌, ◌≢◌, ℕ, ◌+◌, ◌<◌, length, slice_index, Result, Ok, Err}
use Rattle.graph_heap.specs.declared.command.Refusal.{Refusal}
use Rattle.graph_heap.specs.declared.command.Shape.{Shape}
use Rattle.graph_heap.specs.Graph.{Graph, Object, object_of}
use Rattle.graph_heap.specs.Effect.{slot_at, object_at, ref_at, word_at}
use Rattle.graph_heap.specs.Reach.{Reaches}
use Rattle.size_classes.specs.Parts.{cells_of, parts_in, part_in, column_in, spine_of, spine_cell_of}
use Rattle.heap_model.specs.Store.{Store, record_of}
use Rattle.heap_model.specs.Agree.{IsMain}
use Rattle.heap_model.specs.Cut.{name_of}
use Rattle.heap_model.specs.State.{HeapState, seen, width_at}
use Rattle.heap_model.specs.Written.{IsKnown}
use Rattle.heap_model.specs.Reading.{IsMainCopy, Refers, spine_at}
use Rattle.nodes.specs.declared.nodes.Referent.{Referent}
use Rattle.arraylets.specs.declared.position.CellPosition.{CellPosition}
use Rattle.arraylets.specs.CellPosition.{ref_position, word_position}
use Rattle.machine.specs.declared.plan.Found.{Found}
use Rattle.arraylets.specs.declared.cells.Cell.{Cell}
use Rattle.machine.specs.declared.plan.Kind.{Kind}
use Rattle.machine.specs.declared.plan.Kind.TheVariants as kinds

-- A referent names the content of a root or a cell, which is an identity or null: by that identity, and by the
-- reference of its main copy.
pub record Names (h : HeapState) (g : Graph) (id : ℕ) (r : Referent) : Type 0 where
  pub identity : id ≡ r.identity
  pub known : IsKnown g id
  pub main : IsMain (seen h) r.reference (name_of id)

-- A referent names the content of a mutator's slot.
pub record HoldsBy (h : HeapState) (g : Graph) (m slot : ℕ) (r : Referent) : Type 0 where
  pub cell : ℕ
  pub place : Ok cell ≡ slot_at h.limits m slot
  pub names : Names h g (slice_index g.roots cell) r

-- The main copy of the object with an identity was found.
pub record IsFound (h : HeapState) (g : Graph) (id : ℕ) (f : Found) : Type 0 where
  pub identity : id ≡ f.id
  pub reaches : Reaches g id
  pub object : object_at g.objects id ≡ Ok (object_of g.objects id)
  pub shape : f.shape ≡ (object_of g.objects id).shape
  pub main : IsMainCopy h.store f.block (name_of id)

-- the object that the graph heap finds was found, or the result is the graph heap's refusal
abbrev pub Finds : HeapState → Graph → ℕ → Result Found Refusal → Type 0
Finds h g id (Ok f) = IsFound h g id f
Finds h g id (Err e) = object_at g.objects id ≡ Err e

-- a cell of a block is reference cell i of an object, or word cell i
pub record IsRefCell (h : HeapState) (o : Object) (id i : ℕ) (at : Cell) : Type 0 where
  pub below : i < length o.refs
  pub main : IsMain (seen h) (at.block + 1) (record { identity = id; part = part_in (cells_of o.shape) i })
  pub index : at.index ≡ column_in i
  pub within : at.index < length (record_of h.store at.block).cells

pub record IsWordCell (h : HeapState) (o : Object) (id i : ℕ) (at : Cell) : Type 0 where
  pub below : i < length o.words
  pub main : IsMain (seen h) (at.block + 1) (record { identity = id; part = part_in (cells_of o.shape) i })
  pub index : at.index ≡ width_at (record_of h.store at.block) + column_in i
  pub within : at.index < length (record_of h.store at.block).cells

-- the place of reference cell i of a reachable object
abbrev pub IsRefPlace : HeapState → Graph → ℕ → ℕ → Cell → Type 0
IsRefPlace h g id i at = Reaches g id × IsRefCell h (object_of g.objects id) id i at

abbrev pub IsWordPlace : HeapState → Graph → ℕ → ℕ → Cell → Type 0
IsWordPlace h g id i at = Reaches g id × IsWordCell h (object_of g.objects id) id i at

-- a reference cell was found, or the result is the graph heap's refusal
abbrev pub FindsRef : HeapState → Graph → ℕ → ℕ → Result Cell Refusal → Type 0
FindsRef h g id i (Ok at) = (ref_at g.objects id i ≡ Ok (slice_index (object_of g.objects id).refs i))
    × IsRefPlace h g id i at
FindsRef h g id i (Err e) = ref_at g.objects id i ≡ Err e

-- a word cell was found, or the result is the graph heap's refusal
abbrev pub FindsWord : HeapState → Graph → ℕ → ℕ → Result Cell Refusal → Type 0
FindsWord h g id i (Ok at) = (word_at g.objects id i ≡ Ok (slice_index (object_of g.objects id).words i))
    × IsWordPlace h g id i at
FindsWord h g id i (Err e) = word_at g.objects id i ≡ Err e

-- from the block of part 0 of an object with this many cells, the block of a part can be found: there is such a part,
-- and the path to it refers to allocated blocks
abbrev pub CanReach : Store → ℕ → ℕ → ℕ → Type 0
CanReach s cells block part = (part < parts_in cells)
    × (part ≢ 0 → spine_of cells part ≢ 0 → Refers s block (spine_cell_of cells (spine_of cells part)))
    × (part ≢ 0 → Refers s (spine_at s cells block part) (spine_cell_of cells part))

-- the position of cell i of a kind in its object
abbrev pub position_in : Kind → Shape → ℕ → Result CellPosition Refusal
position_in kinds.Ref shape i = ref_position shape i
position_in kinds.Word shape i = word_position shape i

-- a cell of a kind was found, or the result is the graph heap's refusal
abbrev pub FindsCell : HeapState → Graph → Kind → ℕ → ℕ → Result Cell Refusal → Type 0
FindsCell h g kinds.Ref id i result = FindsRef h g id i result
FindsCell h g kinds.Word id i result = FindsWord h g id i result
