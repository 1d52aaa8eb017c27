-- A new object: its parts, and the blocks that hold them.
use Rattle.std.specs.Prelude.{◌≡◌, ℕ, ◌+◌, ◌<◌, ◌⊎◌, true, false, List, length, if◌then◌else◌, ◌==◌, ◌&&◌, nat_lt}
use Rattle.graph_heap.specs.declared.command.Shape.{Shape}
use Rattle.graph_heap.specs.Graph.{new_object}
use Rattle.size_classes.specs.Parts.{PartContents, run_of}
use Rattle.heap_model.specs.Core.{Name, null, PartGraph, Heap}
use Rattle.heap_model.specs.Cut.{count_of, width_of, words_of}
use Rattle.heap_model.proofs.Core.Stays.{Stays}

-- the parts of a new object. A cell holds null, 0, or a later part of the object
pub record Parts : Type 0 where
  pub count : ℕ
  pub width : ℕ → ℕ
  pub link : ℕ → ℕ → ℕ
  pub words : ℕ → List ℕ
  pub shape : Shape

-- the part to which a cell refers, or 0
abbrev pub link_by : PartContents → ℕ → ℕ
link_by r i = if r.spine && nat_lt i r.count then r.first + i else 0

-- the parts of an object of a shape
abbrev pub parts_of : Shape → Parts
parts_of shape = let o = new_object shape in record {
  count = count_of o;
  width = width_of o;
  link = λ p i. link_by (run_of (length o.refs + length o.words) p) i;
  words = words_of o;
  shape = shape;
}

-- there is a part, and each link leads to one
pub record AreParts (ps : Parts) : Type 0 where
  pub some : 0 < ps.count
  pub link : (p i : ℕ) → p < ps.count → i < ps.width p → ps.link p i < ps.count

-- what a link names in an object
abbrev pub link_name : ℕ → ℕ → Name
link_name identity q = if q == 0 then null else record { identity = identity; part = q }

-- the part graph with a new object, which no root names yet
abbrev pub made : PartGraph → Parts → PartGraph
made g ps = record {
  next = g.next + 1;
  root = g.root;
  count = λ k. if k == g.next then ps.count else g.count k;
  width = λ n. if n.identity == g.next then ps.width n.part else g.width n;
  target = λ n i. if n.identity == g.next then link_name g.next (ps.link n.part i) else g.target n i;
  words = λ n. if n.identity == g.next then ps.words n.part else g.words n;
  shape = λ n. if n.identity == g.next then ps.shape else g.shape n;
}

-- the main copies with those of the new object
abbrev pub made_at : (Name → ℕ) → ℕ → (ℕ → ℕ) → Name → ℕ
made_at at next a n = if n.identity == next then a n.part else at n

-- parts 0 to k - 1 of the object stand in their blocks, part p in block a p
pub record Stand (h : Heap) (ps : Parts) (a : ℕ → ℕ) (k identity : ℕ) : Type 0 where
  pub allocated : (p : ℕ) → p < k → h.allocated (a p) ≡ true
  pub forward : (p : ℕ) → p < k → h.forward (a p) ≡ a p
  pub name : (p : ℕ) → p < k → h.name (a p) ≡ record { identity = identity; part = p }
  pub width : (p : ℕ) → p < k → h.width (a p) ≡ ps.width p
  pub words : (p : ℕ) → p < k → h.words (a p) ≡ ps.words p
  pub shape : (p : ℕ) → p < k → h.shape (a p) ≡ ps.shape
  pub marked : (p : ℕ) → p < k → h.marked (a p) ≡ true

-- the parts stand in fresh blocks, and all else is as it was
pub record Makes (h : Heap) (ps : Parts) (a : ℕ → ℕ) (h' : Heap) : Type 0 where
  pub next : h'.next ≡ h.next + 1
  pub roots : h'.roots ≡ h.roots
  pub root : (j : ℕ) → j < h.roots → h'.root j ≡ h.root j
  pub free : (p : ℕ) → p < ps.count → h.allocated (a p) ≡ false
  pub stays : Stays h h'
  pub parts : Stand h' ps a ps.count h.next
  pub cell : (p i : ℕ) → p < ps.count → i < ps.width p → h'.cell (a p) i ≡ (if ps.link p i == 0 then 0 else a (ps.link p i))
  -- no other block is allocated
  pub part : ℕ → ℕ
  pub others : (x : ℕ) → h'.allocated x ≡ true → (h.allocated x ≡ true) ⊎ ((part x < ps.count) × (x ≡ a (part x)))
