-- The places of blocks, and the pages that they take.
use Rattle.std.specs.Prelude.{◌≡◌, ◌≢◌, ℕ, ◌+◌, ◌/◌, ◌<◌, ◌≤◌, ◌⊎◌, true, List, Option, Some, None, length}
use Rattle.graph_heap.specs.Graph.{Object, object_of}
use Rattle.size_classes.specs.declared.class.TheConstants.{CLASSES, PAGE_WORDS}
use Rattle.size_classes.specs.Sizes.{class_for}
use Rattle.size_classes.specs.Parts.{cells_of, parts_in, part_words}
use Rattle.heap_model.specs.declared.phase.Phase.{Phase}
use Rattle.heap_model.specs.declared.phase.Phase.TheVariants as phases
use Rattle.heap_model.specs.declared.phase.Moving.TheVariants as moves
use Rattle.heap_model.specs.Pages.{Page, page_at}
use Rattle.heap_model.specs.Store.{Store, is_allocated, record_of}
use Rattle.heap_model.specs.Collector.{contains}
use Rattle.heap_model.specs.State.{HeapState, is_evacuating}
use Rattle.space.specs.Space.{class_pages, pages_for, spare_of}
use Rattle.space.specs.Counts.{used_pages, evacuating_pages}

-- in moving as many pages are evacuating as were chosen, and else as many as may be
abbrev pub MayEvacuate : ℕ → ℕ → ℕ → Phase → Type 0
MayEvacuate spare most evacuating phases.Idle = evacuating ≤ spare
MayEvacuate spare most evacuating (phases.Roots next) = evacuating ≤ spare
MayEvacuate spare most evacuating (phases.Marking part cell) = evacuating ≤ spare
MayEvacuate spare most evacuating (phases.Sweeping page block) = evacuating ≤ spare
MayEvacuate spare most evacuating (phases.Moving (moves.Pass class page best chosen)) =
    (evacuating ≤ chosen) × (chosen < spare) × (spare ≡ most)
MayEvacuate spare most evacuating (phases.Moving (moves.Emptying class page block chosen)) = (evacuating ≤ chosen)
    × (chosen ≤ spare) × (spare ≡ most)

-- as many pages may be left sparse as a cycle may empty; or none, if enough are free after each sweep that moving never
-- begins
abbrev pub MaySpare : HeapState → (ℕ → ℕ) → ℕ → Type 0
MaySpare h blocks spare = (spare_of h ≡ spare)
    ⊎ ((spare ≡ 0) × (pages_for blocks 0 CLASSES + h.defrag_below ≤ length h.store.pages))

-- no class has more pages than its blocks take, and no more pages are evacuating than may be
pub record HasBoundedPages (h : HeapState) (blocks : ℕ → ℕ) (spare : ℕ) : Type 0 where
  pub used : (class : ℕ) → class < CLASSES → used_pages h.store.pages class ≤ class_pages spare class (blocks class)
  pub evacuating : MayEvacuate spare h.defrag_pages (evacuating_pages h.store.pages) h.phase
  pub same : MaySpare h blocks spare

-- the class of a page; a free page has none
abbrev pub class_in : Option Page → Option ℕ
class_in None = None
class_in (Some p) = Some p.class

-- Each allocated block is one of a part, on a page of the part's class. An old copy is on an evacuating page. No part
-- has two main copies, or two old ones.
pub record IsTidy (s : Store) (objects : List Object) : Type 0 where
  pub class : (b : ℕ) → is_allocated s b ≡ true
      → class_for (part_words (cells_of (record_of s b).shape) (record_of s b).part)
      ≡ class_in (page_at s.pages (b / PAGE_WORDS))
  pub part : (b : ℕ) → is_allocated s b ≡ true → (record_of s b).part < parts_in (cells_of (record_of s b).shape)
  pub given : (b : ℕ) → is_allocated s b ≡ true → (record_of s b).identity ≤ length objects
  pub shape : (b : ℕ) → is_allocated s b ≡ true → (record_of s b).shape
      ≡ (object_of objects (record_of s b).identity).shape
  pub one : (a b : ℕ) → is_allocated s a ≡ true → is_allocated s b ≡ true → (record_of s a).forward ≡ a
      → (record_of s b).forward ≡ b
      → (record_of s a).identity ≡ (record_of s b).identity → (record_of s a).part ≡ (record_of s b).part → a ≡ b
  pub one_old : (a b : ℕ) → is_allocated s a ≡ true → is_allocated s b ≡ true → (record_of s a).forward ≢ a
      → (record_of s b).forward ≢ b
      → (record_of s a).identity ≡ (record_of s b).identity → (record_of s a).part ≡ (record_of s b).part → a ≡ b
  pub old : (b : ℕ) → is_allocated s b ≡ true
      → ((record_of s b).forward ≡ b) ⊎ (is_evacuating (page_at s.pages (b / PAGE_WORDS)) ≡ true)

-- among the identities up to `base`, only these have a main copy
abbrev pub KeepsOnly : Store → ℕ → List ℕ → Type 0
KeepsOnly s base ids = (b : ℕ) → is_allocated s b ≡ true → (record_of s b).forward ≡ b
    → (record_of s b).identity ≤ base → contains ids (record_of s b).identity ≡ true

-- no object goes, and none changes its shape
pub record KeepsShapes (old new : List Object) : Type 0 where
  pub more : length old ≤ length new
  pub shape : (id : ℕ) → id ≤ length old → (object_of new id).shape ≡ (object_of old id).shape
