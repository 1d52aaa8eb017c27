-- How many pages suffice.
use Rattle.std.specs.Prelude.{ℕ, zero, suc, ◌+◌, ◌==◌, if◌then◌else◌}
use Rattle.size_classes.specs.declared.class.TheConstants.{CLASSES}
use Rattle.heap_model.specs.Pages.{whole_pages}
use Rattle.heap_model.specs.State.{HeapState}
use Rattle.space.specs.Demand.{Demand, blocks_for}

-- a number for each of the first classes, added up
abbrev pub class_sum : (ℕ → ℕ) → ℕ → ℕ
class_sum number zero = 0
class_sum number (suc class) = class_sum number class + number class

-- The pages that a class takes for this many blocks, and `spare` more that may be left sparse; none if it
-- has no block.
abbrev pub class_pages : ℕ → ℕ → ℕ → ℕ
class_pages spare class blocks = if blocks == 0 then 0 else whole_pages class blocks + spare

-- the pages of the first classes
abbrev pub pages_for : (ℕ → ℕ) → ℕ → ℕ → ℕ
pages_for blocks spare zero = 0
pages_for blocks spare (suc class) = pages_for blocks spare class + class_pages spare class (blocks class)

-- how many pages may be left sparse: as many as a cycle may empty, and none if blocks are never moved
abbrev pub spare_of : HeapState → ℕ
spare_of h = if h.defrag_below == 0 then 0 else h.defrag_pages

-- below how many free pages moving follows a sweep; 0 if no page may be emptied
abbrev pub below_of : HeapState → ℕ
below_of h = if h.defrag_pages == 0 then 0 else h.defrag_below

-- the pages of all classes for a demand
abbrev pub space_for : Demand → ℕ → ℕ
space_for d spare = pages_for (blocks_for d) spare CLASSES
