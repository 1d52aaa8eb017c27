-- The tables of a run's data.
use Rattle.std.specs.Prelude.{◌≡◌, ℕ, zero, suc, ◌+◌, ◌*◌, List, [], ◌∷◌, ◌++◌, length, Option, Some, None, codes}
use Rattle.graph_heap.specs.declared.command.Limits.{Limits}
use Rattle.graph_heap.specs.Graph.{Graph}
use Rattle.size_classes.specs.Sizes.{size_of}
use Rattle.heap_model.specs.Pages.{Page, page_at}
use Rattle.heap_model.specs.State.{HeapState}
use Rattle.pages.specs.View.{view_of}
use Rattle.pages.specs.declared.view.PageView.{PageView}
use Rattle.inspector.specs.declared.cycles.cycle.Cycle.{Cycle}
use Rattle.inspector.specs.declared.shapes.held.Cells.{Cells}
use Rattle.inspector.specs.declared.shapes.held.Held.{Held}
use Rattle.inspector.specs.declared.by_root.counting.Holding.{Holding}
use Rattle.inspector.specs.declared.by_root.counting.RootRow.{RootRow}
use Rattle.inspector.specs.declared.by_root.places.Root.{Root}
use Rattle.inspector.specs.declared.by_root.places.Root.TheVariants.{Slot, Static}
use Rattle.inspector.specs.ByRoot.{AreRootRows}
use Rattle.inspector.specs.CyclesText.{figures}
use Rattle.inspector.specs.Roots.{root_at}
use Rattle.inspector.specs.Shapes.{AreRows}
use Rattle.pictures.specs.declared.quantum_log.Quantum.{Quantum}
use Rattle.pictures.specs.declared.refusals.Refused.{Refused}
use Rattle.pictures.specs.declared.sample.Sample.{Sample}
use Rattle.pictures.specs.declared.share.Share.{Share}
use Rattle.pictures.specs.Json.{row_text, table_text}
use Rattle.pictures.specs.Samples.{one_if, phases_number}

-- a sample: its first line, the least and the most pages in use, its phases, and the allocated blocks and their words at
-- its first moment
abbrev pub sample_row : Sample → List ℕ
sample_row s = row_text s.line
    (Some s.least_pages ∷ Some s.most_pages ∷ Some (phases_number s.phases) ∷ Some s.blocks ∷ Some s.words ∷ [])

-- a quantum: after how many commands it was, its units, its budget, and the phase that it found
abbrev pub quantum_row : Quantum → List ℕ
quantum_row q = row_text q.commands (Some q.units ∷ Some q.budget ∷ Some (phases_number q.phase) ∷ [])

-- a cycle: its line, and its figures as the report of cycles has them
abbrev pub cycle_row : Cycle → List ℕ
cycle_row c = row_text c.line (figures c)

-- a window: its ticks, and the shares of the mutators in thousandths, the least that they had and the promised one
abbrev pub share_row : Share → List ℕ
share_row s = row_text s.window (Some s.measured ∷ Some s.promised ∷ [])

-- a reason for which commands are refused, by its number, and how many were
abbrev pub refused_row : Refused → List ℕ
refused_row r = row_text r.number (Some r.count ∷ [])

-- a page: the words of its blocks, how many of them are allocated, and its marks, added up: 1 if it is evacuating, 2 if
-- it is a target. A free page has zeros
abbrev pub page_row_by : Option PageView → List ℕ
page_row_by None = row_text 0 (Some 0 ∷ Some 0 ∷ [])
page_row_by (Some v) =
    row_text (size_of v.class) (Some v.allocated ∷ Some (one_if v.evacuating + 2 * one_if v.is_target) ∷ [])

-- page k
abbrev pub page_row : List (Option Page) → ℕ → List ℕ
page_row pages k = page_row_by (view_of (page_at pages k))

-- the first pages
unfoldable pub page_rows : List (Option Page) → ℕ → List ℕ
page_rows pages zero = []
page_rows pages (suc n) = page_rows pages n ++ page_row pages n

-- all pages, in their order
abbrev pub pages_table : List (Option Page) → List ℕ
pages_table pages =
    (codes "\"pages\":[[\"size\",\"allocated\",\"marks\"]" ++ page_rows pages (length pages)) ++ codes "],\n"

-- a shape: its references and its words, and the objects of it that a heap holds, their parts, and the words of their blocks
abbrev pub shape_row : Cells × Held → List ℕ
shape_row row = row_text row.0.refs
    (Some row.0.words ∷ Some row.1.objects ∷ Some row.1.parts ∷ Some row.1.words ∷ [])

-- shapes
abbrev pub shapes_table : List (Cells × Held) → List ℕ
shapes_table rows =
    table_text (codes "\"shapes\":[[\"refs\",\"words\",\"objects\",\"parts\",\"block_words\"]") shape_row rows

-- the shapes of a heap
abbrev pub ShapesTable : HeapState → List ℕ → Type 0
ShapesTable h text = (rows : List (Cells × Held)) × AreRows h.store rows × (text ≡ shapes_table rows)

-- a root: the objects that it owns, the words of their blocks, and its mutator and slot, or the number of a static
abbrev pub row_at : Root → Holding → List ℕ
row_at (Slot mutator slot) h = row_text h.objects (Some h.words ∷ Some mutator ∷ Some slot ∷ None ∷ [])
row_at (Static k) h = row_text h.objects (Some h.words ∷ None ∷ None ∷ Some k ∷ [])

-- a root, by its place in the row of roots
abbrev pub root_row : Limits → RootRow → List ℕ
root_row l row = row_at (root_at l row.root) row.holding

-- roots
abbrev pub roots_table : Limits → List RootRow → List ℕ
roots_table l rows =
    table_text (codes "\"roots\":[[\"objects\",\"words\",\"mutator\",\"slot\",\"static\"]") (root_row l) rows

-- the roots that own the objects of a graph heap
abbrev pub RootsTable : Graph → List ℕ → Type 0
RootsTable g text = (rows : List RootRow) × (all : Holding) × AreRootRows g rows all × (text ≡ roots_table g.limits rows)
