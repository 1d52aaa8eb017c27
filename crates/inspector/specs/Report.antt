-- The report of a heap: lines of text.
use Rattle.std.specs.Prelude.{ℕ, ◌+◌, if◌then◌else◌, List, [], ◌∷◌, ◌++◌, length, Option, Some, None, codes, decimal}
use Rattle.size_classes.specs.Sizes.{size_of, blocks_in}
use Rattle.heap_model.specs.declared.phase.Phase.{Phase}
use Rattle.heap_model.specs.declared.phase.Phase.TheVariants as phases
use Rattle.heap_model.specs.Pages.{Page, free_pages}
use Rattle.heap_model.specs.State.{HeapState}
use Rattle.pages.specs.View.{view_of}
use Rattle.pages.specs.declared.view.PageView.{PageView}
use Rattle.roots.specs.Used.{used_in}
use Rattle.nodes.specs.Copies.{copies_in}
use Rattle.nodes.specs.declared.nodes.counting.Copies.{Copies}
use Rattle.trace.specs.Lines.{text_of}

-- the name of a phase
abbrev pub phase_name : Phase → List ℕ
phase_name phases.Idle = codes "idle"
phase_name (phases.Roots next) = codes "roots"
phase_name (phases.Marking part cell) = codes "marking"
phase_name (phases.Sweeping page block) = codes "sweeping"
phase_name (phases.Moving m) = codes "moving"

-- the line of the phase
abbrev pub phase_line : HeapState → List ℕ
phase_line h = codes "phase " ++ phase_name h.phase

-- the line of the units spent in the cycle that is running, or else in the last one
abbrev pub units_line : HeapState → List ℕ
units_line h = codes "units " ++ decimal h.units

-- two numbers, each after its name
abbrev pub two_named : List ℕ → ℕ → List ℕ → ℕ → List ℕ
two_named first n second m = first ++ decimal n ++ second ++ decimal m

-- all pages, and the free ones
abbrev pub pages_line : HeapState → List ℕ
pages_line h = two_named (codes "pages ") (length h.store.pages) (codes " free ") (free_pages h.store.pages)

-- a page in use: its number, the words of a block, the allocated blocks, and all its blocks
abbrev pub page_line : ℕ → PageView → List ℕ
page_line number v =
    codes "page " ++ decimal number ++ codes " size " ++ decimal (size_of v.class) ++ codes " held "
    ++ decimal v.allocated
    ++ codes " of " ++ decimal (blocks_in v.class)
    ++ (if v.evacuating then codes " leaving" else [])

-- a free page has no line
abbrev pub lines_on : ℕ → Option PageView → List (List ℕ)
lines_on number None = []
lines_on number (Some v) = page_line number v ∷ []

-- the pages in use of a list, numbered from one on
abbrev pub page_lines : ℕ → List (Option Page) → List (List ℕ)
page_lines number [] = []
page_lines number (page ∷ pages) = lines_on number (view_of page) ++ page_lines (number + 1) pages

-- all root cells, and those that aren't null
abbrev pub roots_line : HeapState → List ℕ
roots_line h = two_named (codes "roots ") (length h.roots) (codes " used ") (used_in h.roots)

-- main copies with part number 0, all main copies, and old copies
abbrev pub copies_line : Copies → List ℕ
copies_line c =
    codes "objects " ++ decimal c.objects ++ codes " parts " ++ decimal c.parts ++ codes " old " ++ decimal c.old

-- the lines in their order
abbrev pub head_lines : HeapState → List (List ℕ)
head_lines h = phase_line h ∷ units_line h ∷ pages_line h ∷ []

-- the lines after those of the pages
abbrev pub tail_lines : HeapState → List (List ℕ)
tail_lines h = roots_line h ∷ copies_line (copies_in h.store) ∷ []

-- all lines of a report, in their order
abbrev pub lines_of : HeapState → List (List ℕ)
lines_of h = head_lines h ++ page_lines 0 h.store.pages ++ tail_lines h

-- the text: each line with LF (byte 10) after it
abbrev pub report_of : HeapState → List ℕ
report_of h = text_of (lines_of h)
