-- How full the size classes are: lines of text.
use Rattle.std.specs.Prelude.{ℕ, zero, suc, ◌+◌, ◌-◌, ◌*◌, ◌≤◌, ◌==◌, if◌then◌else◌, List, [], ◌∷◌, ◌++◌, length, Option, Some, None, codes, decimal}
use Rattle.size_classes.specs.declared.class.TheConstants.{PAGE_WORDS, CLASSES}
use Rattle.size_classes.specs.Sizes.{size_of, blocks_in}
use Rattle.heap_model.specs.Action.{allocated_on}
use Rattle.heap_model.specs.Pages.{Page, page_at}
use Rattle.heap_model.specs.State.{HeapState}
use Rattle.heap_model.specs.Store.{Store}
use Rattle.nodes.specs.Wasted.{wasted_on}
use Rattle.trace.specs.Lines.{text_of}
use Rattle.inspector.specs.declared.filling.Filling.{Filling}

-- the figures of no page
abbrev pub nothing : Filling
nothing = record { pages = 0; allocated = 0; free = 0; inside = 0; behind = 0; spare = 0 }

-- the figures of a page of a class, with this many allocated blocks, and this many words wasted inside them
abbrev pub page_filling : ℕ → ℕ → ℕ → Filling
page_filling class allocated inside = record {
  pages = 1;
  allocated = allocated;
  free = blocks_in class - allocated;
  inside = inside;
  behind = PAGE_WORDS - blocks_in class * size_of class;
  spare = (blocks_in class - allocated) * size_of class;
}

-- the figures of a page, if it has the class
abbrev pub filling_by : ℕ → Option Page → ℕ → Filling
filling_by class None inside = nothing
filling_by class (Some p) inside = if p.class == class then page_filling class (allocated_on (Some p)) inside
    else nothing

-- the figures of page k, if it has the class
abbrev pub filling_on : Store → ℕ → ℕ → Filling
filling_on s class k = filling_by class (page_at s.pages k) (wasted_on s k)

-- the sums of two rows of figures
abbrev pub both : Filling → Filling → Filling
both a b = record {
  pages = a.pages + b.pages;
  allocated = a.allocated + b.allocated;
  free = a.free + b.free;
  inside = a.inside + b.inside;
  behind = a.behind + b.behind;
  spare = a.spare + b.spare;
}

-- the sum over the numbers below n
unfoldable pub summed : (ℕ → Filling) → ℕ → Filling
summed each zero = nothing
summed each (suc n) = both (summed each n) (each n)

-- the figures of all pages of a class
abbrev pub filling_of : Store → ℕ → Filling
filling_of s class = summed (filling_on s class) (length s.pages)

-- the figures of all pages in use
abbrev pub filling_in : Store → Filling
filling_in s = summed (filling_of s) CLASSES

-- no figure is greater than a number
pub record IsWithin (f : Filling) (most : ℕ) : Type 0 where
  pub pages : f.pages ≤ most
  pub allocated : f.allocated ≤ most
  pub free : f.free ≤ most
  pub inside : f.inside ≤ most
  pub behind : f.behind ≤ most
  pub spare : f.spare ≤ most

-- pages, allocated blocks (old copies too) and free ones, and the words that are wasted inside allocated blocks and
-- behind the last block of each page
abbrev pub figures : Filling → List ℕ
figures f = codes " pages " ++ decimal f.pages ++ codes " held " ++ decimal f.allocated ++ codes " free "
    ++ decimal f.free
    ++ codes " inside " ++ decimal f.inside ++ codes " behind " ++ decimal f.behind

-- a class with its size in words
abbrev pub class_line : ℕ → Filling → List ℕ
class_line class f = codes "size " ++ decimal (size_of class) ++ figures f

-- a class without pages has no line
abbrev pub class_lines : ℕ → Filling → List (List ℕ)
class_lines class f = if f.pages == 0 then [] else class_line class f ∷ []

-- the lines of the first classes
unfoldable pub classes_lines : Store → ℕ → List (List ℕ)
classes_lines s zero = []
classes_lines s (suc class) = classes_lines s class ++ class_lines class (filling_of s class)

-- all classes together
abbrev pub sum_line : Filling → List ℕ
sum_line f = codes "all" ++ figures f

-- the words of all pages in use; how many of them are wasted inside allocated blocks and behind the last block of a
-- page; and how many are those of free blocks
abbrev pub fragmentation_line : Filling → List ℕ
fragmentation_line f =
    codes "words " ++ decimal (PAGE_WORDS * f.pages) ++ codes " internal fragmentation "
    ++ decimal (f.inside + f.behind)
    ++ codes " external fragmentation " ++ decimal f.spare

-- all lines, in their order
abbrev pub size_lines : Store → List (List ℕ)
size_lines s = classes_lines s CLASSES ++ sum_line (filling_in s) ∷ fragmentation_line (filling_in s) ∷ []

-- the text: each line with LF (byte 10) after it
abbrev pub sizes_told : HeapState → List ℕ
sizes_told h = text_of (size_lines h.store)
