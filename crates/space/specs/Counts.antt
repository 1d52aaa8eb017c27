-- How many pages a class has, and how many of their blocks are allocated.
use Rattle.std.specs.Prelude.{ℕ, ◌<◌, ◌≤◌, Bool, false, ◌&&◌, not, ◌==◌, if◌then◌else◌, List, Option, Some, None, sum_by, count_by}
use Rattle.size_classes.specs.declared.class.TheConstants.{CLASSES}
use Rattle.heap_model.specs.Pages.{Page}
use Rattle.heap_model.specs.State.{is_evacuating}
use Rattle.space.specs.Space.{class_pages}

-- a page of a class
abbrev pub is_of : ℕ → Option Page → Bool
is_of class None = false
is_of class (Some p) = p.class == class

-- a page of a class that isn't evacuating
abbrev pub stays : ℕ → Option Page → Bool
stays class None = false
stays class (Some p) = (p.class == class) && not p.evacuating

-- how many of its blocks are allocated
abbrev pub main_on : ℕ → Option Page → ℕ
main_on class None = 0
main_on class (Some p) = if (p.class == class) && not p.evacuating then count_by (λ b. b) p.allocated else 0

-- the allocated blocks of a class on pages that aren't evacuating
abbrev pub main_blocks : List (Option Page) → ℕ → ℕ
main_blocks pages class = sum_by (main_on class) pages

-- the pages of a class
abbrev pub used_pages : List (Option Page) → ℕ → ℕ
used_pages pages class = count_by (is_of class) pages

-- the pages that are evacuating, of all classes
abbrev pub evacuating_pages : List (Option Page) → ℕ
evacuating_pages pages = count_by is_evacuating pages

-- No class has more pages than this many blocks take, and no more pages are evacuating than may be.
pub record IsBounded (pages : List (Option Page)) (blocks : ℕ → ℕ) (spare : ℕ) : Type 0 where
  pub used : (class : ℕ) → class < CLASSES → used_pages pages class ≤ class_pages spare class (blocks class)
  pub evacuating : evacuating_pages pages ≤ spare
