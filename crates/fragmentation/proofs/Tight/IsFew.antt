-- How many pages a class has since a sweep ended.
use Rattle.std.specs.Prelude.{◌≡◌, ℕ, ◌+◌, ◌*◌, ◌<◌, ◌≤◌, ◌⊎◌, false, ◌==◌, if◌then◌else◌, List, Option, Some, None, count_by, drop}
use Rattle.size_classes.specs.declared.class.TheConstants.{CLASSES}
use Rattle.size_classes.specs.Sizes.{blocks_in}
use Rattle.heap_model.specs.declared.phase.Phase.{Phase}
use Rattle.heap_model.specs.declared.phase.Phase.TheVariants as phases
use Rattle.heap_model.specs.declared.phase.Moving.TheVariants as moves
use Rattle.heap_model.specs.Pages.{Page, page_at, free_blocks, whole_pages}
use Rattle.heap_model.specs.Represents.{is_sweeping}
use Rattle.space.specs.Space.{class_sum}
use Rattle.space.specs.Counts.{used_pages}
use Rattle.fragmentation.specs.Tight.{IsTight}

-- the allocated blocks of a page of a class, from one on
abbrev pub allocated_from : ℕ → ℕ → Option Page → ℕ
allocated_from class block None = 0
allocated_from class block (Some p) = if p.class == class then count_by (λ b. b) (drop block p.allocated) else 0

-- the blocks of a class that are still to be moved off the page that is emptied
abbrev pub to_move : List (Option Page) → ℕ → Phase → ℕ
to_move pages class phases.Idle = 0
to_move pages class (phases.Roots next) = 0
to_move pages class (phases.Marking part cell) = 0
to_move pages class (phases.Sweeping page block) = 0
to_move pages class (phases.Moving (moves.Pass k page best chosen)) = 0
to_move pages class (phases.Moving (moves.Emptying k page block chosen)) = allocated_from class block (page_at pages page)

-- A sweep has ended, when a class had at most `first` pages, and `made` of its blocks were made since. Only these open
-- pages. Moving takes no more free blocks than those of whole pages that there were.
pub record IsFew (pages : List (Option Page)) (phase : Phase) (first made : ℕ → ℕ) : Type 0 where
  pub few : (class : ℕ) → class < CLASSES → used_pages pages class ≤ first class + whole_pages class (made class)
  pub fair : (class : ℕ) → class < CLASSES → blocks_in class * used_pages pages class + to_move pages class phase ≤ blocks_in class * first class + made class + free_blocks pages class
  pub still : is_sweeping phase ≡ false → (class : ℕ) → class < CLASSES → IsTight pages class ⊎ (used_pages pages class ≤ first class)

-- the pages of the first classes, with the requested blocks
abbrev pub few_pages : (ℕ → ℕ) → (ℕ → ℕ) → ℕ → ℕ
few_pages first made n = class_sum (λ class. first class + whole_pages class (made class)) n
