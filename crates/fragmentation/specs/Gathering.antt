-- The invariant while blocks are gathered on few pages: each class whose passes are over is tight.
use Rattle.std.specs.Prelude.{◌≡◌, ℕ, ◌<◌, ◌≤◌, ◌⊎◌, true, false, List, Option, Some, None, count_by}
use Rattle.heap_model.specs.declared.phase.Phase.{Phase}
use Rattle.heap_model.specs.declared.phase.Phase.TheVariants as phases
use Rattle.heap_model.specs.declared.phase.Moving.TheVariants as moves
use Rattle.heap_model.specs.declared.phase.Candidate.{Candidate}
use Rattle.heap_model.specs.Pages.{Page, page_at, is_usable}
use Rattle.heap_model.specs.Action.{is_choosable}
use Rattle.fragmentation.specs.Tight.{IsTight}

-- each page in use below a place has an allocated block
abbrev pub AreUsed : List (Option Page) → ℕ → Type 0
AreUsed pages place = (k : ℕ) (p : Page) → k < place → page_at pages k ≡ Some p → 0 < count_by (λ b. b) p.allocated

-- a target page that has a free block is the first of its class that has one
abbrev pub ReceivesFirst : List (Option Page) → Type 0
ReceivesFirst pages = (k j : ℕ) (p q : Page) → page_at pages k ≡ Some p → p.is_target ≡ true
    → is_usable p.class (Some p) ≡ true → page_at pages j ≡ Some q → is_usable p.class (Some q) ≡ true → k ≤ j

-- in a pass: the best page so far may be chosen; if there is none, no page so far may be, or the class is tight
abbrev pub HasLooked : List (Option Page) → ℕ → ℕ → Option Candidate → Type 0
HasLooked pages class page None = ((k : ℕ) → k < page → is_choosable class (page_at pages k) ≡ false)
    ⊎ IsTight pages class
HasLooked pages class page (Some c) = is_choosable class (page_at pages c.page) ≡ true

-- the classes below one are tight
abbrev pub AreTight : List (Option Page) → ℕ → Type 0
AreTight pages classes = (class : ℕ) → class < classes → IsTight pages class

-- how far a sweep, or moving, has come
abbrev pub IsGathering : List (Option Page) → ℕ → Phase → Type 0
IsGathering pages count phases.Idle = Unit {0}
IsGathering pages count (phases.Roots next) = Unit {0}
IsGathering pages count (phases.Marking part cell) = Unit {0}
IsGathering pages count (phases.Sweeping page block) = AreUsed pages page
IsGathering pages count (phases.Moving (moves.Pass class page best chosen)) = AreUsed pages count × ReceivesFirst pages
    × AreTight pages class × HasLooked pages class page best
IsGathering pages count (phases.Moving (moves.Emptying class page block chosen)) = AreUsed pages count
    × ReceivesFirst pages × AreTight pages class
