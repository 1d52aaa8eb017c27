-- The cost of the next action, and the actions of a quantum.
use Rattle.std.specs.Prelude.{◌≡◌, ◌≢◌, ℕ, ◌+◌, ◌<◌, ◌≤◌, ◌⊎◌, Some, position}
use Rattle.size_classes.specs.Sizes.{size_of}
use Rattle.heap_model.specs.declared.phase.Phase.TheVariants as phases
use Rattle.heap_model.specs.declared.phase.Moving.TheVariants as moves
use Rattle.heap_model.specs.Pages.{Page, page_at, is_usable}
use Rattle.heap_model.specs.State.{HeapState}
use Rattle.heap_model.specs.Action.{IsNext, Chain}

-- the next action is a move: the page that is emptied has a block left to be moved, and there is a place
-- for it
pub record MovesNext (h : HeapState) (p : Page) : Type 0 where
  pub class : ℕ
  pub page : ℕ
  pub block : ℕ
  pub chosen : ℕ
  pub next : ℕ
  pub to : ℕ
  pub phase : h.phase ≡ phases.Moving (moves.Emptying class page block chosen)
  pub emptied : page_at h.store.pages page ≡ Some p
  pub is_next : IsNext p block next
  pub place : position (is_usable p.class) h.store.pages ≡ Some to

-- The cost of the next action of a heap: a move costs the words of its block, and each other action one unit. In idle
-- there is none.
pub data NextCosts (h : HeapState) : ℕ → Type 0 where
  Of_move : (p : Page) → MovesNext h p → NextCosts h (size_of p.class)
  Of_other : h.phase ≢ phases.Idle → ((p : Page) → MovesNext h p → ⊥) → NextCosts h 1

-- A turn of a budget: actions that fit in it, up to idle or to a heap whose next action costs more than the rest.
pub record QuantumSpends (h : HeapState) (budget : ℕ) (after : HeapState) (spent : ℕ) : Type 0 where
  pub chain : Chain h spent after
  pub within : spent ≤ budget
  pub ends : (after.phase ≡ phases.Idle) ⊎ ((cost : ℕ) × NextCosts after cost × (budget < spent + cost))
