-- The main copies left on pages that were chosen, while new objects took the places of their blocks: at most one page
-- of each class.
use Rattle.std.specs.Prelude.{◌≡◌, ℕ, ◌+◌, ◌/◌, ◌<◌, ◌≤◌, ◌⊎◌, Bool, true, false, ◌&&◌, ◌==◌, if◌then◌else◌, List, Option, Some, None}
use Rattle.size_classes.specs.declared.class.TheConstants.{CLASSES, PAGE_WORDS}
use Rattle.size_classes.specs.Sizes.{blocks_in}
use Rattle.heap_model.specs.declared.phase.Phase.{Phase}
use Rattle.heap_model.specs.declared.phase.Phase.TheVariants as phases
use Rattle.heap_model.specs.declared.phase.Moving.TheVariants as moves
use Rattle.heap_model.specs.Pages.{Page, page_at}
use Rattle.heap_model.specs.Store.{Store, is_allocated, record_of, address_of}
use Rattle.space.specs.Counts.{evacuating_pages}
use Rattle.fragmentation.specs.Tight.{IsTight, staying_pages}
use Rattle.fragmentation.specs.Suffice.{gathered_pages}

-- an evacuating page of a class
abbrev pub evacuates : ℕ → Option Page → Bool
evacuates class None = false
evacuates class (Some p) = (p.class == class) && p.evacuating

-- a main copy on an evacuating page of a class
pub record IsStranded (s : Store) (class b : ℕ) : Type 0 where
  pub allocated : is_allocated s b ≡ true
  pub main : (record_of s b).forward ≡ b
  pub on : evacuates class (page_at s.pages (b / PAGE_WORDS)) ≡ true

-- they are on one page, or there is none
abbrev pub StrandedOn : Store → ℕ → ℕ → Type 0
StrandedOn s class page = (b : ℕ) → IsStranded s class b → b / PAGE_WORDS ≡ page

abbrev pub NoneStranded : Store → ℕ → Type 0
NoneStranded s class = (b : ℕ) → IsStranded s class b → ⊥

-- the pages of a class that aren't evacuating, and that one
abbrev pub one_evacuating : ℕ → Option Page → ℕ
one_evacuating class o = if evacuates class o then 1 else 0

abbrev pub kept_pages : List (Option Page) → ℕ → ℕ → ℕ
kept_pages pages class page = staying_pages pages class + one_evacuating class (page_at pages page)

-- they are on this page only; and while it is evacuating, `need` blocks fill a page
pub record LeftOn (s : Store) (class need page : ℕ) : Type 0 where
  pub only : StrandedOn s class page
  pub some : evacuates class (page_at s.pages page) ≡ true → blocks_in class ≤ need

-- A class has no more pages, with the one that was left, than this many blocks take, and that one.
pub record IsSettled (s : Store) (class need : ℕ) : Type 0 where
  pub page : ℕ
  pub left : LeftOn s class need page
  pub few : kept_pages s.pages class page ≤ gathered_pages class need

-- in moving: a class with a page that was left is tight
pub record WasLeft (s : Store) (class need : ℕ) : Type 0 where
  pub page : ℕ
  pub left : LeftOn s class need page
  pub tight : IsTight s.pages class

abbrev pub IsMoved : Store → ℕ → ℕ → Type 0
IsMoved s class need = NoneStranded s class ⊎ WasLeft s class need

-- while a page of a class is emptied: its main copies on evacuating pages stand there, at the next block or behind it
pub record IsEmptied (s : Store) (class page block : ℕ) (Other : ℕ → Type 0) : Type 0 where
  pub small : class < CLASSES
  pub on : evacuates class (page_at s.pages page) ≡ true
  pub only : StrandedOn s class page
  pub behind : (b : ℕ) → IsStranded s class b → address_of class page block ≤ b
  pub others : (k : ℕ) → k < CLASSES → (class == k) ≡ false → Other k

pub record IsEmptying (s : Store) (page block chosen : ℕ) (need : ℕ → ℕ) : Type 0 where
  pub class : ℕ
  pub emptied : IsEmptied s class page block (λ k. IsMoved s k (need k))
  pub some : 0 < staying_pages s.pages class
  pub count : chosen ≤ evacuating_pages s.pages

-- what holds outside moving; in a pass, by how many pages were chosen; and if a page is emptied from a block on
abbrev pub ByPhase : Type 0 → (ℕ → Type 0) → (ℕ → ℕ → ℕ → Type 0) → Phase → Type 0
ByPhase Still Pass Emptying phases.Idle = Still
ByPhase Still Pass Emptying (phases.Roots next) = Still
ByPhase Still Pass Emptying (phases.Marking part cell) = Still
ByPhase Still Pass Emptying (phases.Sweeping page block) = Still
ByPhase Still Pass Emptying (phases.Moving (moves.Pass class page best chosen)) = Pass chosen
ByPhase Still Pass Emptying (phases.Moving (moves.Emptying class page block chosen)) = Emptying page block chosen

abbrev pub AreSettled : Store → (ℕ → ℕ) → Type 0
AreSettled s need = (class : ℕ) → class < CLASSES → IsSettled s class (need class)

-- at a look of a pass
pub record AtLook (s : Store) (chosen : ℕ) (need : ℕ → ℕ) : Type 0 where
  pub moved : (class : ℕ) → class < CLASSES → IsMoved s class (need class)
  pub count : chosen ≤ evacuating_pages s.pages

abbrev pub IsLeftover : Store → Phase → (ℕ → ℕ) → Type 0
IsLeftover s p need = ByPhase (AreSettled s need) (λ chosen. AtLook s chosen need) (λ page block chosen. IsEmptying s page block chosen need) p
