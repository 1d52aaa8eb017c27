-- Blocks of a page, found from its first on.
use Rattle.std.specs.Prelude.{◌≡◌, ◌≢◌, ℕ, ◌≤◌, false, true, slice_get, Option, Some, None, IfSome, IsSomeAnd}
use Rattle.heap_model.specs.Pages.{Page, IsOpen}
use Rattle.heap_model.specs.Action.{IsNext}

-- a page in use that isn't evacuating and has a free block
abbrev pub CanBeTarget : Option Page → Type 0
CanBeTarget o = IsSomeAnd o (λ p. (p.evacuating ≡ false) × ((i : ℕ) × IsOpen p i))

-- the page has no allocated block from a place on
abbrev pub NoneAllocated : ℕ → Option Page → Type 0
NoneAllocated from o = IfSome o (λ p. (k : ℕ) → from ≤ k → slice_get p.allocated k ≢ Some true)

-- the first allocated block from a place on, and None exactly if there is none
abbrev pub FindsAllocated : Option Page → ℕ → Option ℕ → Type 0
FindsAllocated o from None = NoneAllocated from o
FindsAllocated o from (Some i) = IsSomeAnd o (λ p. IsNext p from i)
