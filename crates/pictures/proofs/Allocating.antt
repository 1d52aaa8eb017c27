-- The allocated blocks of pages, page after page.
use Rattle.std.proofs.Common.{◌≡◌, ℕ, ◌+◌, List, Option, refl, ap, ◌∙◌, sym, add-one}
use Rattle.heap_model.specs.Pages.{Page}
use Rattle.pictures.specs.declared.allocated.Allocated.{Allocated}
use Rattle.pictures.specs.Allocated.{nothing, both, allocated_on, allocated_below}

module _ (pages : List (Option Page)) where
  pub none_below : nothing ≡ allocated_below pages 0
  unfolding allocated_below
  none_below = refl

  next_below : (n : ℕ) → allocated_below pages (n + 1) ≡ both (allocated_below pages n) (allocated_on pages n)
  unfolding allocated_below
  next_below n = rw add-one refl

  pub one_more : (n : ℕ) (was more : Allocated) → was ≡ allocated_below pages n → more ≡ allocated_on pages n → both was more ≡ allocated_below pages (n + 1)
  one_more n was more ew em = ap (λ f. both f more) ew ∙ ap (both (allocated_below pages n)) em ∙ sym (next_below n)
