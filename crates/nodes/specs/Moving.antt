-- The conditions of a move.
use Rattle.std.specs.Prelude.{◌≡◌, ℕ, true, List, slice_get, Option, Some}
use Rattle.heap_model.specs.Pages.{Page, page_at}
use Rattle.pages.specs.Places.{CanBeTarget}

-- a block of a page is allocated, and the page to which it goes is of the same class, isn't evacuating and has
-- a free block
pub record CanMove (pages : List (Option Page)) (page index to : ℕ) : Type 0 where
  pub source : Page
  pub target : Page
  pub from : page_at pages page ≡ Some source
  pub allocated : slice_get source.allocated index ≡ Some true
  pub into : page_at pages to ≡ Some target
  pub class : target.class ≡ source.class
  pub can_be_target : CanBeTarget (Some target)
