-- The sweeper's looks at the blocks of a page in use, given the colour of marked ones.
use Rattle.std.specs.Prelude.{◌≡◌, ℕ, ◌+◌, ◌<◌, Bool, true, false, List, length, Option, Some, slice_get, slice_index, slice_set}
use Rattle.heap_model.specs.Header.{header_in}
use Rattle.heap_model.specs.Action.{closed}
use Rattle.heap_model.specs.Pages.{Page, page_at, with_allocated}
use Rattle.heap_model.specs.State.{same_colour}
use Rattle.heap_model.specs.Store.{Store, address_of}
use Rattle.pages.specs.declared.page.PageRow.{PageRow}
use Rattle.pages.specs.Together.{joined, pages_in, KeepsAllocated, Together}

-- whether the header of the block at an address has a colour
abbrev pub has_colour : List ℕ → Bool → ℕ → Bool
has_colour words colour address = same_colour colour (header_in (slice_index words (address + 1))).colour

-- A look at a block of a page. If the block isn't allocated or has the colour, it stays. Else it is given back, and the
-- words of the blocks that are then allocated stay.
pub data LooksAt (colour : Bool) (page index : ℕ) (s : Store) : Store → Type 0 where
  It_stays : (p : Page) → page_at s.pages page ≡ Some p → index < length p.allocated
      → (slice_get p.allocated index ≡ Some true → has_colour s.words colour (address_of p.class page index) ≡ true)
      → LooksAt colour page index s s
  It_goes : (p : Page) (new : Store) → page_at s.pages page ≡ Some p → slice_get p.allocated index ≡ Some true
      → has_colour s.words colour (address_of p.class page index) ≡ false
      → new.pages ≡ slice_set s.pages page (Some (with_allocated p index false))
      → KeepsAllocated new.pages s.words new.words
      → LooksAt colour page index s new

-- looks at this many blocks of a page in a row, from one of them on
pub data Looks (colour : Bool) (page from : ℕ) (s : Store) : ℕ → Store → Type 0 where
  No_look : Looks colour page from s 0 s
  Then_one : (n : ℕ) (t u : Store) → Looks colour page from s n t → LooksAt colour page (from + n) t u
      → Looks colour page from s (n + 1) u

-- The sweeper looks at the last blocks of a page, and closes it. The records and the words go together between the two as
-- well.
pub record LooksAndCloses (colour : Bool) (page from count : ℕ) (rows new : List (Option PageRow)) (words after : List ℕ) : Type 0 where
  pub mid : List (Option PageRow)
  pub looks : Looks colour page from (joined rows words) count (joined mid after)
  pub together : Together mid after
  pub len : length mid ≡ length rows
  pub closes : pages_in new after ≡ slice_set (pages_in mid after) page (closed (page_at (pages_in mid after) page))
