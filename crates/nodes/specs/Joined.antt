-- The table and the words together, as a store.
use Rattle.std.specs.Prelude.{◌≡◌, ℕ, ◌+◌, true, List, Option, slice_index}
use Rattle.heap_model.specs.Header.{header_in, header_word}
use Rattle.heap_model.specs.Store.{IsStore, is_allocated}
use Rattle.pages.specs.declared.page.PageRow.{PageRow}
use Rattle.pages.specs.Together.{joined, Together}

-- no bit is set that no field of a header has
abbrev pub IsHeader : ℕ → Type 0
IsHeader word = header_word (header_in word) ≡ word

-- the records of pages and the words go together and are a store, and word 1 of each allocated block is a header
pub record AreBlockRecords (rows : List (Option PageRow)) (words : List ℕ) : Type 0 where
  pub whole : IsStore (joined rows words)
  pub together : Together rows words
  pub headers : (b : ℕ) → is_allocated (joined rows words) b ≡ true → IsHeader (slice_index words (b + 1))
