-- The place of a block.
use Rattle.std.specs.Prelude.{◌≡◌, ℕ, ◌+◌, ◌*◌, ◌/◌, ◌<◌, ◌≤◌, length}
use Rattle.size_classes.specs.declared.class.TheConstants.{PAGE_WORDS}
use Rattle.heap_model.specs.Store.{Store, size_at}

-- the address is that of a whole block of a page in use
pub record IsPlace (s : Store) (address : ℕ) : Type 0 where
  pub page : address / PAGE_WORDS < length s.pages
  pub size : 4 ≤ size_at s address
  pub index : ℕ
  pub place : address ≡ PAGE_WORDS * (address / PAGE_WORDS) + index * size_at s address
  pub whole : (index + 1) * size_at s address ≤ PAGE_WORDS
