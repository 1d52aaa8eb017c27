-- Main copies and old copies, counted.
use Rattle.std.specs.Prelude.{◌≡◌, ◌≢◌, ℕ, zero, suc, ◌+◌, ◌*◌, ◌/◌, Bool, true, ◌&&◌, not, ◌==◌, if◌then◌else◌, length, slice_get, Some, IfSome, IsSomeAnd}
use Rattle.size_classes.specs.declared.class.TheConstants.{PAGE_WORDS}
use Rattle.heap_model.specs.Pages.{page_at}
use Rattle.heap_model.specs.Store.{Store, is_allocated, record_of, address_of}
use Rattle.nodes.specs.declared.nodes.counting.Copies.{Copies}

-- some block is allocated that has a part of the object of an identity
abbrev pub HasBlock : Store → ℕ → Type 0
HasBlock s id = (b : ℕ) × (is_allocated s b ≡ true) × ((record_of s b).identity ≡ id)

-- no block of a page has a part of the object
abbrev pub HasNoBlockOn : Store → ℕ → ℕ → Type 0
HasNoBlockOn s id page = (b : ℕ) → b / PAGE_WORDS ≡ page → is_allocated s b ≡ true → (record_of s b).identity ≢ id

-- the block at a place of a page has no part of the object, if it is allocated
abbrev pub HasNoBlockAt : Store → ℕ → ℕ → ℕ → Type 0
HasNoBlockAt s id page index =
    IsSomeAnd (page_at s.pages page) (λ p. slice_get p.allocated index ≡ Some true)
    → IfSome (page_at s.pages page) (λ p. (record_of s (address_of p.class page index)).identity ≢ id)

-- how many numbers below one pass
unfoldable pub count_below : (ℕ → Bool) → ℕ → ℕ
count_below passes zero = 0
count_below passes (suc n) = count_below passes n + (if passes n then 1 else 0)

-- an allocated block that forwards to itself, and one that forwards to another block
unfoldable pub is_main : Store → ℕ → Bool
is_main s b = is_allocated s b && ((record_of s b).forward == b)

-- an allocated block that forwards to another block
unfoldable pub is_old : Store → ℕ → Bool
is_old s b = is_allocated s b && not ((record_of s b).forward == b)

-- the main copy of an object's first part
unfoldable pub is_object : Store → ℕ → Bool
is_object s b = is_main s b && ((record_of s b).part == 0)

-- the copies that begin below an address
abbrev pub copies_below : Store → ℕ → Copies
copies_below s address = record {
  objects = count_below (is_object s) address;
  parts = count_below (is_main s) address;
  old = count_below (is_old s) address;
}

-- all copies
abbrev pub copies_in : Store → Copies
copies_in s = copies_below s (PAGE_WORDS * length s.pages)
