-- Free blocks, threaded through their headers.
use Rattle.std.specs.Prelude.{◌≡◌, ℕ, zero, suc, ◌+◌, ◌*◌, ◌<◌, ◌≤◌, Bool, true, false, not, ◌==◌, List, map, length, slice_get, slice_set, slice_index, count_by, Some}
use Rattle.std.specs.List.{range_with_len}
use Rattle.size_classes.specs.declared.class.TheConstants.{PAGE_WORDS}
use Rattle.size_classes.specs.Sizes.{size_of, blocks_in}

-- word 0 of a free block of a page in use; it is no address
unfoldable pub free_mark : ℕ
free_mark = 18446744073709551615

-- which blocks are allocated, of this many of a size from a place on
unfoldable pub flags_at : List ℕ → ℕ → ℕ → ℕ → List Bool
flags_at words at size blocks =
    map (λ i. not (slice_index words (at + i * size) == free_mark)) (range_with_len 0 blocks)

-- The list from a link on runs through exactly the blocks with the flag false, each once. If no such block is left, the
-- link is 0. Else it is the address plus one of one of them, and the list from the link in that block on runs through
-- the others.
abbrev pub RunsFree : List ℕ → ℕ → ℕ → ℕ → List Bool → ℕ → Type 0
RunsFree words at size zero flags link = (link ≡ 0) × (count_by not flags ≡ 0)
RunsFree words at size (suc n) flags link =
    (i : ℕ) × (slice_get flags i ≡ Some false) × (link ≡ at + i * size + 1)
    × RunsFree words at size n (slice_set flags i true) (slice_index words (at + i * size + 3))

-- which blocks of a page of a class are allocated, by the words from its first on
abbrev pub flags_of : List ℕ → ℕ → ℕ → List Bool
flags_of words at class = flags_at words at (size_of class) (blocks_in class)

-- the blocks of a page of a class from one up to another are free
abbrev pub AreFree : List ℕ → ℕ → ℕ → ℕ → ℕ → Type 0
AreFree words at class from end = (k : ℕ) → from ≤ k → k < end → slice_get (flags_of words at class) k ≡ Some false

-- A page's list: this many blocks are allocated, and the list from the first runs through just the others.
pub record IsFreeList (words : List ℕ) (at class first allocated : ℕ) : Type 0 where
  pub free : ℕ
  pub counted : allocated + free ≡ blocks_in class
  pub runs : RunsFree words at (size_of class) free (flags_of words at class) first

-- the words outside a page are as they were
pub record SameOutside (old new : List ℕ) (at : ℕ) : Type 0 where
  pub len : length new ≡ length old
  pub below : (k : ℕ) → k < at → slice_index new k ≡ slice_index old k
  pub above : (k : ℕ) → at + PAGE_WORDS ≤ k → slice_index new k ≡ slice_index old k
