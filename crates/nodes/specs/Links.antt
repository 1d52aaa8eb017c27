-- The links in the headers of allocated blocks.
use Rattle.std.specs.Prelude.{◌≡◌, ℕ, ◌+◌, ◌≤◌, true, false, length, slice_index}
use Rattle.heap_model.specs.Store.{Store, is_allocated}

-- the link in the header of a block
abbrev pub link_of : Store → ℕ → ℕ
link_of s block = slice_index s.words (block + 3)

-- no word goes, the link of each block that was allocated stays, and that of a new block is 0
pub record KeepsLinks (old new : Store) : Type 0 where
  pub len : length old.words ≤ length new.words
  pub each : (b : ℕ) → is_allocated old b ≡ true → link_of new b ≡ link_of old b
  pub fresh : (b : ℕ) → is_allocated old b ≡ false → is_allocated new b ≡ true → link_of new b ≡ 0

-- each block that is allocated was allocated before, and has the link that it had
abbrev pub LeavesLinks : Store → Store → Type 0
LeavesLinks old new = (b : ℕ) → is_allocated new b ≡ true → (is_allocated old b ≡ true) × (link_of new b ≡ link_of old b)

-- a block is copied with its link, and the link of each block that was allocated stays
pub record CopiesLink (old new : Store) (from to : ℕ) : Type 0 where
  pub copy : link_of new to ≡ link_of old from
  pub each : (b : ℕ) → is_allocated old b ≡ true → link_of new b ≡ link_of old b
