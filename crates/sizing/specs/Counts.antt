-- Counts of blocks by class, which stop at the greatest number that can be represented.
use Rattle.std.specs.Prelude.{◌≡◌, ℕ, ◌-◌, ◌^◌, ◌<◌, ◌≤◌, min, List, slice_index}
use Rattle.size_classes.specs.declared.class.TheConstants.{CLASSES}

-- the greatest number that can be represented
abbrev pub MOST : ℕ
MOST = 2 ^ 128 - 1

-- these are the numbers of blocks of each class, as far as they can be represented
abbrev pub AreBlocks : List ℕ → (ℕ → ℕ) → Type 0
AreBlocks counts blocks = (class : ℕ) → class < CLASSES → slice_index counts class ≡ min (blocks class) MOST

-- there is no block of any class
abbrev pub AreNone : List ℕ → Type 0
AreNone counts = AreBlocks counts (λ class. 0)

-- a table has the same number for each class, below a limit
abbrev pub IsTable : ℕ → List ℕ → List ℕ → Type 0
IsTable limit table counts = (class : ℕ) → class < CLASSES → (slice_index table class ≡ slice_index counts class)
    × (slice_index table class < limit)

-- some class has this many, or more
abbrev pub HasOver : ℕ → List ℕ → Type 0
HasOver limit counts = (class : ℕ) × (class < CLASSES) × (limit ≤ slice_index counts class)

-- more pages than can be counted
abbrev pub TOO_MANY : ℕ
TOO_MANY = 2 ^ 64

-- this is a number of pages, as far as both can be counted
abbrev pub IsPages : ℕ → ℕ → Type 0
IsPages count pages = min count TOO_MANY ≡ min pages TOO_MANY
