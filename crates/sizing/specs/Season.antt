-- The counts from one cycle to the next.
use Rattle.std.specs.Prelude.{◌≡◌, ℕ, ◌+◌, ◌<◌, ◌≤◌, ◌⊎◌, true, false, List, min, max, slice_index}
use Rattle.size_classes.specs.declared.class.TheConstants.{CLASSES}
use Rattle.heap_model.specs.Pages.{whole_pages}
use Rattle.space.specs.Space.{class_sum}
use Rattle.fragmentation.specs.Suffice.{gathered_pages, pages_of}
use Rattle.sizing.specs.declared.season.Season.{Season}
use Rattle.sizing.specs.declared.most.Most.{Most}
use Rattle.sizing.specs.declared.needed.Needed.{Needed}
use Rattle.sizing.specs.Counts.{MOST, TOO_MANY, AreBlocks, IsTable, HasOver, IsPages}

-- this many more blocks of each class than before
abbrev pub AreAdded : List ℕ → List ℕ → List ℕ → Type 0
AreAdded more old new =
    (class : ℕ) → class < CLASSES → slice_index new class ≡ min (slice_index old class + slice_index more class) MOST

-- an object is allocated that needs these blocks
pub record AddsBlocks (more : List ℕ) (old new : Season) : Type 0 where
  pub same : new ≡ record old {
    since_last = new.since_last;
    since_base = new.since_base;
    since_swept = new.since_swept;
  }
  pub last : AreAdded more old.since_last new.since_last
  pub base : AreAdded more old.since_base new.since_base
  pub swept : AreAdded more old.since_swept new.since_swept

-- a cycle is begun, while this many blocks are live
pub record IsBegun (live : List ℕ) (old new : Season) : Type 0 where
  pub same : new ≡ record old { awaiting_sweep_end = true; live_last = live; since_last = new.since_last }
  pub none : AreBlocks new.since_last (λ class. 0)

-- the sweep of the last cycle has ended
pub record IsSwept (old new : Season) : Type 0 where
  pub same : new ≡ record old {
    awaiting_sweep_end = false;
    live_base = old.live_last;
    since_base = old.since_last;
    since_swept = new.since_swept;
    before = new.before;
  }
  pub before : AreAdded old.since_base old.live_base new.before
  pub none : AreBlocks new.since_swept (λ class. 0)

-- the pages of blocks that were gathered, and of those made since
abbrev pub pages_gathered : (ℕ → ℕ) → (ℕ → ℕ) → ℕ
pages_gathered before made =
    class_sum (λ class. gathered_pages class (before class) + whole_pages class (made class)) CLASSES

-- nothing is needed
pub record IsNothing (m : Most) : Type 0 where
  pub together : AreBlocks m.together (λ class. 0)
  pub gathered : m.gathered ≡ 0
  pub live : m.live ≡ 0
  pub made : m.made ≡ 0

-- These blocks are requested: the greatest need is no less than the need now, of each class together, in pages if each
-- cycle gathers every class, and in pages of made objects.
pub record AsksMost (s : Season) (asked : List ℕ) (old new : Most) : Type 0 where
  pub together : (most live made more : ℕ → ℕ) → AreBlocks old.together most → AreBlocks s.live_base live
      → AreBlocks s.since_base made → AreBlocks asked more
      → AreBlocks new.together (λ class. max (most class) (live class + (made class + more class)))
  pub gathered : (most : ℕ) (before made more : ℕ → ℕ) → IsPages old.gathered most → AreBlocks s.before before
      → AreBlocks s.since_swept made → AreBlocks asked more
      → IsPages new.gathered (max most (pages_gathered before (λ class. made class + more class)))
  pub made : (most : ℕ) (made more : ℕ → ℕ) → IsPages old.made most → AreBlocks s.since_base made → AreBlocks asked more
      → IsPages new.made (max most (pages_of (λ class. made class + more class)))
  pub live : new.live ≡ old.live

-- This many blocks are live when a cycle begins: the most pages of live objects are as before, or those of these
-- blocks, if they are more.
pub record LivesMost (live : List ℕ) (old new : Most) : Type 0 where
  pub same : new ≡ record old { live = new.live }
  pub most : (most : ℕ) (n : ℕ → ℕ) → IsPages old.live most → AreBlocks live n
      → IsPages new.live (max most (pages_of n))

-- the numbers are stated
pub record AreStated (n : Needed) (m : Most) : Type 0 where
  pub together : IsTable TOO_MANY n.together m.together
  pub gathered : (n.gathered ≡ m.gathered) × (n.gathered < TOO_MANY)
  pub live : (n.live ≡ m.live) × (n.live < TOO_MANY)
  pub made : (n.made ≡ m.made) × (n.made < TOO_MANY)

-- one of them is too large to be stated
abbrev pub CannotBeStated : Most → Type 0
CannotBeStated m = HasOver TOO_MANY m.together ⊎ ((TOO_MANY ≤ m.gathered) ⊎ ((TOO_MANY ≤ m.live) ⊎ (TOO_MANY ≤ m.made)))
