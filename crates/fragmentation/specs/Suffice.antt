-- How many pages suffice for the needs of a season.
use Rattle.std.specs.Prelude.{ℕ, ◌+◌, ◌*◌, ◌<◌, ◌≤◌, if◌then◌else◌, nat_lt, length}
use Rattle.size_classes.specs.declared.class.TheConstants.{CLASSES}
use Rattle.size_classes.specs.Sizes.{blocks_in}
use Rattle.heap_model.specs.Pages.{whole_pages}
use Rattle.heap_model.specs.State.{HeapState}
use Rattle.space.specs.Space.{class_sum}
use Rattle.fragmentation.specs.Season.{Season, Lives, made_since, needed_since}

-- after each sweep a heap gathers every class: moving always follows, and as many pages as there are may be emptied
pub record GathersAll (h : HeapState) : Type 0 where
  pub always : length h.store.pages < h.defrag_below
  pub all : length h.store.pages ≤ h.defrag_pages

-- The pages of a class whose blocks were gathered, for this many blocks. They are the whole pages that the blocks take,
-- and one more if the blocks fill a page: one page may be left whose blocks found no place.
abbrev pub gathered_pages : ℕ → ℕ → ℕ
gathered_pages class blocks =
    if nat_lt blocks (blocks_in class) then whole_pages class blocks else whole_pages class blocks + 1

-- the pages of all classes: those gathered at the last sweep's end, and those opened since, with the requested blocks
abbrev pub season_pages : Season → (ℕ → ℕ) → ℕ
season_pages s asked =
    class_sum (λ class. gathered_pages class (s.before class)
    + whole_pages class (made_since s.swept s class + asked class))
    CLASSES

-- a season and the requested blocks take at most this many pages
abbrev pub WithinPages : ℕ → Season → (ℕ → ℕ) → Type 0
WithinPages pages s asked = season_pages s asked ≤ pages

-- A joint demand limits three kinds of blocks together in each class: those that were live when the cycle began whose
-- sweep ended last, those made since, and those requested.
abbrev pub WithinBlocks : (ℕ → ℕ) → Lives → Season → (ℕ → ℕ) → Type 0
WithinBlocks blocks live s asked =
    (class : ℕ) → class < CLASSES → needed_since live s class + asked class ≤ blocks class

-- the pages for this many blocks of each class, with one that may be left
abbrev pub sparse_pages : (ℕ → ℕ) → ℕ
sparse_pages blocks = class_sum (λ class. gathered_pages class (blocks class)) CLASSES

-- the whole pages that this many blocks of each class take
abbrev pub pages_of : (ℕ → ℕ) → ℕ
pages_of blocks = class_sum (λ class. whole_pages class (blocks class)) CLASSES

-- The most pages that live objects take when a cycle begins, all classes together. And the most pages of the objects made
-- from then, or from the start, to the end of the next cycle's sweep, with the one requested.
pub record PageDemand : Type 0 where
  pub live : ℕ
  pub made : ℕ

-- the pages that suffice: those of live objects, twice those made, and one for each class
abbrev pub demand_pages : PageDemand → ℕ
demand_pages b = b.live + 2 * b.made + CLASSES

-- the blocks made since the cycle began whose sweep ended last, with those requested, take at most the pages that the
-- demand has for made objects
abbrev pub WithinPageDemand : PageDemand → Season → (ℕ → ℕ) → Type 0
WithinPageDemand b s asked = pages_of (λ class. made_since s.base s class + asked class) ≤ b.made
