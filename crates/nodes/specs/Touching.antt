-- Pages that get their words before they are used.
use Rattle.std.specs.Prelude.{ℕ, ◌-◌, ◌*◌, ◌++◌, length, min, replicate}
use Rattle.size_classes.specs.declared.class.TheConstants.{PAGE_WORDS}
use Rattle.heap_model.specs.Store.{Store}

-- the first pages have their words, this many pages or all: those that weren't there are 0
abbrev pub touched : Store → ℕ → Store
touched s pages =
    record s { words = s.words ++ replicate (PAGE_WORDS * min pages (length s.pages) - length s.words) 0 }
