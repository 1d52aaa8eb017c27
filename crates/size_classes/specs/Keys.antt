-- The keys of the configuration.
use Rattle.std.specs.Prelude.{ℕ, ℤ, pos, nat_abs, int_le, Bool, ◌&&◌, ◌+◌, ◌≤◌, List, Option, Some, None, codes}
use Rattle.size_classes.specs.declared.ranges.Ranges.{Ranges}
use Rattle.size_classes.specs.declared.ranges.Ranges.TheVariants.{File, Library}
use Rattle.size_classes.specs.declared.config.TheConstants.{MOST_PAGES, MOST_HEAP_PAGES}
use Rattle.size_classes.specs.declared.key.Key.{Key}
use Rattle.size_classes.specs.declared.key.Key.TheVariants.{Pages, Mutators, Slots, Statics, Identities, DefragBelow, DefragPages, CollectorTicks, MutatorTicks, Rate, Live}

-- the name by which a file gives a key
abbrev pub name_of : Key → List ℕ
name_of Pages = codes "pages"
name_of Mutators = codes "mutators"
name_of Slots = codes "slots"
name_of Statics = codes "statics"
name_of Identities = codes "identities"
name_of DefragBelow = codes "defrag_below"
name_of DefragPages = codes "defrag_pages"
name_of CollectorTicks = codes "collector_ticks"
name_of MutatorTicks = codes "mutator_ticks"
name_of Rate = codes "rate"
name_of Live = codes "live"

-- the most pages that a file may ask for, and a program of the library
abbrev pub most_pages : Ranges → ℕ
most_pages File = MOST_PAGES
most_pages Library = MOST_HEAP_PAGES

-- the row of a key: its range, and its default if a file doesn't name it (None if it must)
pub record KeyRange : Type 0 where
  pub least : ℕ
  pub greatest : ℤ
  pub default : Option ℤ

-- the row of a key, if there is this number of mutators
abbrev pub row_of : Ranges → ℤ → Key → KeyRange
row_of ranges mutators Pages = record { least = 1; greatest = pos (most_pages ranges); default = None }
row_of ranges mutators Mutators = record { least = 1; greatest = pos 64; default = None }
row_of ranges mutators Slots = record { least = 1; greatest = pos 256; default = None }
row_of ranges mutators Statics = record { least = 0; greatest = pos 256; default = Some (pos 0) }
row_of ranges mutators Identities = record {
  least = 1;
  greatest = pos 9223372036854775807;
  default = Some (pos 9223372036854775807);
}
row_of ranges mutators DefragBelow = record { least = 0; greatest = pos (most_pages ranges + 1); default = Some (pos 0) }
row_of ranges mutators DefragPages = record { least = 0; greatest = pos (most_pages ranges); default = Some (pos 0) }
row_of ranges mutators CollectorTicks = record { least = 1; greatest = pos 1000000; default = Some (pos 10) }
row_of ranges mutators MutatorTicks = record { least = 1; greatest = pos 1000000; default = Some (pos 12) }
row_of ranges mutators Rate = record { least = 1; greatest = pos 1000000; default = Some (pos 100) }
row_of ranges mutators Live = record { least = 0; greatest = mutators; default = Some mutators }

-- a value lies between two numbers, or is one of them
unfoldable pub is_between : ℕ → ℤ → ℤ → Bool
is_between least greatest value = int_le (pos least) value && int_le value greatest

-- a value is in the range of a key
abbrev pub is_allowed : Ranges → ℤ → Key → ℤ → Bool
is_allowed ranges mutators key value =
    is_between (row_of ranges mutators key).least (row_of ranges mutators key).greatest value

-- a heap can have a number of a key: it is in the library's range
abbrev pub IsWithin : ℕ → Key → ℕ → Type 0
IsWithin mutators key n = ((row_of Library (pos mutators) key).least ≤ n) × (n ≤ nat_abs (row_of Library (pos mutators) key).greatest)
