-- The blocks of a page.
use Rattle.std.specs.Prelude.{ℕ, length, Option, Some, None}
use Rattle.heap_model.specs.Pages.{Page}

-- how many there are, allocated or not; a free page has none
abbrev pub blocks_on : Option Page → ℕ
blocks_on None = 0
blocks_on (Some p) = length p.allocated
