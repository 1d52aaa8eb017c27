-- The memory of a heap, as contracts see it.
use Rattle.std.specs.Prelude.{ℕ, List}

-- the words of the pages that were touched so far, from the first page on, and for how many pages there is memory
pub record Memory : Type 0 where
  pub words : List ℕ
  pub pages : ℕ
