-- The row of root cells.
use Rattle.std.specs.Prelude.{◌≡◌, ℕ, ◌<◌, ◌≤◌, ◌^◌, List, Bool, length}
use Rattle.graph_heap.specs.declared.command.Limits.{Limits}
use Rattle.graph_heap.specs.Graph.{root_cells}

-- Slot s of mutator m stands at m * slots + s, and the statics stand after the slots. A cell holds a reference: the
-- address of a block plus one, or 0 for null. Mutator m is live if the row `live` says so.
pub record RootTable : Type 0 where
  pub limits : Limits
  pub cells : List ℕ
  pub live : List Bool

-- the invariant of a row of roots: it has its length; the limit of identities fits in a word; and each mutator is live
-- or not
pub record IsRootTable (r : RootTable) : Type 0 where
  pub whole : length r.cells ≡ root_cells r.limits
  pub few : root_cells r.limits ≤ 16640
  pub identities : r.limits.identities < 2 ^ 63
  pub live : r.limits.mutators ≤ length r.live
