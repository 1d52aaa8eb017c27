-- Paths in a graph heap, and the identities that they reach.
use Rattle.std.specs.Prelude.{◌≡◌, ℕ, zero, suc, ◌<◌, length, slice_index}
use Rattle.graph_heap.specs.Graph.{Graph, object_of}

-- A path of k reference cells starts at the identity in a root. It goes on through a cell of each object that it comes
-- to. It ends at this identity, or at 0, which is null.
abbrev pub Path : Graph → ℕ → ℕ → Type 0
Path g zero id = (j : ℕ) × (j < length g.roots) × (slice_index g.roots j ≡ id)
Path g (suc k) id = (from : ℕ) × (i : ℕ) × Path g k from × (i < length (object_of g.objects from).refs)
    × (slice_index (object_of g.objects from).refs i ≡ id)

-- the identity is at the end of a path
unfoldable pub Reaches : Graph → ℕ → Type 0
Reaches g id = (0 < id) × (k : ℕ) × Path g k id
