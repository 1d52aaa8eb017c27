-- Which root an object is counted for: of the nearest roots, the first.
use Rattle.std.specs.Prelude.{◌≡◌, ℕ, zero, suc, ◌<◌, ◌≤◌, List, length, map, slice_index}
use Rattle.std.specs.List.{All}
use Rattle.graph_heap.specs.Graph.{Graph, object_of}
use Rattle.graph_heap.specs.Reaching.{AreReached}
use Rattle.graph_heap.specs.Distance.{IsDistance}
use Rattle.inspector.specs.declared.by_root.owning.Owned.{Owned}

-- A path of k reference cells starts at the identity in this root, and goes on through a cell of each object that it
-- comes to. It ends at this identity.
abbrev pub PathFrom : Graph → ℕ → ℕ → ℕ → Type 0
PathFrom g root zero id = (root < length g.roots) × (slice_index g.roots root ≡ id)
PathFrom g root (suc k) id = (from : ℕ) × (i : ℕ) × PathFrom g root k from
    × (i < length (object_of g.objects from).refs) × (slice_index (object_of g.objects from).refs i ≡ id)

-- A root owns an object: a path from the root leads to the object, no path from any root goes through fewer cells, and
-- none from a root before it goes through as few.
pub record IsOwnedBy (g : Graph) (id root : ℕ) : Type 0 where
  pub distance : ℕ
  pub shortest : IsDistance g id distance
  pub path : PathFrom g root distance id
  pub first : (other : ℕ) → PathFrom g other distance id → root ≤ other

-- the objects that can be reached, each once, with the roots that own them
pub record AreOwned (g : Graph) (owned : List Owned) : Type 0 where
  pub reached : AreReached g (map (λ (o : Owned). o.id) owned)
  pub each : All (λ (o : Owned). IsOwnedBy g o.id o.root) owned
