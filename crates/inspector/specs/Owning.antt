-- How the roots that own objects are found, for objects in the order of a breadth-first search.
use Rattle.std.specs.Prelude.{◌≡◌, ℕ, ◌<◌, ◌≤◌, ◌⊎◌, List, length, slice_index, slice_index_or}
use Rattle.graph_heap.specs.Graph.{Graph, object_of}
use Rattle.graph_heap.specs.declared.reachability.found.Found.{Found}
use Rattle.graph_heap.specs.Distance.{found_at}
use Rattle.inspector.specs.declared.by_root.owning.Owned.{Owned}
use Rattle.inspector.specs.Nearest.{PathFrom}

-- the default if there is no object
abbrev pub none_owned : Owned
none_owned = record { id = 0; root = 0 }

-- the object at a place, from 0
abbrev pub owned_at : List Owned → ℕ → Owned
owned_at owned k = slice_index_or owned k none_owned

-- a shortest path leads from this root to an object that was found, or it is no root yet, but the number of roots
abbrev pub MayOwn : Graph → Found → ℕ → Type 0
MayOwn g f root = (root ≡ length g.roots) ⊎ PathFrom g root f.distance f.id

-- the objects that were found, each with a root that may own it
pub record MayBeOwned (g : Graph) (found : List Found) (owned : List Owned) : Type 0 where
  pub long : length owned ≡ length found
  pub ids : (k : ℕ) → k < length found → (owned_at owned k).id ≡ (found_at found k).id
  pub sound : (k : ℕ) → k < length found → MayOwn g (found_at found k) (owned_at owned k).root

-- the objects to which cells refer, if they are farther than this, are owned by no root after this
abbrev pub AreBefore : List Found → List Owned → List ℕ → ℕ → ℕ → Type 0
AreBefore found owned cells distance root = (i j : ℕ) → i < length cells → j < length found
    → (found_at found j).id ≡ slice_index cells i → distance < (found_at found j).distance → (owned_at owned j).root ≤ root

-- the objects to which the first roots refer are owned by no root after these
pub record IsGiven (g : Graph) (found : List Found) (count : ℕ) (owned : List Owned) : Type 0 where
  pub may : MayBeOwned g found owned
  pub given : (r k : ℕ) → r < count → k < length found → (found_at found k).id ≡ slice_index g.roots r
      → (owned_at owned k).root ≤ r

-- the roots of the first objects were handed on to the objects to which their cells refer, if these are farther
pub record IsHanded (g : Graph) (found : List Found) (count : ℕ) (owned : List Owned) : Type 0 where
  pub given : IsGiven g found (length g.roots) owned
  pub handed : (k : ℕ) → k < count → AreBefore found owned (object_of g.objects (found_at found k).id).refs
      (found_at found k).distance (owned_at owned k).root
