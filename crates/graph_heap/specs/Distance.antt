-- How far objects are from the roots, and their holders.
use Rattle.std.specs.Prelude.{◌≡◌, ℕ, ◌+◌, ◌<◌, ◌≤◌, List, length, slice_index, slice_index_or}
use Rattle.graph_heap.specs.Graph.{Graph, object_of}
use Rattle.graph_heap.specs.Reach.{Path, Reaches}
use Rattle.graph_heap.specs.Reaching.{IsAmong}
use Rattle.graph_heap.specs.declared.reachability.found.Holder.{Holder}
use Rattle.graph_heap.specs.declared.reachability.found.Holder.TheVariants.{Root, Cell}
use Rattle.graph_heap.specs.declared.reachability.found.Found.{Found}

-- a path to the identity goes through d reference cells, and none goes through fewer
pub record IsDistance (g : Graph) (id d : ℕ) : Type 0 where
  pub path : Path g d id
  pub least : (k : ℕ) → Path g k id → d ≤ k

-- the holder is there, and holds the identity
abbrev pub Holds : Graph → Holder → ℕ → Type 0
Holds g (Root place) id = (place < length g.roots) × (slice_index g.roots place ≡ id)
Holds g (Cell object cell) id = (cell < length (object_of g.objects object).refs)
    × (slice_index (object_of g.objects object).refs cell ≡ id)

-- a shortest path to the holder's end goes through d reference cells, with the holder's own
abbrev pub EndsAt : Graph → Holder → ℕ → Type 0
EndsAt g (Root place) d = d ≡ 0
EndsAt g (Cell object cell) d = (e : ℕ) × IsDistance g object e × (d ≡ e + 1)

-- an object that can be reached, with its distance, and with the last holder of a shortest path to it
pub record IsFound (g : Graph) (f : Found) : Type 0 where
  pub among : IsAmong (length g.objects) f.id
  pub distance : IsDistance g f.id f.distance
  pub holds : Holds g f.holder f.id
  pub last : EndsAt g f.holder f.distance

-- the default if no object was found
abbrev pub none_found : Found
none_found = record { id = 0; distance = 0; holder = Root 0 }

-- the object found at a place, from 0
abbrev pub found_at : List Found → ℕ → Found
found_at found k = slice_index_or found k none_found

-- no object was found twice
abbrev pub AreOnce : List Found → Type 0
AreOnce found = (k j : ℕ) → k < length found → j < length found → (found_at found k).id ≡ (found_at found j).id → k ≡ j

-- the objects that were found stand nearest to the roots first
abbrev pub AreInOrder : List Found → Type 0
AreInOrder found = (k j : ℕ) → k ≤ j → j < length found → (found_at found k).distance ≤ (found_at found j).distance

-- these are the objects that can be reached, each once, nearest to the roots first
pub record FindsAll (g : Graph) (found : List Found) : Type 0 where
  pub each : (k : ℕ) → k < length found → IsFound g (found_at found k)
  pub all : (id : ℕ) → Reaches g id → id ≤ length g.objects → (k : ℕ) × (k < length found)
      × ((found_at found k).id ≡ id)
  pub once : AreOnce found
  pub order : AreInOrder found
