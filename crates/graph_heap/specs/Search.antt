-- The objects that a search has found, and those that it adds.
use Rattle.std.specs.Prelude.{◌≡◌, ◌≢◌, ℕ, ◌+◌, ◌-◌, ◌<◌, ◌⊎◌, List, [], ◌∷◌, ◌++◌, Option, Some, None, length, nat_lt, count_by, slice_index}
use Rattle.graph_heap.specs.Reaching.{IsAmong}
use Rattle.graph_heap.specs.declared.reachability.found.Holder.{Holder}
use Rattle.graph_heap.specs.declared.reachability.found.Holder.TheVariants.{Root, Cell}
use Rattle.graph_heap.specs.declared.reachability.found.Found.{Found}
use Rattle.graph_heap.specs.declared.reachability.findings.Search.TheInside.{Inside}
use Rattle.graph_heap.specs.Distance.{found_at}

-- the objects that were found so far, and how many objects there are
pub record Findings : Type 0 where
  pub found : List Found
  pub objects : ℕ

-- the objects that were found, and how many objects there are: one place of the table for each
abbrev pub findings_in : Inside → Findings
findings_in a = record { found = a.found.items; objects = length a.places.items }

-- the table has the place of each object that was found, from 1, and 0 for the others
pub record IsIndexed (a : Inside) : Type 0 where
  pub there : (k : ℕ) → k < length a.found.items
      → IsAmong (length a.places.items) (found_at a.found.items k).id
      × (slice_index a.places.items ((found_at a.found.items k).id - 1) ≡ k + 1)
  pub here : (n k : ℕ) → n < length a.places.items → slice_index a.places.items n ≡ k + 1
      → (k < length a.found.items) × ((found_at a.found.items k).id ≡ n + 1)
  pub count : count_by (nat_lt 0) a.places.items ≡ length a.found.items

-- the object of an identity stands at a place
abbrev pub IsAt : List Found → ℕ → ℕ → Type 0
IsAt found id k = (k < length found) × ((found_at found k).id ≡ id)

-- this stands at some place
abbrev pub Stands : List Found → Found → Type 0
Stands found f = (k : ℕ) × (k < length found) × (found_at found k ≡ f)

-- an object stands at none
abbrev pub IsNowhere : List Found → ℕ → Type 0
IsNowhere found id = (k : ℕ) → k < length found → (found_at found k).id ≢ id

-- the search takes a find: an object that wasn't found before is added, and else nothing changes
abbrev pub Takes : Found → Findings → Findings → Type 0
Takes f old new =
    ((new ≡ old) × (IsAmong old.objects f.id → (k : ℕ) × IsAt old.found f.id k))
    ⊎ (IsAmong old.objects f.id × (new ≡ record { found = old.found ++ f ∷ []; objects = old.objects }))

-- the holders of the cells of an object, or else of the roots
abbrev pub holders : Option ℕ → ℕ → Holder
holders (Some object) cell = Cell object cell
holders None cell = Root cell

-- an object that one of the first cells holds, this far from the roots
pub record IsOneOf (cells : List ℕ) (d : ℕ) (holder : ℕ → Holder) (count : ℕ) (f : Found) : Type 0 where
  pub cell : ℕ
  pub below : cell < count
  pub id : f.id ≡ slice_index cells cell
  pub distance : f.distance ≡ d
  pub holder_is : f.holder ≡ holder cell

-- The objects that the first `count` cells hold are found, unless they were before, and nothing else is added.
pub record Adds (cells : List ℕ) (d : ℕ) (holder : ℕ → Holder) (count : ℕ) (old new : Findings) : Type 0 where
  pub more : List Found
  pub grows : new.found ≡ old.found ++ more
  pub same : new.objects ≡ old.objects
  pub all : (i : ℕ) → i < count → IsAmong old.objects (slice_index cells i) → (k : ℕ)
      × IsAt new.found (slice_index cells i) k
  pub only : (k : ℕ) → k < length more → IsAmong old.objects (found_at more k).id
      × IsOneOf cells d holder count (found_at more k)
