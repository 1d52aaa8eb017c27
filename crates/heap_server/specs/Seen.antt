-- The parts of the running history that callers have seen.
use Rattle.std.specs.Prelude.{ℕ, ◌≡◌, ◌<◌, ◌≤◌, ◌⊎◌, List, [], ◌∷◌, ◌++◌, length}
use Rattle.std.specs.List.{All}
use mathlib.Core.List.{IsPrefix}
use Rattle.graph_heap.specs.declared.command.Entry.{Entry}
use Rattle.graph_heap.specs.Merge.{mine}
use Rattle.heap_server.specs.declared.fault.ServerFault.{ServerFault}
use Rattle.heap_server.specs.declared.fault.ServerFault.TheVariants as faults
use Rattle.heap_server.specs.Views.{SeatView}

-- A seat has seen more of the history, up to this entry and its place.
abbrev pub Extends : List Entry → List Entry → ℕ → Entry → Type 0
Extends seen new place e = (before : List Entry) × IsPrefix seen before × (new ≡ before ++ e ∷ [])
    × (place ≡ length before)

-- the numbers of faults, which go on from those of refusals
abbrev pub fault_number : ServerFault → ℕ
fault_number faults.NoMemory = 9
fault_number (faults.Torn found) = 10

-- The effect of a fault on the part that a seat has seen: nothing new, for lack of memory; or a whole log of the length
-- that was found.
abbrev pub FaultShows : ServerFault → List Entry → List Entry → Type 0
FaultShows faults.NoMemory seen new = new ≡ seen
FaultShows (faults.Torn found) seen new = found ≡ length new

-- The effect of a fault on the part that a seat has seen, with the locked history. If another number than the history's
-- length was found, the seat has seen a log that begins with the history, and is longer.
abbrev pub FaultTells : ServerFault → List Entry → List Entry → List Entry → Type 0
FaultTells faults.NoMemory history seen new = new ≡ seen
FaultTells (faults.Torn found) history seen new = (found ≡ length new) × IsPrefix history new
    × (length history < length new)

-- the history begins with the part that was seen, or that part begins with the history
abbrev pub OneBegins : List Entry → List Entry → Type 0
OneBegins h seen = IsPrefix seen h ⊎ IsPrefix h seen

-- the history begins with the part that a seat has seen, and the history has as many entries of its mutator as the seat
-- made calls
pub record WasTold (h : List Entry) (s : SeatView) : Type 0 where
  pub begins : IsPrefix s.seen h
  pub calls : s.calls ≡ length (mine h s.mutator)

-- a log begins with the part that a seat has seen, which has at least as many entries of its mutator as it made calls
pub record IsKnown (log : List Entry) (s : SeatView) : Type 0 where
  pub begins : IsPrefix s.seen log
  pub calls : s.calls ≤ length (mine s.seen s.mutator)

-- each seat is known in this way
abbrev pub EachKnown : List Entry → List SeatView → Type 0
EachKnown log [] = Unit {0}
EachKnown log (s ∷ ss) = IsKnown log s × EachKnown log ss

-- One load of the place word when a server is closed, with its history and its seats. The number is the length of a
-- log, which begins with the history and with the part that each seat has seen. The history begins with each such part,
-- or the part with the history. If the number is the history's length, each seat has seen all its calls.
pub record Closes (history : List Entry) (seats : List SeatView) (found : ℕ) : Type 0 where
  pub log : List Entry
  pub length_is : found ≡ length log
  pub whole : IsPrefix history log
  pub seen : All (λ s. IsPrefix s.seen log) seats
  pub begins : All (λ s. OneBegins history s.seen) seats
  pub told : found ≡ length history → All (WasTold history) seats
