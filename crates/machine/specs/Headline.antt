-- The promises of a heap with its history, whatever events are done.
use Rattle.std.specs.Prelude.{◌≡◌, ℕ, ◌≤◌, List, ◌++◌, length}
use Rattle.graph_heap.specs.declared.command.Entry.{Entry}
use Rattle.graph_heap.specs.Graph.{opening}
use Rattle.graph_heap.specs.History.{IsLegal}
use Rattle.graph_heap.specs.Reach.{Reaches}
use Rattle.heap_model.specs.State.{HeapState}
use Rattle.heap_model.specs.Agreement.{Agrees}
use Rattle.heap_model.specs.Action.{Chain}
use Rattle.heap_model.specs.Swept.{IsAllocated}
use Rattle.heap_model.specs.Spent.{cycle_limit}
use Rattle.heap_model.specs.Event.{Course, Event, present_of, Begins, Runs}
use Rattle.machine.specs.Recorded.{EachSweepEnds, HoldsKept, EndsSoon}

-- The history is one of the graph heap, which never moves or frees an object. After each action, also within a
-- quantum, the heap agrees with the graph heap to which the history leads. All objects that can be reached there are
-- allocated, so no freed object can be reached. When a sweep ends, the heap holds exactly the objects that were
-- reachable when its cycle began and those made since; in idle and while blocks are moved it does so too. A cycle
-- spends at most its limit of units, and a cycle that begins ends soon.
pub record Holds (r : Course) : Type 0 where
  pub legal : IsLegal (opening r.heap.limits) r.history
  pub agrees : (spent : ℕ) (h : HeapState) → Chain r.heap spent h → Agrees h (present_of r)
  pub allocated : (id : ℕ) → Reaches (present_of r) id → IsAllocated r.heap (present_of r) id
  pub swept : EachSweepEnds r
  pub kept : HoldsKept r
  pub units : (spent : ℕ) (h : HeapState) → Chain r.heap spent h → h.units ≤ cycle_limit h
  pub ends : (start : Course) → Begins r start → EndsSoon start

-- The history only grows, and an object that was made and can't be reached is never reached again.
pub record Follows (old new : Course) : Type 0 where
  pub grows : (rest : List Entry) × (new.history ≡ old.history ++ rest)
  pub lost : (id : ℕ) → id ≤ length (present_of old).objects → Reaches (present_of new) id → Reaches (present_of old) id

-- The promises hold of the heap after any events in any order, and its history follows the one before them.
abbrev pub AlwaysHolds : Course → Type 0
AlwaysHolds r = (es : List Event) (new : Course) → Runs r es new → Holds new × Follows r new
