-- The next steps of the collector.
use Rattle.std.specs.Prelude.{◌≡◌, ◌⊎◌, ℕ, ◌<◌, ◌≤◌, Bool, true, false}
use Rattle.heap_model.specs.declared.phase.Phase.TheVariants as phases
use Rattle.heap_model.specs.Action.{Action, Chain, Relinks}
use Rattle.heap_model.specs.QuantumSpending.{NextCosts}
use Rattle.heap_model.specs.Store.{Store}
use Rattle.nodes.specs.declared.heap_fields.HeapFields.{HeapFields}
use Rattle.nodes.specs.HeapFields.{state_of}

-- One action is done, before which blocks may have been threaded anew.
abbrev pub ActsOnce : HeapFields → ℕ → HeapFields → Type 0
ActsOnce old cost new =
    (linked : Store) × Relinks old.nodes linked × Action (record (state_of old) { store = linked }) cost (state_of new)

-- Actions are done, one after the other, and their cost together is within the room.
abbrev pub Acts : HeapFields → ℕ → HeapFields → Type 0
Acts old room new = (cost : ℕ) × Chain (state_of old) cost (state_of new) × (0 < cost) × (cost ≤ room)

-- Actions are done that fit in the room. Or nothing changes, because no cycle runs or the next action costs more than
-- the room.
abbrev pub ActsIn : HeapFields → ℕ → HeapFields → Bool → Type 0
ActsIn old room new true = Acts old room new
ActsIn old room new false = (new ≡ old)
    × ((old.phase ≡ phases.Idle) ⊎ ((cost : ℕ) × NextCosts (state_of old) cost × (room < cost)))
