-- The answers of the collector to a call.
use Rattle.std.specs.Prelude.{◌≡◌, ◌≢◌, ℕ, Result, Ok, Err}
use Rattle.heap_model.specs.declared.phase.Phase.TheVariants as phases
use Rattle.heap_model.specs.State.{HeapState}
use Rattle.heap_model.specs.Action.{begun}
use Rattle.heap_model.specs.QuantumSpending.{QuantumSpends}
use Rattle.heap_model.specs.Event.{IsBudget}
use Rattle.machine.specs.declared.collector.Busy.{Busy}
use Rattle.machine.specs.declared.collector.BudgetOutOfRange.{BudgetOutOfRange}
use Rattle.machine.specs.declared.collector.Spent.{Spent}

-- a cycle begins, or one is running already and nothing changes
abbrev pub Begins : HeapState → HeapState → Result (Unit {0}) Busy → Type 0
Begins h after (Ok done) = (h.phase ≡ phases.Idle) × (after ≡ begun h)
Begins h after (Err busy) = (h.phase ≢ phases.Idle) × (after ≡ h)

-- a quantum spends units of its budget in one turn, or the budget is refused and nothing changes
abbrev pub Spends : HeapState → ℕ → HeapState → Result Spent BudgetOutOfRange → Type 0
Spends h budget after (Ok spent) = IsBudget budget × QuantumSpends h budget after spent.units
    × (spent.phase ≡ after.phase)
Spends h budget after (Err refused) = (IsBudget budget → ⊥) × (after ≡ h)
