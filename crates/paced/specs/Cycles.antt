-- Events on a heap, and the count of its cycles. A `Cycle` has the figures of one cycle. `Cycles` has the cycle that began
-- last, as far as it has gone, and the last one that ended.
use Rattle.std.specs.Prelude.{◌≡◌, ◌≢◌, ◌⊎◌, ℕ, ◌+◌, ◌-◌, ◌^◌, ◌<◌, if◌then◌else◌, min, max, Result, IfOk, List, [], ◌∷◌}
use Rattle.size_classes.specs.declared.config.TheConstants.{LEAST_BUDGET}
use Rattle.heap_model.specs.declared.phase.Phase.TheVariants as phases
use Rattle.heap_model.specs.Action.{begun}
use Rattle.heap_model.specs.Event.{Event, Command_done, Cycle_begun, Begin_refused, Quantum_done, Quantum_refused, IsBudget}
use Rattle.heap_model.specs.Pages.{free_pages}
use Rattle.heap_model.specs.Phases.{is_idle}
use Rattle.heap_model.specs.QuantumSpending.{QuantumSpends}
use Rattle.heap_model.specs.State.{HeapState}
use Rattle.machine.specs.declared.collector.BudgetOutOfRange.{BudgetOutOfRange}
use Rattle.machine.specs.declared.collector.Spent.{Spent}
use Rattle.machine.specs.Plan.{Steps}
use Rattle.paced.specs.declared.cycles.Cycle.{Cycle}
use Rattle.paced.specs.declared.cycles.Cycles.{Cycles}

-- the number, or the most that 64 bits hold
abbrev pub saturated : ℕ → ℕ
saturated n = min n (2 ^ 64 - 1)

-- an event is done on a heap, whatever its history
abbrev pub DoesOn : HeapState → Event → HeapState → Type 0
DoesOn h (Command_done m c reply) after = Steps h m c reply after
DoesOn h Cycle_begun after = (h.phase ≡ phases.Idle) × (after ≡ begun h)
DoesOn h Begin_refused after = (h.phase ≢ phases.Idle) × (after ≡ h)
DoesOn h (Quantum_done budget units phase) after = IsBudget budget × QuantumSpends h budget after units
    × (phase ≡ after.phase)
DoesOn h (Quantum_refused budget) after = (IsBudget budget → ⊥) × (after ≡ h)

-- all zeros stand for no cycle
abbrev pub no_cycle : Cycle
no_cycle = record { number = 0; quanta = 0; units = 0; longest = 0; free_before = 0; free_after = 0 }

-- no cycle has begun yet
abbrev pub no_cycles : Cycles
no_cycles = record { begun = no_cycle; ended = no_cycle }

-- the next cycle, which has just begun in a heap
abbrev pub next_cycle : Cycle → HeapState → Cycle
next_cycle c h = record {
  number = saturated (c.number + 1);
  quanta = 0;
  units = 0;
  longest = 0;
  free_before = free_pages h.store.pages;
  free_after = free_pages h.store.pages;
}

-- a cycle after one more quantum, which spent this number of units and left a heap
abbrev pub one_quantum_on : Cycle → ℕ → HeapState → Cycle
one_quantum_on c units after = record c {
  quanta = saturated (c.quanta + 1);
  units = after.units;
  longest = max c.longest units;
  free_after = free_pages after.store.pages;
}

-- the cycle that began last is this one, and it has ended if none is running any more
abbrev pub come_to : Cycles → Cycle → HeapState → Cycles
come_to cycles c after = record { begun = c; ended = if is_idle after.phase then c else cycles.ended }

-- the cycles after one more event, by the heap before it and after it: a quantum counts if it found a cycle running
abbrev pub cycles_after : Event → HeapState → HeapState → Cycles → Cycles
cycles_after Cycle_begun before after cycles = record cycles { begun = next_cycle cycles.begun after }
cycles_after (Quantum_done budget units phase) before after cycles =
    if is_idle before.phase then cycles else come_to cycles (one_quantum_on cycles.begun units after) after
cycles_after e before after cycles = cycles

-- events are done on a heap, one after the other, and its cycles are counted
abbrev pub CountsCycles : HeapState → Cycles → List Event → HeapState → Cycles → Type 0
CountsCycles h cycles [] after now = (after ≡ h) × (now ≡ cycles)
CountsCycles h cycles (e ∷ es) after now = (next : HeapState) × DoesOn h e next
    × CountsCycles next (cycles_after e h next cycles) es after now

-- a quantum that isn't refused ends the cycle, or leaves less than the dearest action costs: the least budget
abbrev pub EndsOrSpends : ℕ → Result Spent BudgetOutOfRange → Type 0
EndsOrSpends budget result = IfOk result (λ s. (s.phase ≡ phases.Idle) ⊎ (budget < s.units + LEAST_BUDGET))
