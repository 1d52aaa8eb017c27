-- Calls of the collector tell the outcome of their event.
use Rattle.std.proofs.Common.{◌≡◌, ◌∙◌, ℕ, Ok, Err, Result, ap}
use Rattle.machine.specs.declared.collector.Busy.{Busy}
use Rattle.machine.specs.declared.collector.BudgetOutOfRange.{BudgetOutOfRange}
use Rattle.machine.specs.declared.collector.Spent.{Spent}
use Rattle.machine.specs.Recorded.{begin_done, quantum_done}
use Rattle.metronome_c.specs.declared.collector.QuantumSpent.{QuantumSpent}
use Rattle.metronome_c.specs.Calls.{Begin_called, Quantum_called, TellsEvent}
use Rattle.metronome_c.specs.Collecting.{begin_status, quantum_status, spent_of}

pub begin_told : (answer : Result (Unit {0}) Busy) (status : ℕ) → status ≡ begin_status answer → TellsEvent (begin_done answer) (Begin_called status)
begin_told (Ok done) status is = ap Begin_called is
begin_told (Err busy) status is = ap Begin_called is

pub quantum_told : (budget : ℕ) (answer : Result Spent BudgetOutOfRange) (before after : QuantumSpent) (status : ℕ)
    → after ≡ spent_of before answer → status ≡ quantum_status answer → TellsEvent (quantum_done budget answer) (Quantum_called budget before after status)
quantum_told budget (Ok spent) before after status was is =
    (before, ap (λ (x : QuantumSpent). Quantum_called budget before x status) was ∙ ap (Quantum_called budget before (spent_of before (Ok spent))) is)
quantum_told budget (Err refused) before after status was is =
    (before, ap (λ (x : QuantumSpent). Quantum_called budget before x status) was ∙ ap (Quantum_called budget before before) is)
