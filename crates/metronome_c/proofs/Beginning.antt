-- A cycle begins, or goes on, in the heap that C holds.
use Rattle.std.proofs.Common.{◌≡◌, ◌∙◌, ℕ, refl, ap, subst}
use Rattle.std.specs.Prelude.{Some, Result, Ok, Err}
use Rattle.machine.specs.declared.collector.Busy.{Busy}
use Rattle.machine.specs.declared.collector.BudgetOutOfRange.{BudgetOutOfRange}
use Rattle.machine.specs.declared.collector.Spent.{Spent}
use Rattle.metronome_c.specs.declared.collector.QuantumSpent.{QuantumSpent}
use Rattle.metronome_c.specs.declared.own_heap.OwnHeap.{OwnHeap}
use Rattle.metronome_c.specs.declared.status.Status.{Status}
use Rattle.metronome_c.specs.Status.{status_number}
use Rattle.metronome_c.specs.Asking.{Asks, status_of}
use Rattle.metronome_c.specs.Either.{flat}
use Rattle.metronome_c.specs.Figures.{IsTold}
use Rattle.metronome_c.specs.Collecting.{begin_status, begun_told, BeginsTold, BeginsOpen, quantum_status, spent_of, spent_told, SpendsTold, SpendsOpen}

-- the status of what was asked
abbrev pub status_found : {A : Type 0} → Result (Result A Status) Status → ℕ
status_found answer = status_number (status_of (flat answer))

begun_so : (t : Result (Unit {0}) Busy) → status_number (status_of (begun_told (Some t))) ≡ begin_status t
begun_so (Ok done) = refl
begun_so (Err busy) = refl

pub begins_open : (answer : Result (Result (Unit {0}) Status) Status) (n : ℕ) → n ≡ status_found answer
    → (h k : Result OwnHeap Status) → Asks BeginsTold h answer k → BeginsOpen h k n
begins_open answer n told (Err why) k asks = (asks.1, told ∙ ap status_found asks.0)
begins_open answer n told (Ok h) k asks =
    let b = asks.4 in (asks.1, b.told, asks.3, b.does, told ∙ ap status_found asks.2 ∙ ap (λ (x : Result (Unit {0}) Status). status_number (status_of x)) b.is ∙ begun_so b.told)

spent_so : (t : Result Spent BudgetOutOfRange) (before after : QuantumSpent) (n : ℕ) → IsTold (spent_told (Some t)) before after n → (after ≡ spent_of before t) × (n ≡ quantum_status t)
spent_so (Ok spent) before after n told = told
spent_so (Err refused) before after n told = told

pub spends_open : (budget : ℕ) (answer : Result (Result QuantumSpent Status) Status) (before after : QuantumSpent) (n : ℕ) → IsTold (flat answer) before after n
    → (h k : Result OwnHeap Status) → Asks (λ x a y. SpendsTold x budget a y) h answer k → SpendsOpen h budget k before after n
spends_open budget answer before after n told (Err why) k asks =
    let now : IsTold (Err why) before after n = subst (λ (x : Result QuantumSpent Status). IsTold x before after n) (ap flat asks.0) told in (asks.1, now.0, now.1)
spends_open budget answer before after n told (Ok h) k asks =
    let now : IsTold (spent_told (Some asks.4.0)) before after n = subst (λ (x : Result QuantumSpent Status). IsTold x before after n) (ap flat asks.2 ∙ asks.4.2) told in
    let so = spent_so asks.4.0 before after n now in
    (asks.1, asks.4.0, asks.3, asks.4.1, so.0, so.1)
