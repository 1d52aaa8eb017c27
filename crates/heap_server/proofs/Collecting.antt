-- The collector's worker with one budget.
use Rattle.std.proofs.Common.{◌≡◌, ◌≢◌, ℕ, ◌+◌, ◌≤◌, ap, ◌∙◌, arith, Result, Ok, Err, OnOk, OnErr}
use Rattle.machine.specs.declared.collector.Busy.{Busy}
use Rattle.machine.specs.declared.collector.Spent.{Spent}
use Rattle.heap_server.specs.Views.{PacerView}
use Rattle.heap_server.specs.Paced.{IsPaced}

-- after a call to begin a cycle one is running, and at most one was begun
pub record IsOn (old new : PacerView) : Type 0 where
  pub on : new.ended ≢ new.begun
  pub begun : new.begun ≤ old.begun + 1
  pub quanta : new.quanta ≡ old.quanta
  pub spent : new.spent ≡ old.spent

pub begins_or_on : (r : Result (Unit {0}) Busy) (old new : PacerView)
    → OnOk r ((old.ended ≡ old.begun) × (new ≡ record old { begun = old.begun + 1 })) → OnErr r ((old.ended ≢ old.begun) × (new ≡ old)) → IsOn old new
begins_or_on (Ok begun) old new ok err =
    let was = ok.0 in
    let b = ap (λ (p : PacerView). p.begun) ok.1 in
    let e = ap (λ (p : PacerView). p.ended) ok.1 in
    record { on = λ same. absurd (omega arith); begun = omega arith; quanta = ap (λ (p : PacerView). p.quanta) ok.1; spent = ap (λ (p : PacerView). p.spent) ok.1 }
begins_or_on (Err busy) old new ok err =
    let b = ap (λ (p : PacerView). p.begun) err.1 in
    let e = ap (λ (p : PacerView). p.ended) err.1 in
    record { on = λ same. err.0 (omega arith); begun = omega arith; quanta = ap (λ (p : PacerView). p.quanta) err.1; spent = ap (λ (p : PacerView). p.spent) err.1 }

-- one quantum spends at least one unit of a budget, and at most all
pub spends_budget : (p on q : PacerView) (budget : ℕ) (s : Spent) → IsOn p on → IsPaced on budget s q → (q.begun ≤ p.begun + 1) × (p.spent + 1 ≤ q.spent) × (q.spent ≤ p.spent + budget) × (q.quanta ≡ p.quanta + 1)
spends_budget p on q budget s o paced =
    let runs = paced.runs o.on in
    let least = runs.0 in
    let most = runs.1 in
    let begun = paced.begun in
    let spent = paced.spent in
    let b = o.begun in
    let was = o.spent in
    (omega arith, omega arith, omega arith, paced.quanta ∙ ap (λ (n : ℕ). n + 1) o.quanta)
