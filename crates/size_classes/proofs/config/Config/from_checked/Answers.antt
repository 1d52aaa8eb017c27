use Rattle.std.proofs.Common.{◌≡◌, ℕ, ◌*◌, ◌≤◌, ◌<◌, pos, ◌*ℤ◌, true, false, refl, arith}
use Rattle.std.proofs.lemmas.Int.{ints}
use Rattle.size_classes.specs.declared.config.TheConstants.{LEAST_BUDGET, MOST_BUDGET}
use Rattle.size_classes.specs.Keys.{is_between}
use Rattle.size_classes.proofs.config.Config.from_checked.Goals as goal
use Rattle.size_classes.proofs.config.Config.from_checked.Goals.{then-budget-from-via-then-budget-from, then-budget-from-via-else-budget-from+then-from-budget}

within : (a b : ℕ) → LEAST_BUDGET ≤ a * b → a * b ≤ MOST_BUDGET → is_between LEAST_BUDGET (pos MOST_BUDGET) (pos a *ℤ pos b) ≡ true
unfolding is_between
within a b low high = grind (arith, ints)

below : (a b : ℕ) → a * b < LEAST_BUDGET → is_between LEAST_BUDGET (pos MOST_BUDGET) (pos a *ℤ pos b) ≡ false
unfolding is_between
below a b low = grind (arith, ints)

above : (a b : ℕ) → MOST_BUDGET < a * b → is_between LEAST_BUDGET (pos MOST_BUDGET) (pos a *ℤ pos b) ≡ false
unfolding is_between
above a b high = grind (arith, ints)

pub returns-then-budget-from-clause-fault : goal.returns-then-budget-from-clause-fault
returns-then-budget-from-clause-fault c =
    let a = c.number-collector_ticks in
    let b = c.number-rate in
    let outside : is_between LEAST_BUDGET (pos MOST_BUDGET) (pos a.result *ℤ pos b.result) ≡ false = elim c.then-budget-from.branch [
      | then-budget-from-via-then-budget-from w ↦ below a.result b.result (omega arith)
      | then-budget-from-via-else-budget-from+then-from-budget w ↦ above a.result b.result (omega arith)
    ] in
    rw (← a.ensures.value, ← b.ensures.value, outside) refl

pub returns-clause-fault : goal.returns-clause-fault
returns-clause-fault c =
    let a = c.number-collector_ticks in
    let b = c.number-rate in
    rw (← a.ensures.value, ← b.ensures.value, within a.result b.result (omega arith) (omega arith)) refl
