use Rattle.std.proofs.Common.{◌≡◌, replicate}
use Rattle.program.proofs.jobs.budgets_of.Given as goal

-- The list has the budgets so far.
abbrev pub invariant-loop : goal.invariant-loop
invariant-loop l = l.budgets.items ≡ replicate l.counter l.budget
