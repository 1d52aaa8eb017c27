use Rattle.std.proofs.Common.{◌≡◌, ◌≤◌, take, sum}
use Rattle.std.specs.List.{All}
use Rattle.heap_model.specs.Event.{IsBudget}
use Rattle.heap_server.proofs.workers.collect.Given as goal

-- the budgets so far were used
abbrev pub invariant-loop-budget : goal.invariant-loop-budget
invariant-loop-budget g l = record {
  used : l.used ≡ l.budget-index;
  allowed : All IsBudget (take l.used l.budgets);
  done : l.pacer.quanta ≡ l.used;
  begun : l.pacer.begun ≤ l.used;
  least : l.used ≤ l.pacer.spent;
  most : l.pacer.spent ≤ sum (take l.used l.budgets);
}
