use Rattle.std.proofs.Common.{true, rules}
use Rattle.plans.proofs.row.plan_line.Goals as goal

pub returns : goal.returns
returns c = let q = c.cycle_quanta-quanta.ensures.quanta (λ class. true) in search (rules, q)
