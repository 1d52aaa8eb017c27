use Rattle.std.proofs.Common.{true, rules}
use Rattle.plans.proofs.waits.room.Goals as goal

pub returns : goal.returns
returns c = let q = c.cycle_quanta.ensures.quanta (λ class. true) in search (rules, q)
