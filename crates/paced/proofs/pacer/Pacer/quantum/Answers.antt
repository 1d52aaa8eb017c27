use Rattle.std.proofs.Common.{Ok}
use Rattle.paced.proofs.Paths.{quantum_paced}
use Rattle.paced.proofs.pacer.Pacer.quantum.Goals as goal

pub returns-clause-counted : goal.returns-clause-counted
returns-clause-counted c = c.count_quantum.ensures c.in_ok-spent.spent.units c.in_ok-spent.spent.phase

pub returns-clause-paced : goal.returns-clause-paced
returns-clause-paced c =
    quantum_paced c.args.self.now c.count_quantum.new.self c.args.heap.now c.quantum.new.heap c.args.budget (Ok c.in_ok-spent.spent) c.in_ok-spent.ensures.spends
    (c.count_quantum.ensures c.in_ok-spent.spent.units c.in_ok-spent.spent.phase)
