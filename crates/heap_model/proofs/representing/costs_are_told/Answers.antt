use Rattle.heap_model.proofs.QuantumSpending.Costs.{action_costs, one_cost, cost_high}
use Rattle.heap_model.proofs.representing.costs_are_told.Goals as goal

pub returns-clause-action : goal.returns-clause-action
returns-clause-action c = action_costs

pub returns-clause-one : goal.returns-clause-one
returns-clause-one c = one_cost

pub returns-clause-high : goal.returns-clause-high
returns-clause-high c = λ h cost p s w n. cost_high h cost w.pages n
