use Rattle.heap_model.proofs.Store.Allocated.{store_pages}
use Rattle.heap_model.proofs.QuantumSpending.Quanta.{action_cost as it0}
use Rattle.heap_model.proofs.QuantumSpending.Quanta.{chain_units as it1}
use Rattle.heap_model.proofs.collection.turns_spend.Goals as goal

pub returns-clause-cost : goal.returns-clause-cost
returns-clause-cost c = λ h after cost w a. it0 h after cost (store_pages h.store w) a

pub returns-clause-spent : goal.returns-clause-spent
returns-clause-spent c = it1
