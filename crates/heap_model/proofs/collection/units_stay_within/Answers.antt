use Rattle.heap_model.proofs.Store.Allocated.{store_pages}
use Rattle.heap_model.proofs.Spent.Actions.{begun_within as it0}
use Rattle.heap_model.proofs.Spent.Actions.{within_kept as it1}
use Rattle.heap_model.proofs.Spent.Actions.{limit_kept as it2}
use Rattle.heap_model.proofs.collection.units_stay_within.Goals as goal

pub returns-clause-begun : goal.returns-clause-begun
returns-clause-begun c = it0

pub returns-clause-action : goal.returns-clause-action
returns-clause-action c = λ h after cost p s some w k i a. it1 h after cost p s some (store_pages h.store w) k i a

pub returns-clause-limit : goal.returns-clause-limit
returns-clause-limit c = λ h p s some w k i. it2 h p s some (store_pages h.store w) k i
