use Rattle.heap_model.proofs.Store.Allocated.{store_pages}
use Rattle.heap_model.proofs.Action.Each.{action_kept as it}
use Rattle.heap_model.proofs.collection.actions_keep.Goals as goal

pub returns : goal.returns
returns c = λ h after cost p s w k a. it h after cost p s (store_pages h.store w) k a
