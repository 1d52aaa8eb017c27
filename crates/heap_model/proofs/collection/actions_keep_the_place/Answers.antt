use Rattle.heap_model.proofs.Store.Allocated.{store_pages}
use Rattle.heap_model.proofs.Marks.{action_pages, action_count, action_placed, action_closed}
use Rattle.heap_model.proofs.collection.actions_keep_the_place.Goals as goal

pub returns : goal.returns
returns c = record { store = store_pages; pages = action_pages; count = action_count; placed = action_placed; closed = action_closed; begun = λ h. (tt, tt) }
