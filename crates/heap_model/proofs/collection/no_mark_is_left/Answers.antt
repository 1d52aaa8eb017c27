use Rattle.std.proofs.Common.{subst}
use Rattle.heap_model.specs.Marks.{AreClosed}
use Rattle.heap_model.proofs.Marks.{no_mark as it}
use Rattle.heap_model.proofs.collection.no_mark_is_left.Goals as goal

pub returns : goal.returns
returns c = λ h page block closed e l k. it h.store.pages page (subst (AreClosed h.store.pages) e closed) l k
