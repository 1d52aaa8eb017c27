use Rattle.std.proofs.Common.{refl}
use Rattle.bulk.specs.InOrder.{by_heap}
use Rattle.bulk.proofs.Events.{are_events}
use Rattle.bulk.proofs.InOrder.{tells_all}
use Rattle.bulk.proofs.laws.bulk_calls_are_events.Goals as goal

pub returns-clause-events : goal.returns-clause-events
returns-clause-events c = λ r m cs rs p after w does. are_events m cs rs p.refused r r.heap after w refl does.order

pub returns-clause-all : goal.returns-clause-all
returns-clause-all c = λ h m. tells_all (by_heap m) h
