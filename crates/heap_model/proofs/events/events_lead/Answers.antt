use Rattle.heap_model.proofs.ReachedFrom.{reached_opening, reached_more, reached_course}
use Rattle.heap_model.proofs.events.events_lead.Goals as goal

pub returns : goal.returns
returns c = record { opening = reached_opening; more = reached_more; course = reached_course }
