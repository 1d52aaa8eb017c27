use Rattle.heap_model.proofs.Event.Kept.{opening_course, does_course, runs_course}
use Rattle.heap_model.proofs.events.events_keep.Goals as goal

pub returns : goal.returns
returns c = record { opening = opening_course; one = does_course; many = runs_course }
