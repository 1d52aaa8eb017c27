use Rattle.heap_model.proofs.Marks.{taken_placed, taken_closed, unmarked_kept}
use Rattle.heap_model.proofs.mutator.taken_blocks_mark_no_page.Goals as goal

pub returns : goal.returns
returns c = record { placed = taken_placed; closed = taken_closed; unmarked = unmarked_kept }
