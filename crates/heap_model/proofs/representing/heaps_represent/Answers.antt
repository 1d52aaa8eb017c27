use Rattle.heap_model.proofs.Represents.{represents_opening, represents_begun, represents_action, represents_chain, represents_limit}
use Rattle.heap_model.proofs.representing.heaps_represent.Goals as goal

pub returns : goal.returns
returns c = record { opening = represents_opening; begun = represents_begun; action = represents_action; chain = represents_chain; limit = represents_limit }
