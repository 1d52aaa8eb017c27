use Rattle.heap_model.proofs.Bound.{chain_limit}
use Rattle.heap_model.proofs.representing.limits_stay.Goals as goal

pub returns : goal.returns
returns c = chain_limit
