use Rattle.trace.proofs.Cutting.{one_cutting}
use Rattle.trace.proofs.laws.one_cutting.Goals as goal

pub returns : goal.returns
returns c = one_cutting
