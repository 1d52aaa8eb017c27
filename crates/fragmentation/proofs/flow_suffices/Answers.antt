use Rattle.fragmentation.proofs.Flows.Suffices.{flow_suffices as it}
use Rattle.fragmentation.proofs.flow_suffices.Goals as goal

pub returns : goal.returns
returns c = it
