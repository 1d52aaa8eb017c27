use Rattle.fragmentation.proofs.Suffice.PageDemands.{page_demand_suffices as it}
use Rattle.fragmentation.proofs.page_demand_suffices.Goals as goal

pub returns : goal.returns
returns c = it
