use Rattle.std.proofs.Common.{◌≡◌, true, false}
use Rattle.heap_model.specs.Pages.{page_at}
use Rattle.nodes.proofs.Seeing.{none_seen}
use Rattle.nodes.proofs.nodes.Nodes.block.Goals as goal

pub returns-in-None : goal.returns-in-None
returns-in-None c = none_seen c.args.self.now c.args.page c.args.index (page_at c.args.self.now.pages c.args.page) (λ h. (let z : false ≡ true = c.in-None.ensures.allocated.1 h in cc))
