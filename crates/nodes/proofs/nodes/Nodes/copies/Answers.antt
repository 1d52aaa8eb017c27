use Rattle.nodes.proofs.Counting.{none_below}
use Rattle.nodes.proofs.nodes.Nodes.copies.Goals as goal

pub loop-page-init : goal.loop-page-init
loop-page-init c = none_below c.args.self.now
