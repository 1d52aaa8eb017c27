use Rattle.std.proofs.Common.{◌∙◌}
use Rattle.arraylets.proofs.OneCell.{ref_held}
use Rattle.arraylets.proofs.cells.load.Goals as goal

pub returns-clause-refs : goal.returns-clause-refs
returns-clause-refs c = λ object i is. c.cell.ensures ∙ ref_held c.args.nodes.now object i c.args.at is
