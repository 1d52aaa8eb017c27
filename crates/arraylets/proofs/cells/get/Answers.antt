use Rattle.std.proofs.Common.{◌∙◌}
use Rattle.arraylets.proofs.OneCell.{word_held}
use Rattle.arraylets.proofs.cells.get.Goals as goal

pub returns-clause-words : goal.returns-clause-words
returns-clause-words c = λ object i is. c.cell.ensures ∙ word_held c.args.nodes.now object i c.args.at is
