use Rattle.arraylets.proofs.OneCell.{by_write, sets_word}
use Rattle.arraylets.proofs.cells.put.Goals as goal

pub returns-clause-words : goal.returns-clause-words
returns-clause-words c = λ object i is.
    sets_word c.args.nodes.now c.set_cell.new.self c.args.at c.args.word (by_write c.args.nodes.now c.set_cell.new.self c.args.at c.args.word c.requires c.set_cell.ensures.written) object i is
