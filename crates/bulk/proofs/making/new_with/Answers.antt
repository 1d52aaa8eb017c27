use Rattle.graph_heap.specs.declared.command.Command.TheVariants as commands
use Rattle.bulk.specs.InOrder.{by_heap}
use Rattle.bulk.specs.Lists.{fills}
use Rattle.bulk.proofs.Filling.{follows_list}
use Rattle.bulk.proofs.making.new_with.Goals as goal

pub returns : goal.returns
returns c =
    follows_list (by_heap c.args.mutator) c.args.heap.now c.make-made.new.self c.fill_made.new.heap (commands.New c.args.dst c.args.shape) c.make-made.result (fills c.args.dst c.args.refs.now c.args.words.now) c.fill_made.result c.make-made.ensures c.fill_made.ensures
