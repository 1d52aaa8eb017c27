use Rattle.graph_heap.specs.declared.command.Command.TheVariants as commands
use Rattle.graph_heap.specs.declared.command.Reply.TheVariants as replies
use Rattle.machine.proofs.Effects.{load_effect}
use Rattle.machine.proofs.Plans.{placed, root_plans, within}
use Rattle.machine.proofs.heap.planning.load.Goals as goal

pub referent_in_cell-value-requires : goal.referent_in_cell-value-requires
referent_in_cell-value-requires c g a = (_, c.args.i, (c.in_ok-at.ensures g a).1)

pub returns : goal.returns
returns c g a =
    let value = c.referent_in_cell-value.ensures g _ c.args.i a (c.in_ok-at.ensures g a).1 in
    root_plans c.args.heap.now g c.args.mutator (commands.Load c.args.dst c.args.obj c.args.i) (replies.Ref c.referent_in_cell-value.result.identity) c.in_ok-cell.cell _ c.referent_in_cell-value.result
    (load_effect c.args.heap.now g a c.args.mutator c.args.dst c.args.obj c.args.i c.in_ok-cell.cell c.in_ok-root.root c.in_ok-at.at c.referent_in_cell-value.result (placed c.heap.view_is c.args.mutator c.args.dst c.in_ok-cell.cell c.in_ok-cell.ensures.place) (placed c.heap.view_is c.args.mutator c.args.obj c.in_ok-root.root c.in_ok-root.ensures.place) (c.in_ok-at.ensures g a) value)
    (within c.heap.view_is c.in_ok-cell.cell c.in_ok-cell.ensures.within) value
