use Rattle.graph_heap.specs.declared.command.Command.TheVariants as commands
use Rattle.graph_heap.specs.declared.command.Reply.TheVariants as replies
use Rattle.machine.proofs.Effects.{store_static_effect}
use Rattle.machine.proofs.Plans.{placed_static, root_plans, within}
use Rattle.machine.proofs.heap.planning.store_static.Goals as goal

pub returns : goal.returns
returns c g a =
    let value = c.in_ok-value.ensures.names g a in
    rw c.done.ensures
    (root_plans c.args.heap.now g c.args.mutator (commands.StoreStatic c.args.k c.args.src) replies.Done c.in_ok-cell.cell _ c.in_ok-value.value
    (store_static_effect c.args.heap.now g a c.args.mutator c.args.k c.args.src value.cell c.in_ok-cell.cell value.place (placed_static c.heap.view_is c.args.k c.in_ok-cell.cell c.in_ok-cell.ensures.place)) (within c.heap.view_is c.in_ok-cell.cell c.in_ok-cell.ensures.within) value.names)
