use Rattle.graph_heap.specs.declared.command.Command.TheVariants as commands
use Rattle.graph_heap.specs.declared.command.Reply.TheVariants as replies
use Rattle.machine.proofs.Effects.{copy_effect}
use Rattle.machine.proofs.Plans.{placed, root_plans, within}
use Rattle.machine.proofs.heap.planning.copy.Goals as goal

pub returns : goal.returns
returns c g a =
    let value = c.in_ok-value.ensures.names g a in
    rw c.done.ensures
    (root_plans c.args.heap.now g c.args.mutator (commands.Copy c.args.dst c.args.src) replies.Done c.in_ok-cell.cell _ c.in_ok-value.value
    (copy_effect c.args.heap.now g a c.args.mutator c.args.dst c.args.src c.in_ok-cell.cell value.cell (placed c.heap.view_is c.args.mutator c.args.dst c.in_ok-cell.cell c.in_ok-cell.ensures.place) value.place) (within c.heap.view_is c.in_ok-cell.cell c.in_ok-cell.ensures.within) value.names)
