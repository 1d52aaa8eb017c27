use Rattle.std.proofs.lemmas.Result.{err_from_is_err_and}
use Rattle.graph_heap.specs.declared.command.Command.TheVariants as commands
use Rattle.graph_heap.specs.declared.command.Reply.TheVariants as replies
use Rattle.machine.proofs.Effects.{store_effect, store_refused}
use Rattle.machine.proofs.Plans.{placed, ref_plans}
use Rattle.machine.proofs.heap.planning.store.Goals as goal

pub returns : goal.returns
returns c g a =
    let value = c.in_ok-value.ensures.names g a in
    rw c.done.ensures
    (ref_plans c.args.heap.now g c.args.mutator (commands.Store c.args.obj c.args.i c.args.src) replies.Done _ c.args.i _ c.in_ok-at.at c.in_ok-value.value
    (store_effect c.args.heap.now g a c.args.mutator c.args.obj c.args.i c.args.src c.in_ok-root.root value.cell c.in_ok-at.at (placed c.heap.view_is c.args.mutator c.args.obj c.in_ok-root.root c.in_ok-root.ensures.place) value.place (c.in_ok-at.ensures g a))
    (c.in_ok-at.ensures g a) value.names)

pub returns-in_err-at : goal.returns-in_err-at
returns-in_err-at c g a =
    let p = err_from_is_err_and c.from_residual-in_err-at.result c.from_residual-in_err-at.ensures.1 in
    let value = c.in_ok-value.ensures.names g a in
    rw (p.1, p.2) (store_refused c.args.heap.now g a c.args.mutator c.args.obj c.args.i c.args.src c.in_ok-root.root value.cell _ (placed c.heap.view_is c.args.mutator c.args.obj c.in_ok-root.root c.in_ok-root.ensures.place) value.place (c.in_err-at.ensures g a))
