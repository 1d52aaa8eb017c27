use Rattle.graph_heap.specs.declared.command.Command.TheVariants as commands
use Rattle.graph_heap.specs.declared.command.Reply.TheVariants as replies
use Rattle.machine.proofs.Effects.{load_static_effect}
use Rattle.machine.proofs.Plans.{placed, placed_static, root_plans, within}
use Rattle.machine.proofs.heap.planning.load_static.Goals as goal

pub returns : goal.returns
returns c g a =
    root_plans c.args.heap.now g c.args.mutator (commands.LoadStatic c.args.dst c.args.k) (replies.Ref c.referent-referent.result.identity) c.in_ok-cell.cell _ c.referent-referent.result
    (load_static_effect c.args.heap.now g a c.args.mutator c.args.dst c.args.k c.in_ok-cell.cell c.in_ok-source.source c.referent-referent.result (placed c.heap.view_is c.args.mutator c.args.dst c.in_ok-cell.cell c.in_ok-cell.ensures.place) (placed_static c.heap.view_is c.args.k c.in_ok-source.source c.in_ok-source.ensures.place) (c.referent-referent.ensures g a)) (within c.heap.view_is c.in_ok-cell.cell c.in_ok-cell.ensures.within) (c.referent-referent.ensures g a)
