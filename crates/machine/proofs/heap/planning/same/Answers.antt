use Rattle.graph_heap.specs.declared.command.Command.TheVariants as commands
use Rattle.graph_heap.specs.declared.command.Reply.TheVariants as replies
use Rattle.std.proofs.Common.{refl}
use Rattle.machine.proofs.Effects.{same_effect}
use Rattle.machine.proofs.Plans.{reply_plans}
use Rattle.machine.proofs.heap.planning.same.Goals as goal

pub returns : goal.returns
returns c g a =
    let x = c.in_ok-first.ensures.names g a in let y = c.in_ok-second.ensures.names g a in
    reply_plans c.args.heap.now g c.args.mutator (commands.Same c.args.a c.args.b) (replies.Is _) c.reply.result c.reply.ensures
    (same_effect c.args.heap.now g a c.args.mutator c.args.a c.args.b x.cell y.cell c.in_ok-first.first c.in_ok-second.second _ x.place y.place x.names y.names refl)
