use Rattle.graph_heap.specs.declared.command.Command.TheVariants as commands
use Rattle.graph_heap.specs.declared.command.Reply.TheVariants as replies
use Rattle.machine.proofs.Effects.{describe_effect}
use Rattle.machine.proofs.Plans.{placed, reply_plans}
use Rattle.machine.proofs.heap.planning.describe.Goals as goal

pub returns : goal.returns
returns c g a =
    reply_plans c.args.heap.now g c.args.mutator (commands.Describe c.args.a) (replies.Described c.in_ok-found.found.id c.in_ok-found.found.shape) c.reply.result c.reply.ensures
    (describe_effect c.args.heap.now g a c.args.mutator c.args.a c.in_ok-root.root c.in_ok-found.found (placed c.heap.view_is c.args.mutator c.args.a c.in_ok-root.root c.in_ok-root.ensures.place) (c.in_ok-found.ensures.finds g a))
