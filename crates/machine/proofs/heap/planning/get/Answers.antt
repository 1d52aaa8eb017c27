use Rattle.graph_heap.specs.declared.command.Command.TheVariants as commands
use Rattle.graph_heap.specs.declared.command.Reply.TheVariants as replies
use Rattle.machine.proofs.Effects.{get_effect}
use Rattle.machine.proofs.Plans.{placed, reply_plans}
use Rattle.machine.proofs.heap.planning.get.Goals as goal

pub word_in-requires : goal.word_in-requires
word_in-requires c g a = (_, c.args.i, (c.in_ok-at.ensures g a).1)

pub returns : goal.returns
returns c g a =
    reply_plans c.args.heap.now g c.args.mutator (commands.Get c.args.obj c.args.i) (replies.Word c.word_in.result) c.reply.result c.reply.ensures
    (get_effect c.args.heap.now g a c.args.mutator c.args.obj c.args.i c.in_ok-root.root c.word_in.result c.in_ok-at.at (placed c.heap.view_is c.args.mutator c.args.obj c.in_ok-root.root c.in_ok-root.ensures.place) (c.in_ok-at.ensures g a) (c.word_in.ensures g _ c.args.i a (c.in_ok-at.ensures g a).1))
