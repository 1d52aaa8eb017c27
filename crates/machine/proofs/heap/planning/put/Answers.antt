use Rattle.graph_heap.specs.declared.command.Command.TheVariants as commands
use Rattle.graph_heap.specs.declared.command.Reply.TheVariants as replies
use Rattle.machine.proofs.Effects.{put_effect}
use Rattle.machine.proofs.Plans.{placed, word_plans}
use Rattle.machine.proofs.heap.planning.put.Goals as goal

pub returns : goal.returns
returns c g a =
    rw c.done.ensures
    (word_plans c.args.heap.now g c.args.mutator (commands.Put c.args.obj c.args.i c.args.word) replies.Done _ c.args.i c.args.word c.in_ok-at.at
    (put_effect c.args.heap.now g a c.args.mutator c.args.obj c.args.i c.args.word c.in_ok-root.root c.in_ok-at.at (placed c.heap.view_is c.args.mutator c.args.obj c.in_ok-root.root c.in_ok-root.ensures.place) (c.in_ok-at.ensures g a)) (c.in_ok-at.ensures g a))
