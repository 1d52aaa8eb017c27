use Rattle.graph_heap.specs.declared.command.Command.TheVariants as commands
use Rattle.graph_heap.specs.declared.command.Reply.TheVariants as replies
use Rattle.machine.proofs.Effects.{stored_word_effect, kept_word_effect}
use Rattle.machine.proofs.Plans.{placed, reply_plans, word_plans}
use Rattle.machine.proofs.heap.planning.compare_put.Goals as goal

pub word_in-word-requires : goal.word_in-word-requires
word_in-word-requires c g a = (_, c.args.i, (c.in_ok-at.ensures g a).1)

pub returns : goal.returns
returns c g a =
    word_plans c.args.heap.now g c.args.mutator (commands.ComparePut c.args.obj c.args.i c.args.old c.args.new) replies.Stored _ c.args.i c.args.new c.in_ok-at.at
    (stored_word_effect c.args.heap.now g a c.args.mutator c.args.obj c.args.i c.args.old c.args.new c.in_ok-root.root c.word_in-word.result c.in_ok-at.at (placed c.heap.view_is c.args.mutator c.args.obj c.in_ok-root.root c.in_ok-root.ensures.place) (c.in_ok-at.ensures g a) (c.word_in-word.ensures g _ c.args.i a (c.in_ok-at.ensures g a).1) c.if-word-old.false) (c.in_ok-at.ensures g a)

pub returns-then-word-old : goal.returns-then-word-old
returns-then-word-old c g a =
    reply_plans c.args.heap.now g c.args.mutator (commands.ComparePut c.args.obj c.args.i c.args.old c.args.new) (replies.KeptWord c.word_in-word.result) c.reply.result c.reply.ensures
    (kept_word_effect c.args.heap.now g a c.args.mutator c.args.obj c.args.i c.args.old c.args.new c.in_ok-root.root c.word_in-word.result c.in_ok-at.at (placed c.heap.view_is c.args.mutator c.args.obj c.in_ok-root.root c.in_ok-root.ensures.place) (c.in_ok-at.ensures g a) (c.word_in-word.ensures g _ c.args.i a (c.in_ok-at.ensures g a).1) c.if-word-old.true)
