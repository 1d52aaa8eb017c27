use Rattle.std.proofs.Common.{◌∙◌, ◌+◌, ◌-◌, length, take, drop, get_or, refl, arith}
use Rattle.graph_heap.specs.declared.command.Command.TheVariants as commands
use Rattle.graph_heap.specs.declared.command.Reply.TheVariants as replies
use Rattle.bulk.proofs.InOrder.{told_as}
use Rattle.bulk.proofs.Lists.{put_at}
use Rattle.bulk.proofs.Rows.{ends}
use Rattle.bulk.proofs.Runs.{number_in, number_first, does_on, word_behind, word_first}
use Rattle.bulk.proofs.words.put_words.Goals as goal

pub loop-done-preserved : goal.loop-done-preserved
loop-done-preserved g c =
    let i = c.loop-done.done in let fits = c.in-Ok.ensures.numbers in (
      omega (arith, fits),
      does_on (g.H.Commands.does c.args.mutator) (put_at c.args.obj c.args.first c.args.words.now) c.args.heap.now c.loop-done.heap i (λ k. commands.Put c.args.obj (c.saturating_add.result + k) (get_or (take (length c.args.words.now - i) (drop i c.args.words.now)) k 0)) c.in-Ok.more c.put_run.new.self
          (λ k b. let number = number_in c.args.first i c.in-Ok.more k c.saturating_add.result c.saturating_add.ensures fits.2 b in let word = word_behind c.args.words.now i k in λ t. commands.Put c.args.obj (number t) (word t)) c.loop-done.invariant.1 c.in-Ok.ensures.puts,
    )

pub returns-in-Err : goal.returns-in-Err
returns-in-Err g c =
    let i = c.loop-done.done in
    let number = number_first c.args.first i c.saturating_add.result c.saturating_add.ensures in let word = word_behind c.args.words.now i 0 ∙ word_first c.args.words.now i in
    told_as _ _ _ _ _ _ c.stopped.ensures
    (ends (g.H.Commands.does c.args.mutator) (put_at c.args.obj c.args.first c.args.words.now) c.args.heap.now c.loop-done.heap c.put_run.new.self i (commands.Put c.args.obj (c.saturating_add.result + 0) (get_or (take (length c.args.words.now - i) (drop i c.args.words.now)) 0 0)) (replies.Refused c.in-Err.why)
    (λ t. commands.Put c.args.obj (number t) (word t)) c.in-Err.ensures.puts (length c.args.words.now) c.in-Err.why (omega arith) c.loop-done.invariant.1 refl)
