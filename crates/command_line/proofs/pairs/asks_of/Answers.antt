use Rattle.std.proofs.Common.{sym, subst, rules}
use Rattle.std.proofs.lemmas.List.Elements.{All-push}
use Rattle.std.specs.List.{All}
use Rattle.command_line.specs.Job.{MayBeAsked}
use Rattle.command_line.specs.Words.{AreAsked}
use Rattle.command_line.proofs.Found.{one_more}
use Rattle.command_line.proofs.pairs.asks_of.Goals as goal

pub loop-word-preserved : goal.loop-word-preserved
loop-word-preserved c = record {
  range = subst (All MayBeAsked) (sym (search rules)) (All-push MayBeAsked _ c.in_ok-asked.asked c.loop-word.invariant.range c.in_ok-asked.ensures.range);
  said = one_more AreAsked c.args.words.now c.loop-word.word-index _ c.loop-word.asks.items c.push.new.self.items c.in_ok-asked.asked (search rules) c.loop-word.invariant.said (search rules) c.in_ok-asked.ensures.said;
}
