use Rattle.std.proofs.Common.{sym, subst, rules, Some}
use Rattle.std.proofs.lemmas.List.Elements.{All-push}
use Rattle.std.specs.List.{All}
use Rattle.command_line.specs.Job.{IsWindow}
use Rattle.command_line.specs.Words.{IsNumber}
use Rattle.command_line.proofs.Found.{one_more}
use Rattle.command_line.proofs.words.windows_of.Goals as goal

pub loop-word-preserved : goal.loop-word-preserved
loop-word-preserved c = record {
  range = subst (All IsWindow) (sym (search rules)) (All-push IsWindow _ _ c.loop-word.invariant.range c.in_ok-within.ensures);
  each = one_more (λ word ticks. IsNumber 64 (Some word) (Some ticks)) c.args.words.now c.loop-word.word-index _ c.loop-word.windows.items c.push.new.self.items c.in-Ok.ticks (search rules) c.loop-word.invariant.each (search rules) c.in-Ok.ensures.value.0;
}
