use Rattle.std.proofs.Common.{sym, subst, rules}
use Rattle.std.proofs.lemmas.List.Elements.{All-push}
use Rattle.std.specs.List.{All}
use Rattle.command_line.specs.Job.{AreObjects}
use Rattle.command_line.specs.Words.{AreObjectsOf}
use Rattle.command_line.proofs.Found.{one_more}
use Rattle.command_line.proofs.pairs.objects_of.Goals as goal

pub loop-word-preserved : goal.loop-word-preserved
loop-word-preserved c = record {
  range = subst (All AreObjects) (sym (search rules)) (All-push AreObjects _ _ c.loop-word.invariant.range c.in_ok-group.ensures.range);
  said = one_more AreObjectsOf c.args.words.now c.loop-word.word-index _ c.loop-word.groups.items c.push.new.self.items c.in_ok-group.group (search rules) c.loop-word.invariant.said (search rules) c.in_ok-group.ensures.said;
}
