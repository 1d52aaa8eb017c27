use Rattle.std.proofs.Common.{rules, ◌∙◌, ap, Some}
use Rattle.metronome_c.proofs.Handles.{own_asked}
use Rattle.metronome_c.proofs.metronome.Metronome.ask.Goals as goal

pub returns-then-is_own : goal.returns-then-is_own
returns-then-is_own g c = own_asked _ _ c.args.self.now.check _ c.in-Own.heap c.own.new.arg2 c.own.result (c.lend.ensures.value ∙ ap Some c.in-Own.is) (search rules)
