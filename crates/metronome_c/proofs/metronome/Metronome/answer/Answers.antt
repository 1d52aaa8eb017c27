use Rattle.std.proofs.Common.{rules, ◌∙◌, ap, Some, refl}
use Rattle.metronome_c.proofs.Handles.{own_answers, steps_own}
use Rattle.metronome_c.proofs.metronome.Metronome.answer.Goals as goal

pub returns : goal.returns
returns g c =
    let m = c.args.mutator in let command = c.command-command.result in (
      command,
      search rules,
      own_answers m command c.args.self.now.check _ c.in-Own.heap _ _ (c.lend.ensures.value ∙ ap Some c.in-Own.is)
          (steps_own m command c.in-Own.heap _ c.own.result _ (c.requires.nothing command (search rules)) refl (c.requires.does command (search rules) c.in-Own.heap.heap c.own.result c.own.new.arg2 (search rules)) c.from_outcome.ensures),
    )
