use Rattle.std.proofs.Common.{◌∙◌, ap, Some}
use Rattle.graph_heap.specs.declared.command.Command.TheVariants as commands
use Rattle.metronome_c.proofs.Handles.{own_answers, makes_own}
use Rattle.metronome_c.proofs.metronome.Metronome.make.Goals as goal

pub returns : goal.returns
returns c =
    own_answers c.args.mutator (commands.New c.args.dst c.args.shape) c.args.self.now.check _ c.in-Own.heap _ _ (c.lend.ensures.value ∙ ap Some c.in-Own.is)
    (makes_own c.args.mutator (commands.New c.args.dst c.args.shape) c.in-Own.heap _ c.make.result _ c.make.ensures c.from_outcome.ensures)
