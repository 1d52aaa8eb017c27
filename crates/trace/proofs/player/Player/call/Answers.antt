use Rattle.std.proofs.Common.{subst, ◌∷◌, []}
use Rattle.std.specs.Prelude.{IfOk}
use Rattle.heap_model.specs.Event.{Command_done}
use Rattle.trace.specs.declared.line.Line.TheVariants as lines
use Rattle.trace.specs.Player.{PlayerState, player_of, DoesLine}
use Rattle.trace.proofs.Doing.{command_line}
use Rattle.trace.proofs.player.Player.call.Goals as goal

pub returns-clause-does : goal.returns-clause-does
returns-clause-does c =
    let p = player_of c.self.inside in
    subst (λ (x : PlayerState). IfOk c.call.result (λ r. DoesLine x (lines.Command c.args.mutator c.args.command) (Command_done c.args.mutator c.args.command r.entry.reply ∷ []) (record p { course = c.call.new.self.course }))) c.self.view_is
    (command_line p c.args.mutator c.args.command c.call.new.self.course c.call.result c.call.ensures.does)

pub returns-clause-entry : goal.returns-clause-entry
returns-clause-entry c = c.call.ensures.entry
