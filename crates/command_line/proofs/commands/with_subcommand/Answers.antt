use Rattle.std.proofs.Common.{◌≡◌, Result, subst}
use Rattle.std.specs.Prelude.{IfOk}
use Rattle.std.proofs.lemmas.Result.{IfOk-weaker}
use Rattle.std.specs.declared.alloc.AllocError.{AllocError}
use Rattle.clap.specs.Words.{app_of}
use Rattle.clap.specs.declared.builder.command.Command.{Command}
use Rattle.command_line.specs.Program.{IsSubcommand}
use Rattle.command_line.proofs.Subcommands.{with_one}
use Rattle.command_line.proofs.commands.with_subcommand.Goals as goal

pub returns : goal.returns
returns c before shape plain told is =
    let old = subst (λ (r : Result Command AllocError). IfOk r (λ c. app_of c ≡ before)) c.in_ok-command.was told in
    let more = subst (λ (r : Result Command AllocError). IfOk r (IsSubcommand shape)) c.in_ok-more.was is in
    IfOk-weaker c.subcommand.result _ _ (λ new adds. with_one _ _ new before shape adds old more plain) c.subcommand.ensures
