use Rattle.std.proofs.Common.{codes}
use Rattle.std.proofs.lemmas.Result.{IfOk-weaker}
use Rattle.command_line.specs.Program.{figure, place}
use Rattle.command_line.proofs.Subcommands.{defaulted, on_this_file, with_argument}
use Rattle.command_line.proofs.commands.threads.Goals as goal

pub returns : goal.returns
returns c =
    let on_scripts = on_this_file c.in_ok-on_file.field-0 c.place-file.result (codes "threads") (place (codes "SCRIPTS")) c.in_ok-on_file.ensures c.place-file.ensures in
    let turns = defaulted c.figure.result c.by_default.result (codes "100") (figure (codes "turns")) c.by_default.ensures c.figure.ensures in
    let budget = defaulted c.figure-2.result c.by_default-2.result (codes "256") (figure (codes "budget")) c.by_default-2.ensures c.figure-2.ensures in
    let with_turns = with_argument c.in_ok-on_file.field-0 c.in_ok-arg.field-0 c.by_default.result _ _ c.in_ok-arg.ensures on_scripts turns in
    IfOk-weaker c.arg-2.result _ _ (λ command h. with_argument c.in_ok-arg.field-0 command c.by_default-2.result _ _ h with_turns budget) c.arg-2.ensures
