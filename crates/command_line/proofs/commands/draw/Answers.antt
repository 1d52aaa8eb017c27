use Rattle.std.proofs.Common.{codes}
use Rattle.std.proofs.lemmas.Result.{IfOk-weaker}
use Rattle.command_line.specs.Program.{word}
use Rattle.command_line.proofs.Subcommands.{defaulted, with_argument}
use Rattle.command_line.proofs.commands.draw.Goals as goal

pub returns : goal.returns
returns c =
    let name = defaulted c.word.result c.by_default.result (codes "page") (word (codes "as")) c.by_default.ensures c.word.ensures in
    let with_name = with_argument c.in_ok-on_trace.field-0 c.in_ok-arg.field-0 c.by_default.result _ _ c.in_ok-arg.ensures c.in_ok-on_trace.ensures name in
    let with_after = with_argument c.in_ok-arg.field-0 c.in_ok-arg-2.field-0 c.after.result _ _ c.in_ok-arg-2.ensures with_name c.after.ensures in
    let with_most = with_argument c.in_ok-arg-2.field-0 c.in_ok-arg-3.field-0 c.figure.result _ _ c.in_ok-arg-3.ensures with_after c.figure.ensures in
    let with_live = with_argument c.in_ok-arg-3.field-0 c.in_ok-arg-4.field-0 c.long_figure.result _ _ c.in_ok-arg-4.ensures with_most c.long_figure.ensures in
    IfOk-weaker c.arg-5.result _ _ (λ command h. with_argument c.in_ok-arg-4.field-0 command c.word-2.result _ _ h with_live c.word-2.ensures) c.arg-5.ensures
