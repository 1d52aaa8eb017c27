use Rattle.std.proofs.lemmas.Result.{IfOk-weaker}
use Rattle.command_line.proofs.Subcommands.{with_argument}
use Rattle.command_line.proofs.commands.plan.Goals as goal

pub returns : goal.returns
returns c =
    let with_live = with_argument c.in_ok-on_config.field-0 c.in_ok-arg.field-0 c.long_figure.result _ _ c.in_ok-arg.ensures c.in_ok-on_config.ensures c.long_figure.ensures in
    let with_objects = with_argument c.in_ok-arg.field-0 c.in_ok-arg-2.field-0 c.words.result _ _ c.in_ok-arg-2.ensures with_live c.words.ensures in
    let with_largest = with_argument c.in_ok-arg-2.field-0 c.in_ok-arg-3.field-0 c.long_figure-2.result _ _ c.in_ok-arg-3.ensures with_objects c.long_figure-2.ensures in
    let with_classes = with_argument c.in_ok-arg-3.field-0 c.in_ok-arg-4.field-0 c.figures.result _ _ c.in_ok-arg-4.ensures with_largest c.figures.ensures in
    IfOk-weaker c.arg-5.result _ _ (λ command h. with_argument c.in_ok-arg-4.field-0 command c.words-2.result _ _ h with_classes c.words-2.ensures) c.arg-5.ensures
