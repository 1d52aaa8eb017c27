use Rattle.std.proofs.Common.{◌++◌, ap, ◌∙◌}
use Rattle.std.specs.Prelude.{string_bytes}
use Rattle.plans.specs.Objects.{group_line}
use Rattle.plans.proofs.Lines.{lines_more}
use Rattle.plans.proofs.objects.group_lines.Goals as goal

pub loop-group-preserved : goal.loop-group-preserved
loop-group-preserved c =
    let told = c.in_ok-push_str.ensures.bytes ∙ ap (λ z. string_bytes c.loop-group.text ++ z) c.as_str.ensures.value in
    lines_more group_line c.args.groups.now c.loop-group.group-index _ (string_bytes c.loop-group.text) _ (string_bytes c.in_ok-line.line) c.loop-group-test.true c.loop-group.invariant told c.in_ok-line.ensures
