use Rattle.std.proofs.Common.{◌++◌, ap, ◌∙◌}
use Rattle.std.specs.Prelude.{string_bytes}
use Rattle.plans.specs.Waits.{waits_line}
use Rattle.plans.proofs.Lines.{lines_more}
use Rattle.plans.proofs.waits.waits_lines.Goals as goal

pub loop-asked-preserved : goal.loop-asked-preserved
loop-asked-preserved c =
    let told = c.in_ok-push_str.ensures.bytes ∙ ap (λ z. string_bytes c.loop-asked.text ++ z) c.as_str.ensures.value in
    lines_more (waits_line c.args.config.now c.args.live_words c.in-Some.plan) c.args.asks.now c.loop-asked.asked-index _ (string_bytes c.loop-asked.text) _ (string_bytes c.in_ok-line.line) c.loop-asked-test.true c.loop-asked.invariant told c.in_ok-line.ensures
