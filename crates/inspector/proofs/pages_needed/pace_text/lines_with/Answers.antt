use Rattle.std.proofs.Common.{◌*◌, ◌∙◌, Some, ap, rules}
use Rattle.size_classes.specs.declared.class.TheConstants.{CLASSES}
use Rattle.space.specs.Fitting.{pace_in, quanta_needed, pages_needed}
use Rattle.inspector.specs.declared.pages_needed.lines.Scope.TheVariants.{Pace as By_pace}
use Rattle.inspector.specs.ClassLines.{class_lines}
use Rattle.inspector.specs.NeededReport.{pace_line, quanta_line, pages_line, least_lines, IsPaceReport}
use Rattle.inspector.proofs.TextLines.{of_bytes, four_in_turn}
use Rattle.inspector.proofs.pages_needed.pace_text.lines_with.Goals as goal

pub returns : goal.returns
returns c =
    let k = c.args.config.now in
    let p = pace_in c.args.pace.now in
    of_bytes _ _ (IsPaceReport k (Some c.args.pace.now)) c.concat.ensures.ok (
      c.least_pages.result,
      c.fits_from.result,
      c.least_pages.ensures,
      c.fits_from.ensures,
      four_in_turn _ _ _ _ (class_lines (pace_line p) CLASSES) (quanta_line (quanta_needed k p k.pages) (k.collector_ticks * k.rate)) (pages_line By_pace (pages_needed k p k.pages) k.pages) (least_lines c.least_pages.result c.fits_from.result)
          (c.in_ok-class_lines.ensures (pace_line p) (λ class told low post. search rules))
          (c.in_ok-quanta_line.ensures ∙ ap (λ x. quanta_line x c.budget.result) c.pace_needs-needs.ensures.quanta ∙ ap (quanta_line (quanta_needed k p k.pages)) c.budget.ensures.budget)
          (c.in_ok-pages_line.ensures ∙ ap (λ x. pages_line By_pace x k.pages) c.pace_needs-needs.ensures.pages)
          c.in_ok-least_lines.ensures,
    )
