use Rattle.std.proofs.Common.{◌≡◌, rules}
use Rattle.inspector.specs.NeededReport.{blocks_line, needed_report}
use Rattle.inspector.proofs.TextLines.{of_bytes}
use Rattle.inspector.proofs.pages_needed.Rows.{whole_report}
use Rattle.inspector.proofs.pages_needed.needed_text.needed_lines.Goals as goal

pub returns : goal.returns
returns c =
    let n = c.args.needed.now in
    of_bytes _ _ (λ bytes. bytes ≡ needed_report c.args.config.now n) c.concat.ensures.ok
    (whole_report n c.args.config.now c.still-still.result c.moved-moved.result c.budgeted.result c.fewest.result c.pages_in.result c.still-still.ensures.pages c.moved-moved.ensures c.budgeted.ensures c.fewest.ensures c.pages_in.ensures
    _ _ _ _ (c.in_ok-class_lines.ensures (blocks_line n) (λ class told low post. search rules)) c.in_ok-form_lines.ensures c.in_ok-fewest_line.ensures c.in_ok-pages_line.ensures)
