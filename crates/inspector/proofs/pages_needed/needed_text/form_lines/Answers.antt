use Rattle.std.proofs.Common.{◌≡◌}
use Rattle.inspector.specs.NeededReport.{still_line, moved_line, gathered_line, page_demand_line, form_lines}
use Rattle.inspector.proofs.TextLines.{of_bytes, four_lines}
use Rattle.inspector.proofs.pages_needed.needed_text.form_lines.Goals as goal

pub returns : goal.returns
returns c =
    let n = c.args.needed.now in
    of_bytes _ _ (λ bytes. bytes ≡ form_lines c.args.still c.args.moved c.args.budgeted n) c.concat.ensures.ok
    (four_lines _ _ _ _ (still_line c.args.still) (moved_line c.args.moved) (gathered_line n.gathered) (page_demand_line c.args.budgeted n) c.in_ok-still_line.ensures c.in_ok-moved_line.ensures c.in_ok-gathered_line.ensures c.in_ok-page_demand_line.ensures)
