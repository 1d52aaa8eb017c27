use Rattle.std.proofs.Common.{◌≡◌, ◌++◌}
use Rattle.inspector.specs.NeededReport.{needed_told, room_line}
use Rattle.inspector.proofs.TextLines.{of_bytes}
use Rattle.inspector.proofs.pages_needed.Rows.{two_lines}
use Rattle.inspector.proofs.pages_needed.needed_text.needed_report.Goals as goal

pub returns : goal.returns
returns c =
    let k = c.args.config.now in
    let needed = c.args.needed.now in
    let found = c.args.found.now in
    of_bytes _ _ (λ bytes. bytes ≡ needed_told k needed ++ room_line found) c.concat.ensures.ok
    (two_lines _ _ (needed_told k needed) (room_line found) c.in_ok-told_of.ensures c.in_ok-room_line.ensures)
