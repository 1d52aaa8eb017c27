use Rattle.std.proofs.Common.{ap, ◌∙◌}
use Rattle.pictures.specs.Data.{cycles_table}
use Rattle.pictures.proofs.data.cycles_text.Goals as goal

pub returns : goal.returns
returns c =
    let cycles = c.in_ok-cycles.cycles in
    (cycles.items.items, λ run seen at. c.in_ok-cycles.ensures run.steps run.now seen at, c.in_ok-table.ensures ∙ ap cycles_table c.as_slice.ensures.value)
