use Rattle.std.proofs.Common.{ap, ◌∙◌}
use Rattle.graph_heap.specs.declared.command.Limits.{Limits}
use Rattle.pictures.specs.Tables.{roots_table}
use Rattle.pictures.proofs.tables.roots_table.Goals as goal

pub returns : goal.returns
returns c =
    let counted = c.in_ok-counted.counted in (
      counted.rows.items,
      counted.all,
      c.in_ok-counted.ensures,
      c.in_ok-root_rows.ensures ∙ ap (λ (l : Limits). roots_table l c.as_slice.result.now) c.limits.ensures.limits ∙ ap (roots_table c.args.graph.now.limits) c.as_slice.ensures.value,
    )
