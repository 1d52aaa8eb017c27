use Rattle.std.proofs.Common.{◌∙◌, codes, string_bytes}
use Rattle.pictures.proofs.PageRows.{no_rows, one_row}
use Rattle.pictures.proofs.tables.pages_table.Goals as goal

pub loop-number-init : goal.loop-number-init
loop-number-init c = c.in_ok-text.ensures.ok ∙ no_rows c.args.heap.now.store.pages (codes "\"pages\":[[\"size\",\"allocated\",\"marks\"]")

pub loop-number-preserved : goal.loop-number-preserved
loop-number-preserved c =
    c.in_ok-push_str.ensures.bytes ∙ one_row c.args.heap.now.store.pages (codes "\"pages\":[[\"size\",\"allocated\",\"marks\"]") (string_bytes c.loop-number.text) c.as_str.result.now c.loop-number.number c.loop-number.invariant (c.as_str.ensures.value ∙ c.in_ok-page_row.ensures)
