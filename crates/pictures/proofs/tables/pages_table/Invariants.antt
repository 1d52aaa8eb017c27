use Rattle.std.proofs.Common.{◌≡◌, ◌++◌, string_bytes, codes}
use Rattle.pictures.specs.Tables.{page_rows}
use Rattle.pictures.proofs.tables.pages_table.Given as goal

-- the pages so far
abbrev pub invariant-loop-number : goal.invariant-loop-number
invariant-loop-number l = string_bytes l.text ≡ codes "\"pages\":[[\"size\",\"allocated\",\"marks\"]" ++ page_rows l.heap.store.pages l.number
