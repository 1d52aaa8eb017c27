-- The table, as the list of its records.
use Rattle.std.specs.Prelude.{List, Option}
use Rattle.pages.specs.declared.table.PageTable.TheInside.{Inside}
use Rattle.pages.specs.declared.page.PageRow.{PageRow}
use Rattle.pages.specs.Index.{IsIndex}

-- the records of a table, page by page
abbrev pub rows_in : Inside → List (Option PageRow)
rows_in t = t.rows.items

-- the invariant of a table: its rows of bits and its counts are those of its records
abbrev pub IsKept : Inside → Type 0
IsKept t = IsIndex t.rows.items t.usable.items t.free t.free_blocks.items t.free_pages
