use Rattle.std.proofs.Common.{None, ap, ◌∙◌}
use Rattle.std.specs.Prelude.{position}
use Rattle.pages.specs.BitRow.{has_bit}
use Rattle.pages.specs.Index.{row_free}
use Rattle.pages.proofs.Indexing.{lowest_is, low_place}
use Rattle.pages.proofs.table.PageTable.first_free.Goals as goal

pub returns-clause-place : goal.returns-clause-place
returns-clause-place c =
    lowest_is row_free c.self.inside.rows.items None (has_bit c.self.inside.free) c.self.invariant.free_bits c.self.invariant.free_past
    c.first.result c.first.ensures.here c.first.ensures.first c.first.ensures.none ∙ ap (position row_free) c.self.view_is

pub returns-clause-within : goal.returns-clause-within
returns-clause-within c = low_place _ 1048576 (has_bit c.self.inside.free) c.self.invariant.free_past c.self.invariant.few c.first.result c.first.ensures.here
