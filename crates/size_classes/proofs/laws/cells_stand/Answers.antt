use Rattle.size_classes.specs.Parts.{pieces_of, spines_of, part_in, column_in}
use Rattle.size_classes.proofs.Cutting.{pieces_are, spines_are, cell_stands, stands_cell}
use Rattle.size_classes.proofs.laws.cells_stand.Goals as goal

pub returns-clause-to : goal.returns-clause-to
unfolding part_in column_in
returns-clause-to c n i l = cell_stands n (pieces_of n) (spines_of n) (pieces_are n) (spines_are n) i l

pub returns-clause-from : goal.returns-clause-from
unfolding part_in column_in
returns-clause-from c n p k l m d = stands_cell n (pieces_of n) (spines_of n) (pieces_are n) (spines_are n) p k l m d
