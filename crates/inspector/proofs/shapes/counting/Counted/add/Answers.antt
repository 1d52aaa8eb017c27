use Rattle.std.proofs.Common.{rules, subst}
use Rattle.inspector.specs.Counted.{IsOfBlocks}
use Rattle.inspector.proofs.ShapeSums.{of_found}
use Rattle.inspector.proofs.shapes.counting.Counted.add.Goals as goal

pub with-requires-clause-before : goal.with-requires-clause-before
with-requires-clause-before c = subst (λ h. IsOfBlocks h 536870912) (search rules) (of_found _ 536870912 (c.requires.each c.cells_of-cells.result))
