use Rattle.std.proofs.Common.{take}
use Rattle.inspector.specs.Totals.{AreTotals}
use Rattle.inspector.proofs.by_root.counting.sums_of.Given as goal

-- the objects so far are counted
abbrev pub invariant-loop-object : goal.invariant-loop-object
invariant-loop-object l = AreTotals l.graph l.roots (take l.object-index l.owned) l.totals
