use Rattle.std.proofs.Common.{◌≡◌}
use Rattle.inspector.specs.ByRoot.{rows_below}
use Rattle.inspector.specs.Totals.{holding_at}
use Rattle.inspector.proofs.by_root.counting.rows_of.Given as goal

-- the rows of the roots so far
abbrev pub invariant-loop-root : goal.invariant-loop-root
invariant-loop-root l = l.rows.items ≡ rows_below (holding_at l.each) l.root
