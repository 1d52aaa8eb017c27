use Rattle.std.specs.Prelude.{◌-◌, ◌≤◌}
use Rattle.program.specs.Bounds.{AreBounds}
use Rattle.program.proofs.room.narrow.Given as goal

abbrev pub invariant-loop-found : goal.invariant-loop-found
invariant-loop-found l = AreBounds l.config l.text (record { below = l.below; found = l.found }) × (1 ≤ l.step)

abbrev pub decreases-loop-found : goal.decreases-loop-found
decreases-loop-found l = l.found.config.pages - l.below
