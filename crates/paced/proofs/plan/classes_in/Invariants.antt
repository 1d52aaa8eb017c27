use Rattle.paced.specs.Rooms.{among}
use Rattle.paced.proofs.Classes.{IsCount}
use Rattle.paced.proofs.plan.classes_in.Given as goal

-- the classes so far that are among them
abbrev pub invariant-loop-number : goal.invariant-loop-number
invariant-loop-number l = IsCount (among l.used) l.number l.count
