use Rattle.std.proofs.Common.{◌≡◌, take, count_by}
use Rattle.pictures.specs.Refused.{makes}
use Rattle.pictures.proofs.refusals.made.Given as goal

-- the entries so far are counted
abbrev pub invariant-loop-entry : goal.invariant-loop-entry
invariant-loop-entry l = l.count ≡ count_by (makes) (take l.entry-index l.history)
