use Rattle.std.proofs.Common.{◌≡◌, take, count_by}
use Rattle.pictures.specs.Refused.{is_refused}
use Rattle.pictures.proofs.refusals.count_of.Given as goal

-- the entries so far are counted
abbrev pub invariant-loop-entry : goal.invariant-loop-entry
invariant-loop-entry l = l.count ≡ count_by (is_refused l.number) (take l.entry-index l.history)
