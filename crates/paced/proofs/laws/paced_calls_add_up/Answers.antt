use Rattle.paced.proofs.Paths.{paced_none, paced_then}
use Rattle.paced.proofs.laws.paced_calls_add_up.Goals as goal

pub returns-clause-none : goal.returns-clause-none
returns-clause-none c = paced_none

pub returns-clause-both : goal.returns-clause-both
returns-clause-both c = paced_then
