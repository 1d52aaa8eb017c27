use Rattle.paced.proofs.Deeds.{call_deed, alone_deed, paid_ahead, idle_deed}
use Rattle.paced.proofs.Paths.{calls_paced}
use Rattle.paced.proofs.laws.calls_are_deeds.Goals as goal

pub returns-clause-paced : goal.returns-clause-paced
returns-clause-paced c = calls_paced

pub returns-clause-call : goal.returns-clause-call
returns-clause-call c = call_deed

pub returns-clause-alone : goal.returns-clause-alone
returns-clause-alone c = alone_deed

pub returns-clause-ahead : goal.returns-clause-ahead
returns-clause-ahead c = paid_ahead

pub returns-clause-idle : goal.returns-clause-idle
returns-clause-idle c = idle_deed
