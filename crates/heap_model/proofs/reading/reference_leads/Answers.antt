use Rattle.heap_model.proofs.Readings.Shown.{leads as it0}
use Rattle.heap_model.proofs.Readings.Shown.{leads_back as it1}
use Rattle.heap_model.proofs.reading.reference_leads.Goals as goal

pub returns-clause-there : goal.returns-clause-there
returns-clause-there c = it0

pub returns-clause-back : goal.returns-clause-back
returns-clause-back c = it1
