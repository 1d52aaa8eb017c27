use Rattle.heap_model.proofs.Readings.Shown.{copy_main as it0}
use Rattle.heap_model.proofs.Readings.Shown.{main_copy as it1}
use Rattle.heap_model.proofs.reading.main_copies.Goals as goal

pub returns-clause-there : goal.returns-clause-there
returns-clause-there c = it0

pub returns-clause-back : goal.returns-clause-back
returns-clause-back c = it1
