use Rattle.paced.specs.Pacing.{KeepsPlan}
use Rattle.paced.proofs.Running.{path_runs}
use Rattle.paced.proofs.laws.paced_events_run.Goals as goal

pub returns : goal.returns
returns c = λ r old new es w at path. path_runs KeepsPlan es r old new w at path
