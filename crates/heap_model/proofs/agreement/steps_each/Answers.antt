use Rattle.heap_model.proofs.Alike.Effects.{step_each as it}
use Rattle.heap_model.proofs.agreement.steps_each.Goals as goal

pub returns : goal.returns
returns c = it
