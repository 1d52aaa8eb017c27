use Rattle.heap_model.proofs.Alike.Effects.{same_effect as it}
use Rattle.heap_model.proofs.agreement.effects_are_same.Goals as goal

pub returns : goal.returns
returns c = it
