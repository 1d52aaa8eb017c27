use Rattle.heap_model.proofs.Alike.Founded.{effect_founded as it}
use Rattle.heap_model.proofs.agreement.effects_are_founded.Goals as goal

pub returns : goal.returns
returns c = it
