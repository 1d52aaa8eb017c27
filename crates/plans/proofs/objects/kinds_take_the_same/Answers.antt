use Rattle.plans.proofs.SameCells.{kinds_alike}
use Rattle.plans.proofs.objects.kinds_take_the_same.Goals as goal

pub returns : goal.returns
returns c = λ shape fits. kinds_alike shape fits
