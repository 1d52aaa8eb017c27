use Rattle.machine.proofs.Headline.{always_holds}
use Rattle.machine.proofs.Space.{finds_space}
use Rattle.machine.proofs.laws.courses_are_promised.Goals as goal

pub returns : goal.returns
returns c r w = (always_holds r w, finds_space r)
