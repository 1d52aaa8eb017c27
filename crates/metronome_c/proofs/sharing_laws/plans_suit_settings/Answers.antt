use Rattle.metronome_c.proofs.Fitting.{plan_suits}
use Rattle.metronome_c.proofs.sharing_laws.plans_suit_settings.Goals as goal

pub returns : goal.returns
returns c = λ s live largest told before flow tells done none config is. plan_suits s config is told live largest before flow tells done
