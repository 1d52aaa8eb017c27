use Rattle.std.proofs.Common.{rules}
use Rattle.metronome_c.proofs.Checks.{checks_slot}
use Rattle.metronome_c.proofs.checking.metronome_check_slot.Goals as goal

pub returns : goal.returns
returns c = checks_slot c.args.mutator c.args.slot _ _ _ _ _ (λ h a met. search rules) c.inspect.ensures.same c.inspect.ensures.looks (search rules)
