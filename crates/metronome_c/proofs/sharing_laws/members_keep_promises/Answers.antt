use Rattle.std.proofs.Common.{rules}
use Rattle.metronome_c.proofs.Members.{promised}
use Rattle.metronome_c.proofs.sharing_laws.members_keep_promises.Goals as goal

pub returns-clause-same : goal.returns-clause-same
returns-clause-same c = (promised _ _ _ _ _ (λ h a k met. search rules) (λ v a w met. search rules) c.ask-asked.ensures).0

pub returns-clause-promised : goal.returns-clause-promised
returns-clause-promised c = (promised _ _ _ _ _ (λ h a k met. search rules) (λ v a w met. search rules) c.ask-asked.ensures).1
