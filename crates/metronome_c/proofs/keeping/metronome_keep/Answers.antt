use Rattle.std.proofs.Common.{rules}
use Rattle.metronome_c.specs.declared.status.Status.TheVariants.{IsShared}
use Rattle.metronome_c.specs.Keeping.{KeepsTold}
use Rattle.metronome_c.proofs.Asking.{asks_so}
use Rattle.metronome_c.proofs.Handles.{asked_either}
use Rattle.metronome_c.proofs.Kept.{keeps_open}
use Rattle.metronome_c.proofs.Members.{refused_so}
use Rattle.metronome_c.proofs.keeping.metronome_keep.Goals as goal

pub returns : goal.returns
returns c =
    asked_either _ _ _ _ _ c.ask-found.result _
    (λ h k asked. keeps_open c.args.flow.now c.ask-found.result c.number.result (search rules) h k (asks_so _ (λ x a y. KeepsTold x c.args.flow.now a y) (λ x a y met. search rules) h _ k asked))
    (λ v w asked. refused_so IsShared c.ask-found.result c.number.result (search rules) v w (asks_so _ _ (λ x a y met. search rules) v _ w asked))
    c.ask-found.ensures
