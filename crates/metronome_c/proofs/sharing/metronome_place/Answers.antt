use Rattle.std.proofs.Common.{rules}
use Rattle.heap_shared.specs.Members.{Places}
use Rattle.metronome_c.specs.declared.status.Status.TheVariants.{Inside, NotShared}
use Rattle.metronome_c.specs.Asking.{told_or}
use Rattle.metronome_c.specs.Figures.{IsTold}
use Rattle.metronome_c.proofs.Asking.{asks_so}
use Rattle.metronome_c.proofs.Handles.{asked_either}
use Rattle.metronome_c.proofs.Members.{member_told, kept_so}
use Rattle.metronome_c.proofs.sharing.metronome_place.Goals as goal

pub returns : goal.returns
returns c =
    asked_either _ _ _ _ _ c.ask-found.result _
    (λ h k asked. kept_so NotShared c.ask-found.result c.args.place.now c.tell.new.told c.tell.result (search rules) h k (asks_so _ _ (λ x a y met. search rules) h _ k asked))
    (λ v w asked. member_told Places (told_or Inside) (λ found. IsTold found c.args.place.now c.tell.new.told c.tell.result) c.ask-found.result (search rules) v w (asks_so _ _ (λ x a y met. search rules) v _ w asked))
    c.ask-found.ensures
