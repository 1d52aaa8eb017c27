use Rattle.std.proofs.Common.{rules}
use Rattle.heap_shared.specs.Members.{FindsEntry}
use Rattle.metronome_c.specs.declared.status.Status.TheVariants.{NotShared}
use Rattle.metronome_c.specs.Entry.{entry_told}
use Rattle.metronome_c.specs.Figures.{IsTold}
use Rattle.metronome_c.proofs.Asking.{asks_so}
use Rattle.metronome_c.proofs.Handles.{asked_either}
use Rattle.metronome_c.proofs.Members.{member_told, kept_so}
use Rattle.metronome_c.proofs.entry.metronome_entry.Goals as goal

pub returns : goal.returns
returns c =
    asked_either _ _ _ _ _ c.ask-found.result _
    (λ h k asked. kept_so NotShared c.ask-found.result c.args.entry.now c.tell.new.told c.tell.result (search rules) h k (asks_so _ _ (λ x a y met. search rules) h _ k asked))
    (λ v w asked. member_told (FindsEntry c.args.place) entry_told (λ found. IsTold found c.args.entry.now c.tell.new.told c.tell.result) c.ask-found.result (search rules) v w (asks_so _ _ (λ x a y met. search rules) v _ w asked))
    c.ask-found.ensures
