use Rattle.std.proofs.Common.{rules}
use Rattle.heap_shared.specs.Members.{PreparesIn}
use Rattle.metronome_c.specs.Asking.{told_by}
use Rattle.metronome_c.specs.Figures.{IsTold}
use Rattle.metronome_c.specs.Preparing.{PreparesHeld, not_prepared_status}
use Rattle.metronome_c.proofs.Asking.{asks_so}
use Rattle.metronome_c.proofs.Handles.{asked_either}
use Rattle.metronome_c.proofs.Members.{member_told}
use Rattle.metronome_c.proofs.Preparations.{prepares_open}
use Rattle.metronome_c.proofs.preparing.metronome_prepare.Goals as goal

pub returns : goal.returns
returns c =
    asked_either _ _ _ _ _ c.ask-found.result _
    (λ h k asked. prepares_open c.args.words c.ask-found.result c.args.left.now c.tell.new.told c.tell.result (search rules) h k (asks_so _ (λ x a y. PreparesHeld x c.args.words a y) (λ x a y met. search rules) h _ k asked))
    (λ v w asked. member_told (λ x a y. PreparesIn x c.args.words a y) (told_by not_prepared_status) (λ found. IsTold found c.args.left.now c.tell.new.told c.tell.result) c.ask-found.result (search rules) v w (asks_so _ _ (λ x a y met. search rules) v _ w asked))
    c.ask-found.ensures
