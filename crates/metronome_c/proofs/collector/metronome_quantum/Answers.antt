use Rattle.std.proofs.Common.{rules}
use Rattle.machine.specs.Recorded.{quantum_done}
use Rattle.heap_shared.specs.Members.{DoesInTurn}
use Rattle.metronome_c.specs.Collecting.{SpendsTold, spent_told}
use Rattle.metronome_c.specs.Figures.{IsTold}
use Rattle.metronome_c.proofs.Asking.{asks_so}
use Rattle.metronome_c.proofs.Beginning.{spends_open}
use Rattle.metronome_c.proofs.Handles.{asked_either}
use Rattle.metronome_c.proofs.Members.{member_told}
use Rattle.metronome_c.proofs.collector.metronome_quantum.Goals as goal

pub returns : goal.returns
returns c =
    asked_either _ _ _ _ _ c.ask-found.result _
    (λ h k asked. spends_open c.args.budget c.ask-found.result c.args.outcome.now c.tell.new.told c.tell.result (search rules) h k (asks_so _ (λ x a y. SpendsTold x c.args.budget a y) (λ x a y met. search rules) h _ k asked))
    (λ v w asked. member_told (DoesInTurn (quantum_done c.args.budget)) spent_told (λ found. IsTold found c.args.outcome.now c.tell.new.told c.tell.result) c.ask-found.result (search rules) v w (asks_so _ _ (λ x a y met. search rules) v _ w asked))
    c.ask-found.ensures
