use Rattle.std.proofs.Common.{rules, ◌≡◌}
use Rattle.bulk.specs.Lists.{copies}
use Rattle.heap_shared.specs.Members.{CallsList}
use Rattle.metronome_c.specs.Asking.{told_by}
use Rattle.metronome_c.specs.BulkCalls.{progress_told, ListTold}
use Rattle.metronome_c.specs.Status.{not_done_status}
use Rattle.metronome_c.proofs.Asking.{asks_so}
use Rattle.metronome_c.proofs.Handles.{asked_either}
use Rattle.metronome_c.proofs.Members.{member_told}
use Rattle.metronome_c.proofs.Listing.{list_done}
use Rattle.metronome_c.proofs.bulk_calls.metronome_copy_refs.Goals as goal

pub returns-clause-few : goal.returns-clause-few
returns-clause-few c = λ few.
    let cs = (copies c.args.through c.args.from c.args.from_first c.args.to c.args.to_first c.args.count) in
    asked_either _ _ _ _ _ c.ask.result _
    (λ h k asked. list_done c.args.mutator cs c.ask.result c.from_outcome.result (search rules) h k (asks_so _ (λ x a y. ListTold x c.args.mutator cs a y) (λ x a y met. search rules) h _ k asked))
    (λ v w asked. member_told (λ x p y. CallsList x c.args.mutator cs p y) (told_by not_done_status) (λ p. c.from_outcome.result ≡ progress_told p) c.ask.result (search rules) v w (asks_so _ _ (λ x a y met. search rules) v _ w asked))
    c.ask.ensures
