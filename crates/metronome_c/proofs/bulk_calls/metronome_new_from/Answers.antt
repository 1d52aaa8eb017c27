use Rattle.std.proofs.Common.{rules, ◌≡◌}
use Rattle.graph_heap.specs.declared.command.Shape.TheVariants as shapes
use Rattle.bulk.specs.Lists.{makes}
use Rattle.paced.specs.Pacing.{shape_words}
use Rattle.heap_shared.specs.Members.{CallsList}
use Rattle.metronome_c.specs.Asking.{told_by}
use Rattle.metronome_c.specs.BulkCalls.{progress_told, MakesTold}
use Rattle.metronome_c.specs.Status.{not_done_status}
use Rattle.metronome_c.proofs.Asking.{asks_so}
use Rattle.metronome_c.proofs.Handles.{asked_either}
use Rattle.metronome_c.proofs.Members.{member_told}
use Rattle.metronome_c.proofs.Listing.{list_made}
use Rattle.metronome_c.proofs.bulk_calls.metronome_new_from.Goals as goal

pub returns-clause-few : goal.returns-clause-few
returns-clause-few c = λ few.
    let m = c.args.mutator in let shape = shapes.Plain c.args.refs c.args.words in let cs = makes c.args.dst shape c.args.slots.now c.args.contents.now in
    asked_either _ _ _ _ _ c.ask.result _
    (λ h k asked. list_made (shape_words shape) m cs c.ask.result c.from_outcome.result (search rules) h k (asks_so _ (λ x a y. MakesTold x (shape_words shape) m cs a y) (λ x a y met. search rules) h _ k asked))
    (λ v w asked. member_told (λ x p y. CallsList x c.args.mutator cs p y) (told_by not_done_status) (λ p. c.from_outcome.result ≡ progress_told p) c.ask.result (search rules) v w (asks_so _ _ (λ x a y met. search rules) v _ w asked))
    c.ask.ensures
