use Rattle.std.proofs.Common.{rules, ◌≡◌}
use Rattle.heap_shared.specs.Members.{ChangesIn}
use Rattle.heap_shared.specs.Ring.{TouchesBy}
use Rattle.metronome_c.specs.Asking.{status_of}
use Rattle.metronome_c.specs.Status.{status_number}
use Rattle.metronome_c.specs.Touching.{TouchesTold, touched_told}
use Rattle.metronome_c.proofs.Asking.{asks_so}
use Rattle.metronome_c.proofs.Handles.{asked_either}
use Rattle.metronome_c.proofs.Members.{member_told}
use Rattle.metronome_c.proofs.TouchedPages.{touches_open}
use Rattle.metronome_c.proofs.touching.metronome_touch.Goals as goal

pub returns : goal.returns
returns c =
    asked_either _ _ _ _ _ c.ask-found.result _
    (λ h k asked. touches_open c.args.pages c.ask-found.result c.number.result (search rules) h k (asks_so _ (λ x a y. TouchesTold x c.args.pages a y) (λ x a y met. search rules) h _ k asked))
    (λ v w asked. member_told (ChangesIn (TouchesBy c.args.pages)) touched_told (λ found. c.number.result ≡ status_number (status_of found)) c.ask-found.result (search rules) v w (asks_so _ _ (λ x a y met. search rules) v _ w asked))
    c.ask-found.ensures
