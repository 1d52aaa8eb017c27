use Rattle.std.proofs.Common.{◌≡◌, subst}
use Rattle.std.specs.Option.{option_map}
use Rattle.paced.specs.Logged.{event_of}
use Rattle.heap_shared.specs.Ring.{Ringed, entry_ago}
use Rattle.heap_shared.proofs.shared_heap.SharedHeap.entry_ago.Goals as goal

pub returns-clause-entry : goal.returns-clause-entry
returns-clause-entry c =
    subst (λ (x : Ringed). option_map event_of c.entry_ago.result ≡ entry_ago x.ring x.events c.args.ago) c.self.view_is c.entry_ago.ensures.entry
