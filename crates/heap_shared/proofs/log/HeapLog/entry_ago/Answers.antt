use Rattle.std.proofs.Common.{◌≡◌, subst}
use Rattle.std.specs.Option.{option_map}
use Rattle.paced.specs.Logged.{event_of}
use Rattle.heap_shared.specs.Past.{LogView}
use Rattle.heap_shared.specs.Ring.{entry_ago}
use Rattle.heap_shared.proofs.Rings.{logged_ago}
use Rattle.heap_shared.proofs.log.HeapLog.entry_ago.Goals as goal

pub returns-clause-entry : goal.returns-clause-entry
returns-clause-entry c =
    subst (λ (x : LogView). option_map event_of c.entry_ago.result ≡ entry_ago x.kept x.past.events c.args.ago) c.self.view_is
    (logged_ago _ c.self.inside.past.value.events _ c.args.ago c.entry_ago.result c.self.invariant.0 c.entry_ago.ensures.entry)
