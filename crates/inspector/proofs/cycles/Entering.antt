-- The entries since a moment, and the figures of a sweep.
use Rattle.std.proofs.Common.{◌≡◌, drop, refl}
use Rattle.std.specs.Prelude.{Option, Some, None}
use Rattle.heap_model.specs.Event.{Course}
use Rattle.inspector.specs.Made.{entered_since}
use Rattle.inspector.specs.Log.{place_at}

entered : (o : Option Course) (r : Course) → drop (place_at o) r.history ≡ entered_since o r
entered None r = refl
entered (Some earlier) r = refl
