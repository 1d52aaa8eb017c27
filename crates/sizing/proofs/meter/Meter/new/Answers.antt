use Rattle.std.proofs.Common.{ap, ◌∙◌, sym, refl}
use Rattle.graph_heap.specs.Graph.{opening}
use Rattle.sizing.proofs.Meters.Events.{opening_measures}
use Rattle.sizing.proofs.meter.Meter.new.Goals as goal

pub returns : goal.returns
returns c = λ h o e.
    let s = c.new-2.ensures in
    opening_measures h _ o (c.in_ok-new.ensures ∙ ap opening (sym e)) refl refl s.awaiting_sweep_end s.live s.since c.new-3.ensures c.none-nothing.ensures c.none-nothing.ensures c.none-nothing.ensures c.none-nothing.ensures
