use Rattle.std.proofs.Common.{ap, ◌∙◌, sym}
use Rattle.heap_model.specs.State.{seen}
use Rattle.nodes.specs.HeapFields.{state_of}
use Rattle.marker.specs.declared.scan.Scan.{Scan}
use Rattle.marker.proofs.Scanning.{width_there}
use Rattle.marker.proofs.scan.scan_at.Goals as goal

pub returns-then-part-eq0 : goal.returns-then-part-eq0
returns-then-part-eq0 c =
    ap (λ w. let s : Scan = record { part = c.args.part; cell = c.args.cell; width = w } in s) (sym (ap (seen (state_of c.args.heap.now)).width c.if-part-eq0.true))

pub returns : goal.returns
returns c =
    ap (λ w. let s : Scan = record { part = c.args.part; cell = c.args.cell; width = w } in s) (c.width-width.ensures ∙ sym (width_there c.args.heap.now c.args.part c.if-part-eq0.false))
