use Rattle.std.proofs.Common.{Some, ◌++◌, ◌∷◌, [], ap}
use Rattle.pictures.specs.declared.cycle_spans.CycleSpans.{CycleSpans}
use Rattle.pictures.specs.CycleSpans.{spans_of}
use Rattle.pictures.proofs.CycleSpans.{same_spans}
use Rattle.pictures.proofs.cycle_spans.CycleSpans.with.Goals as goal

pub returns : goal.returns
returns c = λ these so.
    let new : CycleSpans = record { whole = Some c.longer.result; roots = c.longer_in.result; marking = c.longer_in-2.result; sweeping = c.longer_in-3.result; moving = c.longer_in-4.result } in
    same_spans new (spans_of (these ++ (c.args.quantum.now, c.args.start.now) ∷ []))
    (c.longer.ensures these (ap (λ (s : CycleSpans). s.whole) so))
    (c.longer_in.ensures these (ap (λ (s : CycleSpans). s.roots) so))
    (c.longer_in-2.ensures these (ap (λ (s : CycleSpans). s.marking) so))
    (c.longer_in-3.ensures these (ap (λ (s : CycleSpans). s.sweeping) so))
    (c.longer_in-4.ensures these (ap (λ (s : CycleSpans). s.moving) so))
