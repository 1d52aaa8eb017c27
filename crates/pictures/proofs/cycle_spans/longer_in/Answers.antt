use Rattle.std.proofs.Common.{ap, ◌∙◌, sym}
use Rattle.pictures.specs.CycleSpans.{Turn, found_in, stretch}
use Rattle.pictures.proofs.CycleSpans.{found_there, found_elsewhere}
use Rattle.pictures.proofs.cycle_spans.longer_in.Goals as goal

pub returns-then-is_name : goal.returns-then-is_name
returns-then-is_name c = λ these so.
    let q : Turn = (c.args.quantum.now, c.args.start.now) in
    c.longer.ensures (found_in c.args.phase these) so ∙ ap stretch (sym (found_there c.args.phase these q (sym c.if-is_name.true ∙ c.is_name.ensures)))

pub returns-else-is_name : goal.returns-else-is_name
returns-else-is_name c = λ these so.
    let q : Turn = (c.args.quantum.now, c.args.start.now) in
    so ∙ ap stretch (sym (found_elsewhere c.args.phase these q (sym c.if-is_name.false ∙ c.is_name.ensures)))
