use Rattle.std.proofs.Common.{◌∙◌, sym}
use Rattle.pictures.proofs.CycleSpans.{stretch_longer}
use Rattle.pictures.proofs.cycle_spans.longer.Goals as goal

pub returns-in-Some : goal.returns-in-Some
returns-in-Some c = λ these so. stretch_longer these (c.args.quantum.now, c.args.start.now) c.in-Some.span (sym so ∙ c.in-Some.is)
