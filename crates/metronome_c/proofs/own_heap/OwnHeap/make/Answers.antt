use Rattle.std.proofs.Common.{◌∙◌, sym, refl, arith}
use Rattle.paced.specs.Pacing.{shape_words}
use Rattle.metronome_c.proofs.Paying.{pays_nothing}
use Rattle.metronome_c.proofs.own_heap.OwnHeap.make.Goals as goal

pub returns : goal.returns
returns c = (c.args.self.now, pays_nothing c.args.self.now (shape_words c.args.shape) (sym c.is_some.ensures ∙ c.if-is_some.false), (refl, grind arith steps 200000))
