use Rattle.std.proofs.Common.{arith}
use Rattle.pages.proofs.Telling.{length-pages}
use Rattle.nodes.proofs.Touching.{untouched_free}
use Rattle.nodes.proofs.nodes.Nodes.pages_touched.Goals as goal

pub returns-clause-within : goal.returns-clause-within
returns-clause-within c = omega (arith, c.pages_touched.ensures, c.self.invariant.0.together.within, length-pages c.self.inside.table c.self.inside.arena.words, c.self.invariant.0.whole.few)

pub returns-clause-free : goal.returns-clause-free
returns-clause-free c = λ page past. untouched_free _ _ c.self.view_is c.self.invariant.0.whole page (omega (arith, past, c.pages_touched.ensures))
