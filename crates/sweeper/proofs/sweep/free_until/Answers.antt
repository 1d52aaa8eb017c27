use Rattle.std.proofs.Common.{inl, inr, arith}
use Rattle.std.proofs.lemmas.Bool.{cases_lt}
use Rattle.sweeper.proofs.sweep.free_until.Goals as goal

pub returns-else-page-last-clause-free : goal.returns-else-page-last-clause-free
returns-else-page-last-clause-free c = λ k from below. elim (cases_lt k c.loop-page.page) [
  | inl l ↦ c.loop-page.invariant.2 k from l
  | inr l ↦ c.pages_touched.ensures.free k (omega (arith, l, below, c.if-page-last.false, c.min-last.ensures))
]
