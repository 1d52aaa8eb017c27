use Rattle.std.proofs.Common.{arith, refl}
use Rattle.trace.proofs.Feeds.{cut_off, cut_is_line}
use Rattle.trace.proofs.line_reader.LineReader.cut_line.Goals as goal

pub returns-in_default-clause-none : goal.returns-in_default-clause-none
returns-in_default-clause-none c = λ _. rw (← c.self.view_is) (c.in_default.ensures.none refl)

pub returns-then-self-eq1-clause-cut : goal.returns-then-self-eq1-clause-cut
returns-then-self-eq1-clause-cut c = λ _. rw (← c.self.view_is) (cut_off _ _ _ _ c.self.invariant.range (omega arith) c.in-Some.ensures.found)

pub returns-then-self-eq1-clause-line : goal.returns-then-self-eq1-clause-line
returns-then-self-eq1-clause-line c = λ _. cut_is_line _ _ _ _ c.self.invariant.range (omega arith) c.in-Some.ensures.found

pub returns-else-self-eq1-clause-cut : goal.returns-else-self-eq1-clause-cut
returns-else-self-eq1-clause-cut c = λ _. rw (← c.self.view_is) (cut_off _ _ _ _ c.self.invariant.range (omega arith) c.in-Some.ensures.found)

pub returns-else-self-eq1-clause-line : goal.returns-else-self-eq1-clause-line
returns-else-self-eq1-clause-line c = λ _. cut_is_line _ _ _ _ c.self.invariant.range (omega arith) c.in-Some.ensures.found
