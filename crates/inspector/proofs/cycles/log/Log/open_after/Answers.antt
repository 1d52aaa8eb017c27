use Rattle.std.proofs.Common.{subst, ◌∙◌}
use Rattle.inspector.specs.Log.{IsOpenIn}
use Rattle.inspector.specs.Steps.{begins}
use Rattle.inspector.proofs.cycles.Stepping.{count_other}
use Rattle.inspector.proofs.cycles.Logging.{has_more}
use Rattle.inspector.proofs.cycles.log.Log.open_after.Goals as goal

pub returns-in-Some : goal.returns-in-Some
returns-in-Some c = λ steps s is other turn counted now.
    let closed = c.args.self.now.closed.items in
    let has = subst (IsOpenIn steps s.before closed) c.in-Some.is is in
    has_more steps s closed c.in-Some.cycle c.after.result has other (λ i. c.after.ensures has.earlier has.later has.first s has.begun i turn counted now)

pub returns-in-None : goal.returns-in-None
returns-in-None c = λ steps s is other turn counted now.
    let none = subst (IsOpenIn steps s.before c.args.self.now.closed.items) c.in-None.is is in
    (none.0, count_other begins steps s other ∙ none.1)
