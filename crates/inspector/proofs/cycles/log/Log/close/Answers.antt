use Rattle.std.proofs.Common.{sym, subst, ◌∙◌}
use Rattle.inspector.specs.Cycles.{AreCycles}
use Rattle.inspector.specs.Log.{IsOpenIn}
use Rattle.inspector.proofs.cycles.Logging.{is_closed, none_open}
use Rattle.inspector.proofs.cycles.log.Log.close.Goals as goal

pub returns-in-None-clause-cycles : goal.returns-in-None-clause-cycles
returns-in-None-clause-cycles c = λ steps now is heap. none_open steps now c.args.self.now.closed.items c.args.self.now.last c.in-None.is is.cycles

pub returns-in_ok-push-in-Some-clause-cycles : goal.returns-in_ok-push-in-Some-clause-cycles
returns-in_ok-push-in-Some-clause-cycles c = λ steps now is heap.
    let closed = c.args.self.now.closed.items in
    let has = subst (IsOpenIn steps now closed) c.in-Some.is is.cycles in
    subst (AreCycles steps) (sym c.in_ok-push-in-Some.ensures.items) (is_closed steps now closed c.in-Some.cycle c.closed.result has (λ earlier later first i ends. c.closed.ensures earlier later first i (λ none. ends none ∙ heap)))
