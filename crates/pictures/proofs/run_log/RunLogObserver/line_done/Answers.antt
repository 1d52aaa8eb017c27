use Rattle.std.proofs.Common.{◌∷◌, [], ◌++◌, ◌∙◌, ap, subst, sym, arith}
use Rattle.std.proofs.lemmas.Result.{on_ok_weaker}
use Rattle.heap_model.specs.Event.{Course}
use Rattle.trace.specs.Observing.{moment}
use Rattle.pictures.specs.Sampler.{IsAlong}
use Rattle.pictures.proofs.Noting.{on_err}
use Rattle.pictures.proofs.run_log.RunLogObserver.line_done.Goals as goal

pub line_done-requires : goal.line_done-requires
line_done-requires c = (c.requires.0, c.requires.1.1, c.requires.2)

pub event-requires : goal.event-requires
event-requires c =
    let run = c.requires.0 in
    let few = c.requires.2 in
    (moment 0 run.first.heap ∷ run.moments, c.requires.1.0, omega (arith, few))

pub returns-clause-seen : goal.returns-clause-seen
returns-clause-seen c =
    let number = c.args.number in
    on_ok_weaker c.event.result
    (λ along run seen now. (
      subst (λ h. IsAlong ((moment 0 run.first.heap ∷ run.moments) ++ moment number h ∷ []) c.event.new.self) (c.heap.ensures.heap ∙ ap (λ (r : Course). r.heap) (sym now)) (along (moment 0 run.first.heap ∷ run.moments) seen.0),
      c.in_ok-line_done.ensures.seen run seen.1 now,
      seen.2,
    ))
    c.event.ensures

pub returns-clause-err : goal.returns-clause-err
returns-clause-err c = on_err c.event.result
