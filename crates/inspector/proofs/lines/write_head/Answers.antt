use Rattle.std.proofs.Common.{[], ◌∷◌, ◌++◌}
use Rattle.inspector.specs.Report.{phase_line, units_line, pages_line}
use Rattle.inspector.proofs.Parts.{at_err, err_so, part_first, part_after}
use Rattle.inspector.proofs.lines.write_head.Goals as goal

pub returns-in_err-write_phase-clause-err : goal.returns-in_err-write_phase-clause-err
returns-in_err-write_phase-clause-err g c =
    let h = c.args.heap.now in
    at_err c.from_residual.result _
    (part_first (g.K.Sink.taken c.args.sink.now) (g.K.Sink.taken c.write_phase.new.sink) (phase_line h ++ 10 ∷ []) ((units_line h ++ 10 ∷ []) ++ ((pages_line h ++ 10 ∷ []) ++ [])) c.in_err-write_phase.ensures.err)

pub returns-in_err-write_units-clause-err : goal.returns-in_err-write_units-clause-err
returns-in_err-write_units-clause-err g c =
    let h = c.args.heap.now in
    let t0 = g.K.Sink.taken c.args.sink.now in
    let t1 = g.K.Sink.taken c.write_phase.new.sink in
    let t2 = g.K.Sink.taken c.write_units.new.sink in
    at_err c.from_residual-in_err-write_units.result _
    (part_after t0 t1 t2 (phase_line h ++ 10 ∷ []) ((units_line h ++ 10 ∷ []) ++ ((pages_line h ++ 10 ∷ []) ++ [])) c.in_ok-write_phase.ensures.ok
    (part_first t1 t2 (units_line h ++ 10 ∷ []) ((pages_line h ++ 10 ∷ []) ++ []) c.in_err-write_units.ensures.err))

pub returns-clause-err : goal.returns-clause-err
returns-clause-err g c =
    let h = c.args.heap.now in
    let t0 = g.K.Sink.taken c.args.sink.now in
    let t1 = g.K.Sink.taken c.write_phase.new.sink in
    let t2 = g.K.Sink.taken c.write_units.new.sink in
    let t3 = g.K.Sink.taken c.write_pages.new.sink in
    err_so c.write_pages.result _ _
    (λ q. part_after t0 t1 t3 (phase_line h ++ 10 ∷ []) ((units_line h ++ 10 ∷ []) ++ ((pages_line h ++ 10 ∷ []) ++ [])) c.in_ok-write_phase.ensures.ok
    (part_after t1 t2 t3 (units_line h ++ 10 ∷ []) ((pages_line h ++ 10 ∷ []) ++ []) c.in_ok-write_units.ensures.ok (part_first t2 t3 (pages_line h ++ 10 ∷ []) [] q)))
    c.write_pages.ensures.err
