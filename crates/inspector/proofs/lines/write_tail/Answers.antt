use Rattle.std.proofs.Common.{[], ◌∷◌, ◌++◌}
use Rattle.nodes.specs.Copies.{copies_in}
use Rattle.inspector.specs.Report.{roots_line, copies_line}
use Rattle.inspector.proofs.Parts.{at_err, err_so, part_first, part_after}
use Rattle.inspector.proofs.lines.write_tail.Goals as goal

pub returns-in_err-write_roots-clause-err : goal.returns-in_err-write_roots-clause-err
returns-in_err-write_roots-clause-err g c =
    let h = c.args.heap.now in
    at_err c.from_residual.result _
    (part_first (g.K.Sink.taken c.args.sink.now) (g.K.Sink.taken c.write_roots.new.sink) (roots_line h ++ 10 ∷ []) ((copies_line (copies_in h.store) ++ 10 ∷ []) ++ []) c.in_err-write_roots.ensures.err)

pub returns-clause-err : goal.returns-clause-err
returns-clause-err g c =
    err_so c.write_copies.result _ _
    (λ q. part_after _ _ _ (roots_line c.args.heap.now ++ 10 ∷ []) _ c.in_ok-write_roots.ensures.ok (part_first _ _ (copies_line (copies_in c.args.heap.now.store) ++ 10 ∷ []) [] q))
    c.write_copies.ensures.err
