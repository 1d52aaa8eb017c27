use Rattle.std.proofs.lemmas.Result.{on_err_weaker, on_ok_weaker}
use Rattle.pictures.proofs.Parts.{at_err}
use Rattle.pictures.proofs.graph.Document.{in_open, in_roots, in_objects, in_left_out, in_close, closed}
use Rattle.pictures.proofs.graph.drawing.Drawing.write.Goals as goal

pub returns-in_err-write_lines-clause-err : goal.returns-in_err-write_lines-clause-err
returns-in_err-write_lines-clause-err g c =
    at_err c.from_residual.result _
    (in_open c.args.self.now.graph.now c.args.self.now.most c.args.self.now.search.now.found _ _ c.in_err-write_lines.ensures.err)

pub returns-in_err-write_cells-clause-err : goal.returns-in_err-write_cells-clause-err
returns-in_err-write_cells-clause-err g c =
    at_err c.from_residual-in_err-write_cells.result _
    (in_roots c.args.self.now.graph.now c.args.self.now.most c.args.self.now.search.now.found _ _ c.in_ok-write_lines.ensures.ok _ c.args.self.now.row _ c.in_err-write_cells.ensures.err)

pub returns-in_err-write_objects-clause-err : goal.returns-in_err-write_objects-clause-err
returns-in_err-write_objects-clause-err g c =
    at_err c.from_residual-in_err-write_objects.result _
    (in_objects c.args.self.now.graph.now c.args.self.now.most c.args.self.now.search.now.found _ _ c.in_ok-write_lines.ensures.ok _ c.args.self.now.row _
    c.in_ok-write_cells.ensures.ok _ _ c.found-found.ensures c.min-count.ensures _ c.in_err-write_objects.ensures.err)

pub returns-in_err-write_left_out-clause-err : goal.returns-in_err-write_left_out-clause-err
returns-in_err-write_left_out-clause-err g c =
    at_err c.from_residual-in_err-write_left_out.result _
    (in_left_out c.args.self.now.graph.now c.args.self.now.most c.args.self.now.search.now.found _ _ c.in_ok-write_lines.ensures.ok _ c.args.self.now.row _
    c.in_ok-write_cells.ensures.ok _ _ c.found-found.ensures c.min-count.ensures _ c.in_ok-write_objects.ensures.ok _ c.saturating_sub.ensures _ c.in_err-write_left_out.ensures.err)

pub returns-clause-ok : goal.returns-clause-ok
returns-clause-ok g c =
    on_ok_weaker c.write_line.result
    (closed c.args.self.now.graph.now c.args.self.now.most c.args.self.now.search.now.found _ _ c.in_ok-write_lines.ensures.ok _ c.args.self.now.row _
    c.in_ok-write_cells.ensures.ok _ _ c.found-found.ensures c.min-count.ensures _ c.in_ok-write_objects.ensures.ok _ c.saturating_sub.ensures _ c.in_ok-write_left_out.ensures.ok _) c.write_line.ensures.ok

pub returns-clause-err : goal.returns-clause-err
returns-clause-err g c =
    on_err_weaker c.write_line.result
    (in_close c.args.self.now.graph.now c.args.self.now.most c.args.self.now.search.now.found _ _ c.in_ok-write_lines.ensures.ok _ c.args.self.now.row _
    c.in_ok-write_cells.ensures.ok _ _ c.found-found.ensures c.min-count.ensures _ c.in_ok-write_objects.ensures.ok _ c.saturating_sub.ensures _ c.in_ok-write_left_out.ensures.ok _) c.write_line.ensures.err
