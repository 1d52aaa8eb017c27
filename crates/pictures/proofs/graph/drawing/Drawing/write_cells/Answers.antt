use Rattle.std.proofs.Common.{get_or, ap, ◌∙◌, sym, refl, arith}
use Rattle.std.proofs.lemmas.List.{drop_all}
use Rattle.pictures.specs.Drawing.{shown_in}
use Rattle.pictures.specs.GraphDrawing.{holder_drawn, cell_drawn}
use Rattle.pictures.specs.Lines.{each_from}
use Rattle.graph_heap.specs.Search.{holders}
use Rattle.pictures.proofs.graph.Drawn.{cell_hidden, cell_shown}
use Rattle.pictures.proofs.Parts.{at_err, none, none_yet, further, cut_short, all_of}
use Rattle.pictures.proofs.Lines.{dot_is, each_on}
use Rattle.pictures.proofs.graph.drawing.Drawing.write_cells.Goals as goal
use Rattle.pictures.proofs.graph.drawing.Drawing.write_cells.Goals.{then-shows+in_ok-write_holder, else-shows}

pub loop-cell-init : goal.loop-cell-init
loop-cell-init g c = record { written = none_yet dot_is _ _; failures = refl }

pub returns-in_err-write_holder-clause-err : goal.returns-in_err-write_holder-clause-err
returns-in_err-write_holder-clause-err g c =
    let limits = c.args.self.now.graph.now.limits in
    let shown = shown_in c.args.self.now in
    let id = get_or c.args.cells.now c.loop-cell.cell 0 in
    let here = cell_shown limits shown (holders c.args.object) c.loop-cell.cell id (sym c.shows.ensures ∙ c.if-shows.true) ∙ ap (λ h. holder_drawn limits h id) (sym c.holder.ensures) in
    let on = each_on (cell_drawn limits shown (holders c.args.object)) c.args.cells.now 0 id c.loop-cell.cell _ c.loop-cell-test.true refl (sym here) in
    at_err c.from_residual.result _ (cut_short dot_is _ _ _ _ c.loop-cell.invariant.written _ _ on _ c.in_err-write_holder.ensures.err)

pub loop-cell-preserved : goal.loop-cell-preserved
loop-cell-preserved g c =
    let limits = c.args.self.now.graph.now.limits in
    let shown = shown_in c.args.self.now in
    let id = get_or c.args.cells.now c.loop-cell.cell 0 in
    elim c.if-shows.branch [
      | then-shows+in_ok-write_holder w ↦
          (let here = cell_shown limits shown (holders c.args.object) c.loop-cell.cell id (sym c.shows.ensures ∙ w.if-shows.true) ∙ ap (λ h. holder_drawn limits h id) (sym w.holder.ensures) in
          let on = each_on (cell_drawn limits shown (holders c.args.object)) c.args.cells.now 0 id c.loop-cell.cell _ c.loop-cell-test.true refl (sym here) in
          record {
            written = further dot_is _ _ _ _ c.loop-cell.invariant.written _ _ on _ (ap g.K.Sink.taken w.sink-is ∙ w.in_ok-write_holder.ensures.ok);
            failures = omega (arith, ap g.K.Sink.failures w.sink-is, w.in_ok-write_holder.ensures.cause, c.loop-cell.invariant.failures);
          })
      | else-shows w ↦
          (let here = cell_hidden limits shown (holders c.args.object) c.loop-cell.cell id (sym c.shows.ensures ∙ w.if-shows.false) in
          let on = each_on (cell_drawn limits shown (holders c.args.object)) c.args.cells.now 0 id c.loop-cell.cell _ c.loop-cell-test.true refl (sym here) in
          record {
            written = further dot_is _ _ _ _ c.loop-cell.invariant.written _ _ on _ (ap g.K.Sink.taken w.sink-is ∙ none dot_is _);
            failures = ap g.K.Sink.failures w.sink-is ∙ c.loop-cell.invariant.failures;
          })
    ]

pub returns-clause-ok : goal.returns-clause-ok
returns-clause-ok g c =
    all_of _ _ _ _ c.loop-cell.invariant.written
    (ap (each_from (cell_drawn c.args.self.now.graph.now.limits (shown_in c.args.self.now) (holders c.args.object)) c.loop-cell.cell) (drop_all c.loop-cell.cell c.args.cells.now c.loop-cell-test.false))
