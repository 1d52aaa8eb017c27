use Rattle.std.proofs.Common.{◌≡◌, drop}
use Rattle.pictures.specs.Drawing.{shown_in}
use Rattle.pictures.specs.GraphDrawing.{cell_drawn, cells_drawn}
use Rattle.pictures.specs.Lines.{each_from}
use Rattle.graph_heap.specs.Search.{holders}
use Rattle.pictures.specs.Statements.{dot_text}
use Rattle.pictures.proofs.Parts.{SoFar}
use Rattle.pictures.proofs.graph.drawing.Drawing.write_cells.Given as goal

-- the cells so far are written, and no call has failed
abbrev pub invariant-loop-cell : goal.invariant-loop-cell
invariant-loop-cell g l =
    let limits = l.self.graph.now.limits in
    let shown = shown_in l.self in
    record {
      written : SoFar dot_text (g.K.Sink.taken l.fn.sink) (g.K.Sink.taken l.sink) (cells_drawn limits shown l.object l.cells) (each_from (cell_drawn limits shown (holders l.object)) l.cell (drop l.cell l.cells));
      failures : g.K.Sink.failures l.sink ≡ g.K.Sink.failures l.fn.sink;
    }
