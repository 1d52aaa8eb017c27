use Rattle.std.proofs.Common.{◌≡◌, drop}
use Rattle.pictures.specs.Drawing.{shown_in}
use Rattle.pictures.specs.GraphDrawing.{objects_drawn}
use Rattle.pictures.specs.Statements.{dot_text}
use Rattle.pictures.proofs.Parts.{SoFar}
use Rattle.pictures.proofs.graph.drawing.Drawing.write_objects.Given as goal

-- the objects so far are written, and no call has failed
abbrev pub invariant-loop-object : goal.invariant-loop-object
invariant-loop-object g l =
    let graph = l.self.graph.now in
    let shown = shown_in l.self in
    record {
      written : SoFar dot_text (g.K.Sink.taken l.fn.sink) (g.K.Sink.taken l.sink) (objects_drawn graph shown l.objects) (objects_drawn graph shown (drop l.object-index l.objects));
      failures : g.K.Sink.failures l.sink ≡ g.K.Sink.failures l.fn.sink;
    }
