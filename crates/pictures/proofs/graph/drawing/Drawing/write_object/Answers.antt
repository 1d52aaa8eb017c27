use Rattle.std.proofs.Common.{◌≡◌, ℕ, List, [], ◌∷◌, ◌++◌, Some, refl}
use Rattle.std.proofs.lemmas.Result.{on_err_weaker, on_ok_weaker}
use Rattle.graph_heap.specs.declared.command.Shape.{Shape}
use Rattle.graph_heap.specs.Graph.{Graph, object_of}
use Rattle.pictures.specs.declared.graph.statement.Statement.TheVariants.{Object}
use Rattle.pictures.specs.Drawing.{shown_in}
use Rattle.pictures.specs.GraphDrawing.{cells_drawn, object_drawn}
use Rattle.pictures.specs.Statements.{dot_text}
use Rattle.pictures.proofs.graph.Drawn.{object_is}
use Rattle.pictures.proofs.Parts.{SoFar, at_err, none_yet, further, cut_short, to_last, in_last}
use Rattle.pictures.proofs.Lines.{dot_is}
use Rattle.pictures.proofs.graph.drawing.Drawing.write_object.Goals as goal

-- the line of an object is written, and its cells are to come
told : (graph : Graph) (shown : List ℕ) (id : ℕ) (shape : Shape) (refs old new : List ℕ) → shape ≡ (object_of graph.objects id).shape → refs ≡ (object_of graph.objects id).refs
    → new ≡ old ++ dot_text (Object id shape ∷ []) → SoFar dot_text old new (object_drawn graph shown id) (cells_drawn graph.limits shown (Some id) refs)
told graph shown id shape refs old new is row one = further dot_is old old _ _ (none_yet dot_is old _) _ _ (object_is graph shown id shape refs is row) new one

pub returns-in_err-write_line-clause-err : goal.returns-in_err-write_line-clause-err
returns-in_err-write_line-clause-err g c =
    let graph = c.args.self.now.graph.now in
    let is = object_is graph (shown_in c.args.self.now) c.args.id c.shape.result (object_of graph.objects c.args.id).refs c.shape.ensures refl in
    at_err c.from_residual.result _ (cut_short dot_is _ _ _ _ (none_yet dot_is _ _) _ _ is _ c.in_err-write_line.ensures.err)

pub returns-clause-ok : goal.returns-clause-ok
returns-clause-ok g c =
    let so = told c.args.self.now.graph.now (shown_in c.args.self.now) c.args.id c.shape.result c.refs.result.now _ _ c.shape.ensures c.refs.ensures c.in_ok-write_line.ensures.ok in
    on_ok_weaker c.write_cells.result (to_last dot_is _ _ _ _ so _) c.write_cells.ensures.ok

pub returns-clause-err : goal.returns-clause-err
returns-clause-err g c =
    let so = told c.args.self.now.graph.now (shown_in c.args.self.now) c.args.id c.shape.result c.refs.result.now _ _ c.shape.ensures c.refs.ensures c.in_ok-write_line.ensures.ok in
    on_err_weaker c.write_cells.result (in_last dot_is _ _ _ _ so _) c.write_cells.ensures.err
