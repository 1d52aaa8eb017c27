use Rattle.std.proofs.Common.{ap, ◌∙◌}
use Rattle.graph_heap.specs.Graph.{Graph, Object, object_of}
use Rattle.graph_heap.specs.Stored.{object_in}
use Rattle.graph_heap.proofs.Reaching.{object_found, no_object_found}
use Rattle.graph_heap.proofs.reference.Reference.refs.Goals as goal

pub returns-in-Ok : goal.returns-in-Ok
returns-in-Ok c =
    c.as_slice.ensures.value ∙ ap (λ (o : Object). o.refs) (object_found c.self.inside.objects c.args.id (object_in c.in-Ok.object.now) c.in-Ok.ensures)
    ∙ ap (λ (g : Graph). (object_of g.objects c.args.id).refs) c.self.view_is

pub returns-in-Err : goal.returns-in-Err
returns-in-Err c =
    ap (λ (o : Object). o.refs) (no_object_found c.self.inside.objects c.args.id c.in-Err.field-0 c.in-Err.ensures)
    ∙ ap (λ (g : Graph). (object_of g.objects c.args.id).refs) c.self.view_is
