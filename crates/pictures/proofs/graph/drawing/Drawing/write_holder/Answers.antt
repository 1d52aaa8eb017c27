use Rattle.std.proofs.Common.{◌≡◌, List, ◌++◌, ap, ◌∙◌, sym, subst}
use Rattle.std.specs.Prelude.{OnOk, OnErr}
use Rattle.trace.specs.Streams.{GrowsByPart}
use Rattle.graph_heap.specs.declared.command.Limits.{Limits}
use Rattle.pictures.specs.declared.graph.statement.Statement.{Statement}
use Rattle.inspector.specs.Roots.{root_at}
use Rattle.pictures.specs.GraphDrawing.{holder_drawn}
use Rattle.pictures.specs.Statements.{dot_text}
use Rattle.pictures.proofs.graph.Drawn.{root_is}
use Rattle.pictures.proofs.graph.drawing.Drawing.write_holder.Goals as goal

pub returns-in-Root-clause-ok : goal.returns-in-Root-clause-ok
returns-in-Root-clause-ok g c =
    let All : List Statement → Type 0 = λ xs. OnOk c.write_lines.result (g.K.Sink.taken c.write_lines.new.sink ≡ g.K.Sink.taken c.args.sink.now ++ dot_text xs) in
    let limits = c.args.self.now.graph.now.limits in
    let named = c.root_at-root.ensures ∙ ap (λ (l : Limits). root_at l c.in-Root.place) c.limits.ensures.limits in
    subst All (root_is limits c.root_at-root.result c.in-Root.place c.args.id named ∙ ap (λ h. holder_drawn limits h c.args.id) (sym c.in-Root.is)) c.write_lines.ensures.ok

pub returns-in-Root-clause-err : goal.returns-in-Root-clause-err
returns-in-Root-clause-err g c =
    let Part : List Statement → Type 0 = λ xs. OnErr c.write_lines.result (GrowsByPart (g.K.Sink.taken c.args.sink.now) (g.K.Sink.taken c.write_lines.new.sink) (dot_text xs)) in
    let limits = c.args.self.now.graph.now.limits in
    let named = c.root_at-root.ensures ∙ ap (λ (l : Limits). root_at l c.in-Root.place) c.limits.ensures.limits in
    subst Part (root_is limits c.root_at-root.result c.in-Root.place c.args.id named ∙ ap (λ h. holder_drawn limits h c.args.id) (sym c.in-Root.is)) c.write_lines.ensures.err
