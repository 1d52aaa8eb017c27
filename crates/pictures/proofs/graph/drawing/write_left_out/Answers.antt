use Rattle.std.proofs.Common.{List, ◌++◌, ap, ◌∙◌, sym, subst}
use Rattle.std.specs.Prelude.{OnErr}
use Rattle.std.proofs.lemmas.Result.{on_ok_weaker}
use Rattle.trace.specs.Streams.{GrowsByPart}
use Rattle.pictures.specs.declared.graph.statement.Statement.{Statement}
use Rattle.pictures.specs.Statements.{dot_text}
use Rattle.pictures.proofs.graph.Drawn.{none_left, some_left}
use Rattle.pictures.proofs.Parts.{none}
use Rattle.pictures.proofs.Lines.{dot_is}
use Rattle.pictures.proofs.graph.drawing.write_left_out.Goals as goal

pub returns-then-n-eq0-clause-ok : goal.returns-then-n-eq0-clause-ok
returns-then-n-eq0-clause-ok g c =
    let old = g.K.Sink.taken c.args.sink.now in
    none dot_is old ∙ ap (λ xs. old ++ dot_text xs) (sym (none_left c.args.n c.if-n-eq0.true))

pub returns-clause-ok : goal.returns-clause-ok
returns-clause-ok g c =
    let old = g.K.Sink.taken c.args.sink.now in
    on_ok_weaker c.write_line.result (λ e. e ∙ ap (λ xs. old ++ dot_text xs) (sym (some_left c.args.n c.if-n-eq0.false))) c.write_line.ensures.ok

pub returns-clause-err : goal.returns-clause-err
returns-clause-err g c =
    let Part : List Statement → Type 0 = λ xs. OnErr c.write_line.result (GrowsByPart (g.K.Sink.taken c.args.sink.now) (g.K.Sink.taken c.write_line.new.sink) (dot_text xs)) in
    subst Part (sym (some_left c.args.n c.if-n-eq0.false)) c.write_line.ensures.err
