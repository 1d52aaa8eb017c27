use Rattle.std.proofs.Common.{◌∷◌, [], ◌++◌, ap, sym, subst, ◌∙◌, append-nil}
use Rattle.trace.specs.Streams.{GrowsByPart}
use Rattle.inspector.proofs.Parts.{ok_so, err_so}
use Rattle.inspector.proofs.ClassByClass.{no_line, one_line}
use Rattle.inspector.proofs.by_size.write_class.Goals as goal

pub returns-then-filling-eq0-clause-ok : goal.returns-then-filling-eq0-clause-ok
returns-then-filling-eq0-clause-ok g c =
    let taken = g.K.Sink.taken c.args.sink.now in
    sym (append-nil taken) ∙ ap (λ t. taken ++ t) (sym (no_line c.args.class c.args.filling c.if-filling-eq0.true))

pub returns-clause-ok : goal.returns-clause-ok
returns-clause-ok g c =
    let line = one_line c.args.class c.args.filling c.if-filling-eq0.false in
    ok_so c.end_line.result _ _ (λ q. q ∙ ap (λ t. g.K.Sink.taken c.args.sink.now ++ t) (ap (λ t. t ++ 10 ∷ []) c.put_class-end.ensures.text ∙ sym line)) c.end_line.ensures.ok

pub returns-clause-err : goal.returns-clause-err
returns-clause-err g c =
    let line = one_line c.args.class c.args.filling c.if-filling-eq0.false in
    err_so c.end_line.result _ _
    (subst (GrowsByPart (g.K.Sink.taken c.args.sink.now) (g.K.Sink.taken c.end_line.new.sink)) (ap (λ t. t ++ 10 ∷ []) c.put_class-end.ensures.text ∙ sym line))
    c.end_line.ensures.err
