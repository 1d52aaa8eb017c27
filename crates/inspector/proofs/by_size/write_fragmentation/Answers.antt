use Rattle.std.proofs.Common.{◌≡◌, [], ◌∷◌, ◌++◌, subst, arith}
use Rattle.std.specs.Prelude.{OnOk, OnErr}
use Rattle.trace.specs.Streams.{GrowsByPart}
use Rattle.inspector.proofs.Fillings.{fragmentation_told}
use Rattle.inspector.proofs.by_size.write_fragmentation.Goals as goal

pub overflow_mul-words : goal.overflow_mul-words
overflow_mul-words g c = grind (arith, c.from.ensures, c.requires.pages)

pub overflow_add-internal : goal.overflow_add-internal
overflow_add-internal g c = omega (arith, c.requires.inside, c.requires.behind)

pub returns-clause-ok : goal.returns-clause-ok
returns-clause-ok g c =
    let told = fragmentation_told c.args.all _ c.from.ensures c.put_named-end.ensures.text c.put_named-end-2.ensures.text c.put_named-end-3.ensures.text in
    subst (λ line. OnOk c.end_line.result (g.K.Sink.taken c.end_line.new.sink ≡ g.K.Sink.taken c.args.sink.now ++ (line ++ 10 ∷ []))) told c.end_line.ensures.ok

pub returns-clause-err : goal.returns-clause-err
returns-clause-err g c =
    let told = fragmentation_told c.args.all _ c.from.ensures c.put_named-end.ensures.text c.put_named-end-2.ensures.text c.put_named-end-3.ensures.text in
    subst (λ line. OnErr c.end_line.result (GrowsByPart (g.K.Sink.taken c.args.sink.now) (g.K.Sink.taken c.end_line.new.sink) (line ++ 10 ∷ []))) told c.end_line.ensures.err
