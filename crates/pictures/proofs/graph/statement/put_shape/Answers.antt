use Rattle.std.proofs.Common.{ap, ◌∙◌, sym, take, ◌++◌}
use Rattle.std.specs.Prelude.{codes, decimal}
use Rattle.pictures.specs.Statements.{shape_words}
use Rattle.pictures.proofs.graph.statement.put_shape.Goals as goal

pub returns-in-WordArray-clause-text : goal.returns-in-WordArray-clause-text
returns-in-WordArray-clause-text c =
    let before = take c.args.at c.args.out.now in
    c.put_named-in-WordArray.ensures.text
    ∙ ap (λ n. before ++ (codes "array, words " ++ decimal n)) c.from-in-WordArray.ensures
    ∙ ap (λ s. before ++ shape_words s) (sym c.in-WordArray.is)
