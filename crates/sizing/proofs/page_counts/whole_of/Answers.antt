use Rattle.std.proofs.Common.{◌≡◌, ap, ◌∙◌, arith}
use Rattle.space.specs.Space.{class_pages}
use Rattle.sizing.proofs.Counts.Paging.{unspared}
use Rattle.sizing.proofs.page_counts.whole_of.Goals as goal

pub returns-clause-pages : goal.returns-clause-pages
returns-clause-pages c =
    let e : c.new.result ≡ c.args.number = omega arith in
    c.pages_of_class.ensures.pages ∙ ap (λ k. class_pages 0 k c.args.blocks) e ∙ unspared c.args.number c.args.blocks c.requires.class
