use Rattle.std.proofs.Common.{◌≡◌, ap, ◌∙◌, arith}
use Rattle.size_classes.specs.Sizes.{blocks_in}
use Rattle.space.specs.Space.{class_pages}
use Rattle.sizing.proofs.Counts.Paging.{gathered_spared}
use Rattle.sizing.proofs.page_counts.gathered_of.Goals as goal

pub returns-clause-pages : goal.returns-clause-pages
returns-clause-pages c =
    let e : c.new-class.result ≡ c.args.number = omega arith in
    let b : c.blocks_per_page.result ≡ blocks_in c.args.number = c.blocks_per_page.ensures.blocks ∙ ap blocks_in e in
    let n : c.from.result ≡ blocks_in c.args.number = c.from.ensures ∙ b in
    let spare = c.from-2.ensures in
    c.pages_of_class.ensures.pages ∙ ap (λ k. class_pages c.from-2.result k c.args.blocks) e
    ∙ gathered_spared c.args.number c.args.blocks c.from-2.result c.requires.class (λ few. grind (arith, few, n, spare)) (λ full. grind (arith, full, n, spare))
