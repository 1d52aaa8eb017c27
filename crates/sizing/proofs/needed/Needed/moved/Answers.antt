use Rattle.std.proofs.Common.{◌+◌, ap, min, ◌∙◌}
use Rattle.size_classes.specs.declared.class.TheConstants.{CLASSES}
use Rattle.space.specs.Space.{pages_for}
use Rattle.space.specs.Fitting.{spare_in, below_in}
use Rattle.fragmentation.specs.Suffice.{sparse_pages}
use Rattle.sizing.specs.Measured.{together_in}
use Rattle.sizing.specs.Reckoned.{still_pages}
use Rattle.sizing.proofs.needed.Needed.moved.Goals as goal

pub returns : goal.returns
returns c =
    let together = together_in c.args.self.now in
    let spare = c.spare-spare.ensures in
    let all = c.pages.ensures.pages ∙ ap (λ n. pages_for together n CLASSES) spare in
    let unmoved = ap (λ n. n + c.from.result) c.still.ensures.pages ∙ ap (λ n. still_pages c.args.self.now + n) (c.from.ensures ∙ c.below.ensures) in
    let sparse = ap (λ n. n + c.from-2.result) c.sparse.ensures.pages ∙ ap (λ n. sparse_pages together + n) (c.from-2.ensures ∙ spare) in
    let other = c.min.ensures ∙ ap (λ n. min n (c.sparse.result + c.from-2.result)) unmoved ∙ ap (min (still_pages c.args.self.now + below_in c.args.config.now)) sparse in
    c.min-2.ensures ∙ ap (λ n. min n c.min.result) all ∙ ap (min (pages_for together (spare_in c.args.config.now) CLASSES)) other
