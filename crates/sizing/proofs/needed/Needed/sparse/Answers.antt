use Rattle.std.proofs.Common.{◌≡◌, arith, subst}
use Rattle.size_classes.specs.declared.class.TheConstants.{CLASSES}
use Rattle.space.specs.Space.{class_sum}
use Rattle.fragmentation.specs.Suffice.{gathered_pages}
use Rattle.sizing.specs.Measured.{together_in}
use Rattle.sizing.proofs.needed.Needed.sparse.Goals as goal

pub returns-clause-pages : goal.returns-clause-pages
returns-clause-pages c =
    let e : c.loop-number.number ≡ CLASSES = omega arith in
    subst (λ n. c.loop-number.pages ≡ class_sum (λ class. gathered_pages class (together_in c.args.self.now class)) n) e c.loop-number.invariant.value
