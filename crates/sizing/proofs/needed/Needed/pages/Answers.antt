use Rattle.std.proofs.Common.{◌≡◌, arith, subst}
use Rattle.size_classes.specs.declared.class.TheConstants.{CLASSES}
use Rattle.space.specs.Space.{pages_for}
use Rattle.sizing.specs.Measured.{together_in}
use Rattle.sizing.proofs.needed.Needed.pages.Goals as goal

pub returns-clause-pages : goal.returns-clause-pages
returns-clause-pages c = let e : c.loop-number.number ≡ CLASSES = omega arith in subst (λ n. c.loop-number.pages ≡ pages_for (together_in c.args.self.now) c.args.spare n) e c.loop-number.invariant.value
