use Rattle.std.proofs.Common.{◌≡◌, ◌+◌, ◌*◌, arith, get_or, subst}
use Rattle.size_classes.specs.declared.class.TheConstants.{CLASSES}
use Rattle.space.specs.Space.{pages_for}
use Rattle.space.proofs.pace.Pace.pages.Goals as goal

pub returns-clause-pages : goal.returns-clause-pages
returns-clause-pages c = let e : c.loop-number.number ≡ CLASSES = omega arith in subst (λ n. c.loop-number.pages ≡ pages_for (λ class. get_or c.args.self.now.live class 0 + (2 * (c.args.quanta * get_or c.args.self.now.busy class 0) + get_or c.args.self.now.idle class 0)) c.args.spare n) e c.loop-number.invariant.value

pub returns-clause-within : goal.returns-clause-within
returns-clause-within c = let e : c.loop-number.number ≡ CLASSES = omega arith in omega (arith, e, c.loop-number.invariant.within)
