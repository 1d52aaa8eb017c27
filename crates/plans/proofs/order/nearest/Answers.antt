use Rattle.std.proofs.Common.{◌++◌, ◌∷◌, [], inl, Some, sym, subst}
use Rattle.plans.specs.Order.{IsNext}
use Rattle.plans.proofs.Numbers.{next_kept, next_nearest}
use Rattle.plans.proofs.order.nearest.Goals as goal

pub returns-then-pages-above : goal.returns-then-pages-above
returns-then-pages-above c = λ numbers is. next_kept numbers c.args.above c.args.next c.args.pages (inl c.if-pages-above.true) is

pub returns-in-Some : goal.returns-in-Some
returns-in-Some c = λ numbers is.
    let before = subst (IsNext numbers c.args.above) c.in-Some.is is in
    let least = next_nearest numbers c.args.above c.in-Some.least c.args.pages c.if-pages-above.false c.if-pages-gt-MOST_HEAP_PAGES.false before in
    subst (λ r. IsNext (numbers ++ c.args.pages ∷ []) c.args.above (Some r)) (sym c.min.ensures) least
