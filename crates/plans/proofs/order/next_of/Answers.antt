use Rattle.std.proofs.Common.{take, sym, subst, List, ℕ}
use Rattle.std.proofs.lemmas.List.{take_more, take_all}
use Rattle.plans.specs.Order.{IsNext}
use Rattle.plans.proofs.order.next_of.Goals as goal

pub loop-pages-preserved : goal.loop-pages-preserved
loop-pages-preserved c =
    let numbers = c.args.numbers.now in
    let i = c.loop-pages.pages-index in
    let Next : List ℕ → Type 0 = λ some. IsNext some c.args.above c.nearest-next.result in
    subst Next (sym (take_more numbers i 0 c.loop-pages-test.true)) (c.nearest-next.ensures (take i numbers) c.loop-pages.invariant)

pub returns : goal.returns
returns c =
    let Next : List ℕ → Type 0 = λ some. IsNext some c.args.above c.loop-pages.next in
    subst Next (take_all c.loop-pages.pages-index c.args.numbers.now c.loop-pages-test.false) c.loop-pages.invariant
