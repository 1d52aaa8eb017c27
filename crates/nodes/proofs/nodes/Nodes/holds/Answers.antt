use Rattle.std.proofs.Common.{◌≡◌, true, false, arith}
use Rattle.nodes.proofs.Holding.{none_further, none_allocated_so}
use Rattle.nodes.proofs.nodes.Nodes.holds.Goals as goal

pub loop-page-init : goal.loop-page-init
loop-page-init c page l = absurd (omega (arith, l))

pub loop-page-preserved : goal.loop-page-preserved
loop-page-preserved c = none_further c.args.self.now c.args.id c.loop-page.page c.loop-page.invariant (c.page_holds.ensures.no c.if-page_holds.false)

-- behind the last page there is none
pub returns : goal.returns
returns c = (
  λ no. absurd (let z : false ≡ true = no in cc),
  λ allocated. absurd (none_allocated_so c.args.self.now c.args.id c.loop-page.page (omega (arith, c.pages-page-end.ensures.pages, c.loop-page-test.false)) c.loop-page.invariant allocated),
)
