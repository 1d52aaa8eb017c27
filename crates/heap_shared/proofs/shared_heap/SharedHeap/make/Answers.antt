use Rattle.std.proofs.Common.{ap, ◌∙◌, sym}
use Rattle.heap_shared.specs.Ring.{Ringed}
use Rattle.heap_shared.proofs.Paid.{unpaid}
use Rattle.heap_shared.proofs.shared_heap.SharedHeap.make.Goals as goal

pub make_now-requires : goal.make_now-requires
make_now-requires c = ap (λ (r : Ringed). r.pacer) (sym c.self.view_is) ∙ c.in-None.is

pub returns-in-None : goal.returns-in-None
returns-in-None c = unpaid c.args.self.now c.make_now.new.self _ _ _ (ap (λ (r : Ringed). r.pacer) (sym c.self.view_is) ∙ c.in-None.is) c.make_now.ensures.pacer c.make_now.ensures.goes
