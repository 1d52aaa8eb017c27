use Rattle.std.proofs.Common.{subst}
use Rattle.machine.proofs.Headline.{always_holds}
use Rattle.heap_shared.specs.Past.{IsLed}
use Rattle.heap_shared.specs.Ring.{Ringed}
use Rattle.heap_shared.proofs.Pasts.{led_course}
use Rattle.heap_shared.proofs.shared_heap.SharedHeap.promise.Goals as goal

pub returns-clause-headline : goal.returns-clause-headline
returns-clause-headline c =
    always_holds c.args.self.now.course (led_course _ _ (subst (λ (x : Ringed). IsLed x.events x.course) c.self.view_is c.self.invariant))

pub returns-clause-led : goal.returns-clause-led
returns-clause-led c = subst (λ (x : Ringed). IsLed x.events x.course) c.self.view_is c.self.invariant
