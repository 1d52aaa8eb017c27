use Rattle.machine.proofs.Plans.{placed}
use Rattle.machine.proofs.heap.Heap.referent_in_slot.Goals as goal

pub returns-clause-names : goal.returns-clause-names
returns-clause-names c g a = record { cell = c.in_ok-root.root; place = placed c.self.view_is c.args.mutator c.args.slot c.in_ok-root.root c.in_ok-root.ensures.place; names = c.referent.ensures g a }
