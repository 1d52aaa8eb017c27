use Rattle.std.proofs.Common.{sym, subst}
use Rattle.graph_heap.specs.declared.command.Command.{Command}
use Rattle.machine.specs.Plan.{IsPlan}
use Rattle.machine.proofs.heap.Heap.plan.Goals as goal

pub returns-in-New-dispatch : goal.returns-in-New-dispatch
returns-in-New-dispatch c = subst (λ (x : Command). IsPlan c.args.self.now c.args.mutator x c.dispatch-make.result) (sym c.in-New-dispatch.is) c.dispatch-make.ensures
