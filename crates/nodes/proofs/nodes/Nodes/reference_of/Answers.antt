use Rattle.std.proofs.Common.{arith}
use Rattle.nodes.proofs.Writing.{page_there}
use Rattle.nodes.proofs.nodes.Nodes.reference_of.Goals as goal

pub overflow_add-result : goal.overflow_add-result
overflow_add-result c = omega (arith, page_there _ _ c.self.view_is c.self.invariant.0.whole c.args.block c.requires, c.self.invariant.0.whole.few)

pub returns-clause-within : goal.returns-clause-within
returns-clause-within c = omega (arith, page_there _ _ c.self.view_is c.self.invariant.0.whole c.args.block c.requires, c.self.invariant.0.whole.few)
