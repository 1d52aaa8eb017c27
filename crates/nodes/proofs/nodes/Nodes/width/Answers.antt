use Rattle.std.proofs.Common.{arith, ◌∙◌}
use Rattle.nodes.proofs.Writing.{header_inside, width_by}
use Rattle.nodes.proofs.nodes.Nodes.width.Goals as goal

pub part-part-requires : goal.part-part-requires
part-part-requires c = omega (arith, header_inside _ _ c.self.view_is c.self.invariant.0.whole c.args.block c.requires)

pub shape-requires : goal.shape-requires
shape-requires c = omega (arith, header_inside _ _ c.self.view_is c.self.invariant.0.whole c.args.block c.requires)

pub returns-in-Plain : goal.returns-in-Plain
returns-in-Plain c = c.width_of.ensures ∙ width_by _ _ c.self.view_is c.self.invariant.0.whole c.args.block c.requires _ c.part-part.result c.in-Plain.ensures.says c.part-part.ensures.says

pub returns-in-RefArray : goal.returns-in-RefArray
returns-in-RefArray c = c.width_of-in-RefArray.ensures ∙ width_by _ _ c.self.view_is c.self.invariant.0.whole c.args.block c.requires _ c.part-part.result c.in-RefArray.ensures.says c.part-part.ensures.says

pub returns-in-WordArray : goal.returns-in-WordArray
returns-in-WordArray c = c.width_of-in-WordArray.ensures ∙ width_by _ _ c.self.view_is c.self.invariant.0.whole c.args.block c.requires _ c.part-part.result c.in-WordArray.ensures.says c.part-part.ensures.says
