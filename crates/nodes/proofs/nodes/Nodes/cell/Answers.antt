use Rattle.std.proofs.Common.{◌∙◌}
use Rattle.nodes.proofs.Writing.{cell_inside, cell_by}
use Rattle.nodes.proofs.nodes.Nodes.cell.Goals as goal

pub cell-requires : goal.cell-requires
cell-requires c = cell_inside _ _ c.self.view_is c.self.invariant.0.whole c.args.block c.requires.allocated c.args.i c.requires.within

pub returns : goal.returns
returns c = c.cell.ensures ∙ cell_by _ _ c.self.view_is c.self.invariant.0.whole c.args.block c.requires.allocated c.args.i c.requires.within
