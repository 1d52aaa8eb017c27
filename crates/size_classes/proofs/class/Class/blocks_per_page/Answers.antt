use Rattle.std.proofs.Common.{ap, ◌∙◌}
use Rattle.size_classes.specs.Sizes.{blocks_in}
use Rattle.size_classes.proofs.Table.{blocks_at, blocks_between}
use Rattle.size_classes.proofs.class.Class.blocks_per_page.Goals as goal

pub returns-clause-blocks : goal.returns-clause-blocks
returns-clause-blocks c = blocks_at c.self.inside.0 c.self.invariant ∙ ap blocks_in c.self.view_is

pub returns-clause-within : goal.returns-clause-within
returns-clause-within c = blocks_between c.self.inside.0 c.self.invariant
