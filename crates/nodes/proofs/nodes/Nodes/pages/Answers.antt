use Rattle.std.proofs.Common.{◌∙◌}
use Rattle.nodes.proofs.Joining.{count_by}
use Rattle.nodes.proofs.nodes.Nodes.pages.Goals as goal

pub returns-clause-pages : goal.returns-clause-pages
returns-clause-pages c = c.len.ensures.pages ∙ count_by _ _ _ c.self.view_is
