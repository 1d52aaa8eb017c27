use Rattle.std.specs.Prelude.{codes, decimal}
use Rattle.inspector.specs.Roots.{root_name}
use Rattle.pictures.proofs.graph.Joined.{four}
use Rattle.pictures.proofs.graph.statement.put_holds.Goals as goal

pub returns-clause-text : goal.returns-clause-text
returns-clause-text c =
    four (root_name c.args.root) (codes "\" -> \"object ") (decimal c.args.id) (codes "\";") c.put-end.ensures.text c.put_root-end.ensures.text c.put_named-end.ensures.text c.put.ensures.text
