use Rattle.std.proofs.Common.{sym, ap, ◌∙◌}
use Rattle.pictures.specs.Statements.{statement_line}
use Rattle.pictures.proofs.graph.statement.StatementDocumentLine.put.Goals as goal

pub returns-in-Close-clause-text : goal.returns-in-Close-clause-text
returns-in-Close-clause-text c = c.put-in-Close.ensures.text ∙ ap statement_line (sym c.in-Close.is)
