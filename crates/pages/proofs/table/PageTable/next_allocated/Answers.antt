use Rattle.std.proofs.Common.{◌∙◌, sym, subst}
use Rattle.pages.specs.Places.{FindsAllocated}
use Rattle.pages.proofs.Reading.{finds_by, found_within, finds_nothing}
use Rattle.pages.proofs.table.PageTable.next_allocated.Goals as goal

pub returns-in_err-row-clause-finds : goal.returns-in_err-row-clause-finds
returns-in_err-row-clause-finds c = subst (FindsAllocated _ c.args.from) (sym c.from_residual.ensures) (finds_nothing c.args.self.now c.args.arena.now.words c.requires.together c.args.page c.requires.page c.args.from c.row.result c.row.ensures.row c.in_err-row.was)

pub next_allocated-requires-clause-page : goal.next_allocated-requires-clause-page
next_allocated-requires-clause-page c = c.row.ensures.few

pub returns-clause-finds : goal.returns-clause-finds
returns-clause-finds c = finds_by c.args.self.now c.args.arena.now.words c.requires.together c.args.page c.requires.page c.in_ok-row.field-0 c.args.from (sym c.in_ok-row.was ∙ c.row.ensures.row) c.next_allocated.result c.next_allocated.ensures.some c.next_allocated.ensures.none

pub returns-clause-within : goal.returns-clause-within
returns-clause-within c = found_within c.args.self.now c.args.arena.now.words c.requires.together c.args.page c.requires.page c.in_ok-row.field-0 c.args.from (sym c.in_ok-row.was ∙ c.row.ensures.row) c.next_allocated.result c.next_allocated.ensures.some
