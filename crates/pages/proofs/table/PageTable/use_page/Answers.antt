use Rattle.std.proofs.Common.{◌+◌, ◌*◌, ◌≤◌, Some, length, set, ap, ◌∙◌, subst, arith}
use Rattle.heap_model.specs.Pages.{fresh_page}
use Rattle.pages.specs.Together.{Together, KeepsAllocated}
use Rattle.pages.proofs.Telling.{together_used, pages_used, has_free}
use Rattle.pages.proofs.Touching.{first_together, first_pages, first_keeps, has_words, keeps_then}
use Rattle.pages.proofs.Writing.{keeps_outside}
use Rattle.pages.proofs.table.PageTable.use_page.Goals.{After-touch}
use Rattle.pages.proofs.table.PageTable.use_page.Goals as goal

-- the page has its words
touched : (c : After-touch) → 2048 * c.args.page + 2048 ≤ length c.touch.new.self.words
touched c = has_words c.args.self.now c.args.arena.now.words (c.args.page + 1) c.args.arena.now.pages c.touch.new.self.words c.touch.ensures.words c.requires.together c.requires.pages c.args.page (omega arith) c.requires.page

still : (c : After-touch) → Together c.args.self.now c.touch.new.self.words
still c = first_together c.args.self.now c.args.arena.now.words (c.args.page + 1) c.args.arena.now.pages c.touch.new.self.words c.touch.ensures.words c.requires.together c.requires.pages

pub link_blocks-row-requires-clause-within : goal.link_blocks-row-requires-clause-within
link_blocks-row-requires-clause-within c = touched (goal.at.link_blocks-row-requires-clause-within c).After-touch

pub returns-clause-together : goal.returns-clause-together
returns-clause-together c = together_used c.args.self.now c.touch.new.self.words c.link_blocks-row.new.arena.words (still (goal.at.returns-clause-together c).After-touch) c.args.page c.args.class c.requires.page c.link_blocks-row.ensures.known c.link_blocks-row.result c.link_blocks-row.ensures.row c.link_blocks-row.ensures.chain c.link_blocks-row.ensures.words c.link_blocks-row.ensures.flags c.put.new.self c.put.ensures (touched (goal.at.returns-clause-together c).After-touch)

pub returns-clause-page : goal.returns-clause-page
returns-clause-page c =
    pages_used c.args.self.now c.touch.new.self.words c.link_blocks-row.new.arena.words (still (goal.at.returns-clause-page c).After-touch) c.args.page c.args.class c.requires.page c.link_blocks-row.ensures.known c.link_blocks-row.result c.link_blocks-row.ensures.row c.link_blocks-row.ensures.chain c.link_blocks-row.ensures.words c.link_blocks-row.ensures.flags c.put.new.self c.put.ensures
    ∙ ap (λ l. set l c.args.page (Some (fresh_page c.args.class))) (first_pages c.args.self.now c.args.arena.now.words (c.args.page + 1) c.args.arena.now.pages c.touch.new.self.words c.touch.ensures.words c.requires.together c.requires.pages)

pub returns-clause-usable : goal.returns-clause-usable
returns-clause-usable c = has_free c.args.self.now c.touch.new.self.words c.link_blocks-row.new.arena.words (still (goal.at.returns-clause-usable c).After-touch) c.args.page c.args.class c.requires.page c.link_blocks-row.ensures.known c.link_blocks-row.result c.link_blocks-row.ensures.row c.link_blocks-row.ensures.chain c.link_blocks-row.ensures.words c.link_blocks-row.ensures.flags c.put.new.self c.put.ensures

pub returns-clause-words : goal.returns-clause-words
returns-clause-words c =
    let first = first_pages c.args.self.now c.args.arena.now.words (c.args.page + 1) c.args.arena.now.pages c.touch.new.self.words c.touch.ensures.words c.requires.together c.requires.pages in
    keeps_then _ c.args.arena.now.words c.touch.new.self.words c.link_blocks-row.new.arena.words
    (first_keeps c.args.self.now c.args.arena.now.words (c.args.page + 1) c.args.arena.now.pages c.touch.new.self.words c.touch.ensures.words c.requires.together c.requires.pages)
    (subst (λ g. KeepsAllocated g c.touch.new.self.words c.link_blocks-row.new.arena.words) first (keeps_outside c.args.self.now c.touch.new.self.words c.link_blocks-row.new.arena.words c.args.page (still (goal.at.returns-clause-words c).After-touch).classes c.requires.free c.link_blocks-row.ensures.words))
