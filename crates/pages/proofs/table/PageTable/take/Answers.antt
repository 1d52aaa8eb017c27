use Rattle.std.proofs.Common.{Some, None}
use Rattle.heap_model.specs.Pages.{page_for}
use Rattle.pages.specs.Together.{pages_in}
use Rattle.pages.proofs.Telling.{usable_here, free_here, for_usable, for_free, open_fresh, allocated_fresh, some_iff, none_iff}
use Rattle.pages.proofs.Writing.{keeps_both}
use Rattle.pages.proofs.table.PageTable.take.Goals as goal

pub take_on-index-requires-clause-usable : goal.take_on-index-requires-clause-usable
take_on-index-requires-clause-usable c = (usable_here c.args.self.now c.args.class c.in-Some.page c.in-Some.ensures).1

pub use_page-requires-clause-free : goal.use_page-requires-clause-free
use_page-requires-clause-free c = (free_here c.args.self.now c.in-Some-first_free.page c.in-Some-first_free.ensures.place).1

pub returns-in-Some-clause-none : goal.returns-in-Some-clause-none
returns-in-Some-clause-none c = some_iff (page_for (pages_in c.args.self.now c.args.arena.now.words) c.args.class) c.in-Some.page (for_usable c.args.self.now c.args.arena.now.words c.requires.together c.args.class c.in-Some.page c.in-Some.ensures)

pub returns-in-Some-clause-taken : goal.returns-in-Some-clause-taken
returns-in-Some-clause-taken c = record { page_is = for_usable c.args.self.now c.args.arena.now.words c.requires.together c.args.class c.in-Some.page c.in-Some.ensures; was_free = c.take_on-index.ensures.free; new_is = c.take_on-index.ensures.allocated }

pub returns-in-Some-first_free-clause-none : goal.returns-in-Some-first_free-clause-none
returns-in-Some-first_free-clause-none c = some_iff (page_for (pages_in c.args.self.now c.args.arena.now.words) c.args.class) c.in-Some-first_free.page (for_free c.args.self.now c.args.arena.now.words c.requires.together c.args.class (Some c.in-Some-first_free.page) c.in-None.ensures c.in-Some-first_free.ensures.place)

pub returns-in-Some-first_free-clause-taken : goal.returns-in-Some-first_free-clause-taken
returns-in-Some-first_free-clause-taken c = record {
  page_is = for_free c.args.self.now c.args.arena.now.words c.requires.together c.args.class (Some c.in-Some-first_free.page) c.in-None.ensures c.in-Some-first_free.ensures.place;
  was_free = open_fresh c.args.self.now c.args.arena.now.words c.in-Some-first_free.page c.args.class (free_here c.args.self.now c.in-Some-first_free.page c.in-Some-first_free.ensures.place).0 (free_here c.args.self.now c.in-Some-first_free.page c.in-Some-first_free.ensures.place).1 (pages_in c.use_page.new.self c.use_page.new.arena.words) c.use_page.ensures.page c.take_on-index-in-Some-first_free.result c.take_on-index-in-Some-first_free.ensures.free;
  new_is = allocated_fresh c.args.self.now c.args.arena.now.words c.in-Some-first_free.page c.args.class (free_here c.args.self.now c.in-Some-first_free.page c.in-Some-first_free.ensures.place).0 (free_here c.args.self.now c.in-Some-first_free.page c.in-Some-first_free.ensures.place).1 (pages_in c.use_page.new.self c.use_page.new.arena.words) c.use_page.ensures.page c.take_on-index-in-Some-first_free.result _ c.take_on-index-in-Some-first_free.ensures.allocated;
}

pub returns-in-None-first_free-clause-none : goal.returns-in-None-first_free-clause-none
returns-in-None-first_free-clause-none c = none_iff (page_for (pages_in c.args.self.now c.args.arena.now.words) c.args.class) (for_free c.args.self.now c.args.arena.now.words c.requires.together c.args.class None c.in-None.ensures c.in-None-first_free.ensures.place)

pub returns-in-Some-first_free-clause-words : goal.returns-in-Some-first_free-clause-words
returns-in-Some-first_free-clause-words c =
    keeps_both c.args.self.now c.args.arena.now.words c.use_page.new.arena.words c.take_on-index-in-Some-first_free.new.arena.words c.in-Some-first_free.page (pages_in c.use_page.new.self c.use_page.new.arena.words) _ (free_here c.args.self.now c.in-Some-first_free.page c.in-Some-first_free.ensures.place).0 (free_here c.args.self.now c.in-Some-first_free.page c.in-Some-first_free.ensures.place).1 c.use_page.ensures.page c.use_page.ensures.words c.take_on-index-in-Some-first_free.ensures.words
