use Rattle.std.proofs.Common.{arith, ◌∙◌}
use Rattle.pages.proofs.Flags.{class_known}
use Rattle.nodes.proofs.Made.{block_small, page_small, address_within, words_fit, page_by, pages_made, nodes_made, adds_made, links_made, takes_by}
use Rattle.nodes.proofs.nodes.Nodes.make.Goals as goal

pub address-address-requires-clause-page : goal.address-address-requires-clause-page
address-address-requires-clause-page c = page_small _ _ c.self.view_is c.self.invariant.0.whole c.args.class c.in_ok-block.block.page c.in_ok-block.block.index c.size.result (class_known c.args.class (omega (arith, c.requires.room))) c.size.ensures.size c.in_ok-block.ensures.taken.page_is c.in_ok-block.ensures.taken.was_free

pub address-address-requires-clause-block : goal.address-address-requires-clause-block
address-address-requires-clause-block c = block_small _ _ c.self.view_is c.self.invariant.0.whole c.args.class c.in_ok-block.block.page c.in_ok-block.block.index c.size.result (class_known c.args.class (omega (arith, c.requires.room))) c.size.ensures.size c.in_ok-block.ensures.taken.page_is c.in_ok-block.ensures.taken.was_free

pub begin-requires-clause-room : goal.begin-requires-clause-room
begin-requires-clause-room c =
    words_fit _ _ _ c.self.view_is c.self.invariant.0 c.args.class c.in_ok-block.block.page c.in_ok-block.block.index c.size.result (class_known c.args.class (omega (arith, c.requires.room))) c.size.ensures.size c.in_ok-block.ensures.taken.page_is c.in_ok-block.ensures.taken.was_free c.address-address.result c.address-address.ensures (record { shape = c.args.shape; part = c.args.part; colour = c.args.colour }) (c.requires.shape, c.requires.part) c.args.identity c.args.cells c.requires.cells c.requires.room
    c.take.new.self c.take.new.arena.words c.in_ok-block.ensures.together c.in_ok-block.ensures.taken.new_is c.in_ok-block.ensures.words

pub invariant_of-self-2 : goal.invariant_of-self-2
invariant_of-self-2 c = (
  nodes_made _ _ _ c.self.view_is c.self.invariant.0 c.args.class c.in_ok-block.block.page c.in_ok-block.block.index c.size.result (class_known c.args.class (omega (arith, c.requires.room))) c.size.ensures.size c.in_ok-block.ensures.taken.page_is c.in_ok-block.ensures.taken.was_free c.address-address.result c.address-address.ensures (record { shape = c.args.shape; part = c.args.part; colour = c.args.colour }) (c.requires.shape, c.requires.part) c.args.identity c.args.cells c.requires.cells c.requires.room
      c.take.new.self c.take.new.arena.words c.in_ok-block.ensures.together c.in_ok-block.ensures.taken.new_is c.in_ok-block.ensures.words c.begin.new.self.words c.begin.ensures.words,
  c.begin.ensures.pages ∙ c.in_ok-block.ensures.pages,
)

pub returns-clause-page : goal.returns-clause-page
returns-clause-page c = page_by _ _ c.self.view_is c.self.invariant.0.whole c.args.class c.in_ok-block.block.page c.in_ok-block.block.index c.size.result (class_known c.args.class (omega (arith, c.requires.room))) c.size.ensures.size c.in_ok-block.ensures.taken.page_is c.in_ok-block.ensures.taken.was_free c.address-address.result c.address-address.ensures

pub returns-clause-within : goal.returns-clause-within
returns-clause-within c = address_within _ _ c.self.view_is c.self.invariant.0.whole c.args.class c.in_ok-block.block.page c.in_ok-block.block.index c.size.result (class_known c.args.class (omega (arith, c.requires.room))) c.size.ensures.size c.in_ok-block.ensures.taken.page_is c.in_ok-block.ensures.taken.was_free c.address-address.result c.address-address.ensures

pub returns-clause-made : goal.returns-clause-made
returns-clause-made c =
    adds_made _ _ _ c.self.view_is c.self.invariant.0 c.args.class c.in_ok-block.block.page c.in_ok-block.block.index c.size.result (class_known c.args.class (omega (arith, c.requires.room))) c.size.ensures.size c.in_ok-block.ensures.taken.page_is c.in_ok-block.ensures.taken.was_free c.address-address.result c.address-address.ensures (record { shape = c.args.shape; part = c.args.part; colour = c.args.colour }) (c.requires.shape, c.requires.part) c.args.identity c.args.cells c.requires.cells c.requires.room
    c.take.new.self c.take.new.arena.words c.in_ok-block.ensures.together c.in_ok-block.ensures.taken.new_is c.in_ok-block.ensures.words c.begin.new.self.words c.begin.ensures.words

pub returns-clause-taken : goal.returns-clause-taken
returns-clause-taken c = (
  c.in_ok-block.block.index,
  takes_by _ _ c.self.view_is c.args.class c.in_ok-block.block.page c.in_ok-block.block.index _ _ c.in_ok-block.ensures.taken.page_is
      (page_by _ _ c.self.view_is c.self.invariant.0.whole c.args.class c.in_ok-block.block.page c.in_ok-block.block.index c.size.result (class_known c.args.class (omega (arith, c.requires.room))) c.size.ensures.size c.in_ok-block.ensures.taken.page_is c.in_ok-block.ensures.taken.was_free c.address-address.result c.address-address.ensures) c.in_ok-block.ensures.taken.was_free
      (pages_made _ _ _ c.self.view_is c.self.invariant.0 c.args.class c.in_ok-block.block.page c.in_ok-block.block.index c.size.result (class_known c.args.class (omega (arith, c.requires.room))) c.size.ensures.size c.in_ok-block.ensures.taken.page_is c.in_ok-block.ensures.taken.was_free c.address-address.result c.address-address.ensures (record { shape = c.args.shape; part = c.args.part; colour = c.args.colour }) (c.requires.shape, c.requires.part) c.args.identity c.args.cells c.requires.cells c.requires.room
      c.take.new.self c.take.new.arena.words c.in_ok-block.ensures.together c.in_ok-block.ensures.taken.new_is c.in_ok-block.ensures.words c.begin.new.self.words c.begin.ensures.words),
)

pub returns-clause-links : goal.returns-clause-links
returns-clause-links c =
    links_made _ _ _ c.self.view_is c.self.invariant.0 c.args.class c.in_ok-block.block.page c.in_ok-block.block.index c.size.result (class_known c.args.class (omega (arith, c.requires.room))) c.size.ensures.size c.in_ok-block.ensures.taken.page_is c.in_ok-block.ensures.taken.was_free c.address-address.result c.address-address.ensures (record { shape = c.args.shape; part = c.args.part; colour = c.args.colour }) (c.requires.shape, c.requires.part) c.args.identity c.args.cells c.requires.cells c.requires.room
    c.take.new.self c.take.new.arena.words c.in_ok-block.ensures.together c.in_ok-block.ensures.taken.new_is c.in_ok-block.ensures.words c.begin.new.self.words c.begin.ensures.words
