use Rattle.std.proofs.Common.{◌∙◌, sym}
use Rattle.nodes.proofs.Moved.{source_fit, target_fit, open_by, from_there, both_fit, moved_nodes, moves_by, copies_by, pages_by}
use Rattle.nodes.proofs.Freeing.{page_within}
use Rattle.nodes.proofs.Joining.{below_by}
use Rattle.nodes.proofs.nodes.Nodes.move_block.Goals as goal

pub address-from-requires-clause-block : goal.address-from-requires-clause-block
address-from-requires-clause-block c = (source_fit _ _ _ c.self.view_is c.self.invariant.0 c.args.page c.args.index c.args.to c.requires c.block_size-size.result c.block_size-size.ensures.size).1

pub address-target-requires-clause-block : goal.address-target-requires-clause-block
address-target-requires-clause-block c = (target_fit _ _ _ c.self.view_is c.self.invariant.0 c.args.page c.args.index c.args.to c.requires c.block_size-size.result c.block_size-size.ensures.size c.take_on_target-place.result c.take_on_target-place.ensures.«open»).1

pub set_forward-requires : goal.set_forward-requires
set_forward-requires c = from_there _ _ _ c.self.view_is c.self.invariant.0 c.args.page c.args.index c.args.to c.requires c.block_size-size.result c.block_size-size.ensures.size c.take_on_target-place.result c.take_on_target-place.ensures.«open» c.take_on_target-place.new.arena.words c.take_on_target-place.ensures.words c.address-from.result c.address-target.result c.address-from.ensures c.address-target.ensures

pub copy_block-requires-clause-from : goal.copy_block-requires-clause-from
copy_block-requires-clause-from c = (both_fit _ _ _ c.self.view_is c.self.invariant.0 c.args.page c.args.index c.args.to c.requires c.block_size-size.result c.block_size-size.ensures.size c.take_on_target-place.result c.take_on_target-place.ensures.«open» c.take_on_target-place.new.arena.words c.take_on_target-place.ensures.words c.address-from.result c.address-target.result c.address-from.ensures c.address-target.ensures _ c.set_forward.ensures.words).0

pub copy_block-requires-clause-to : goal.copy_block-requires-clause-to
copy_block-requires-clause-to c = (both_fit _ _ _ c.self.view_is c.self.invariant.0 c.args.page c.args.index c.args.to c.requires c.block_size-size.result c.block_size-size.ensures.size c.take_on_target-place.result c.take_on_target-place.ensures.«open» c.take_on_target-place.new.arena.words c.take_on_target-place.ensures.words c.address-from.result c.address-target.result c.address-from.ensures c.address-target.ensures _ c.set_forward.ensures.words).1

pub invariant_of-self : goal.invariant_of-self
invariant_of-self c = (
  moved_nodes _ _ _ c.self.view_is c.self.invariant.0 c.args.page c.args.index c.args.to c.requires c.block_size-size.result c.block_size-size.ensures.size c.take_on_target-place.result c.take_on_target-place.ensures.«open» c.take_on_target-place.new.arena.words c.take_on_target-place.ensures.words c.address-from.result c.address-target.result c.address-from.ensures c.address-target.ensures
      c.take_on_target-place.new.self c.take_on_target-place.ensures.together c.take_on_target-place.ensures.allocated c.set_forward.new.self.words c.copy_block.new.self.words c.set_forward.ensures.words c.copy_block.ensures.words,
  c.copy_block.ensures.pages ∙ c.set_forward.ensures.pages ∙ c.take_on_target-place.ensures.pages ∙ c.self.invariant.1 ∙ sym c.take_on_target-place.ensures.len,
)

pub returns-clause-free : goal.returns-clause-free
returns-clause-free c = open_by _ _ _ c.self.view_is c.self.invariant.0 c.args.page c.args.index c.args.to c.requires c.block_size-size.result c.block_size-size.ensures.size c.take_on_target-place.result c.take_on_target-place.ensures.«open»

pub returns-clause-moved : goal.returns-clause-moved
returns-clause-moved c =
    moves_by _ _ _ c.self.view_is c.self.invariant.0 c.args.page c.args.index c.args.to c.requires c.block_size-size.result c.block_size-size.ensures.size c.take_on_target-place.result c.take_on_target-place.ensures.«open» c.take_on_target-place.new.arena.words c.take_on_target-place.ensures.words c.address-from.result c.address-target.result c.address-from.ensures c.address-target.ensures
    c.take_on_target-place.new.self c.take_on_target-place.ensures.together c.take_on_target-place.ensures.allocated c.set_forward.new.self.words c.copy_block.new.self.words c.set_forward.ensures.words c.copy_block.ensures.words

pub returns-clause-links : goal.returns-clause-links
returns-clause-links c =
    copies_by _ _ _ c.self.view_is c.self.invariant.0 c.args.page c.args.index c.args.to c.requires c.block_size-size.result c.block_size-size.ensures.size c.take_on_target-place.result c.take_on_target-place.ensures.«open» c.take_on_target-place.new.arena.words c.take_on_target-place.ensures.words c.address-from.result c.address-target.result c.address-from.ensures c.address-target.ensures
    c.take_on_target-place.new.self c.take_on_target-place.ensures.together c.take_on_target-place.ensures.allocated c.set_forward.new.self.words c.copy_block.new.self.words c.set_forward.ensures.words c.copy_block.ensures.words

pub returns-clause-pages : goal.returns-clause-pages
returns-clause-pages c =
    pages_by _ _ _ c.self.view_is c.self.invariant.0 c.args.page c.args.index c.args.to c.requires c.block_size-size.result c.block_size-size.ensures.size c.take_on_target-place.result c.take_on_target-place.ensures.«open» c.take_on_target-place.new.arena.words c.take_on_target-place.ensures.words c.address-from.result c.address-target.result c.address-from.ensures c.address-target.ensures
    c.take_on_target-place.new.self c.take_on_target-place.ensures.together c.take_on_target-place.ensures.allocated c.set_forward.new.self.words c.copy_block.new.self.words c.set_forward.ensures.words c.copy_block.ensures.words

pub take_on_target-place-requires-clause-page : goal.take_on_target-place-requires-clause-page
take_on_target-place-requires-clause-page c = below_by _ _ _ c.self.view_is c.args.to (page_within _ c.args.to c.requires.target c.requires.into)
