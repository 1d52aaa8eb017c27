use Rattle.std.proofs.Common.{arith, slice_index}
use Rattle.pages.proofs.Needing.{needs_by, room_by}
use Rattle.pages.proofs.table.PageTable.room_for.Goals as goal

pub loop-number-preserved : goal.loop-number-preserved
loop-number-preserved c =
    needs_by c.args.self.now c.args.need.now c.loop-number.number c.new-class.result c.loop-number.pages c.blocks-in-loop-number.result c.pages_for-pages.result
    c.loop-number.invariant c.new-class.ensures c.blocks-in-loop-number.ensures c.pages_for-pages.ensures.pages c.pages_for-pages.ensures.within

pub returns : goal.returns
returns c = room_by c.args.self.now (λ class. slice_index c.args.need.now class) c.loop-number.number c.loop-number.pages c.free_pages.result c.loop-number.invariant (omega arith) c.free_pages.ensures.free
