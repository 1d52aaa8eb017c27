use Rattle.bulk.specs.Lists.{moves}
use Rattle.heap_shared.proofs.Changes.{listed_still, listed}
use Rattle.heap_shared.proofs.Listing.{lists}
use Rattle.heap_shared.proofs.Members.{with_last}
use Rattle.heap_shared.proofs.member.Member.move_slot.Goals as goal

pub invariant_of-self : goal.invariant_of-self
invariant_of-self c =
    let does = c.move_slot.ensures in
    let cs = moves c.args.dst c.args.src in
    with_last c.self.invariant
    (listed_still _ _ _ c.slot_mut-heap.result.now c.move_slot.new.heap c.self.invariant.5 c.slot_mut-heap.ensures.value _ _ c.self.view_is c.args.mutator c.in_ok-may.ensures cs does.0 c.move_slot.result
    (lists c.args.mutator cs does.0 c.move_slot.result c.slot_mut-heap.result.now c.move_slot.new.heap tt does.1))

pub returns : goal.returns
returns c =
    let does = c.move_slot.ensures in
    let cs = moves c.args.dst c.args.src in (
      does.0,
      listed _ _ _ c.slot_mut-heap.result.now c.move_slot.new.heap c.self.invariant.5 c.slot_mut-heap.ensures.value _ _ c.self.view_is c.args.mutator c.in_ok-may.ensures cs does.0 c.move_slot.result
          (lists c.args.mutator cs does.0 c.move_slot.result c.slot_mut-heap.result.now c.move_slot.new.heap tt does.1),
    )
