use Rattle.bulk.specs.Lists.{clears}
use Rattle.heap_shared.proofs.Changes.{listed_still, listed}
use Rattle.heap_shared.proofs.Listing.{lists, clears_quiet}
use Rattle.heap_shared.proofs.Members.{with_last}
use Rattle.heap_shared.proofs.member.Member.clear_slots.Goals as goal

pub invariant_of-self : goal.invariant_of-self
invariant_of-self c =
    let does = c.clear_slots.ensures in
    let cs = clears c.args.first c.args.count in
    with_last c.self.invariant
    (listed_still _ _ _ c.slot_mut-heap.result.now c.clear_slots.new.heap c.self.invariant.5 c.slot_mut-heap.ensures.value _ _ c.self.view_is c.args.mutator c.in_ok-may.ensures cs does.0 c.clear_slots.result
    (lists c.args.mutator cs does.0 c.clear_slots.result c.slot_mut-heap.result.now c.clear_slots.new.heap (clears_quiet c.args.first c.args.count) does.1))

pub returns : goal.returns
returns c =
    let does = c.clear_slots.ensures in
    let cs = clears c.args.first c.args.count in (
      does.0,
      listed _ _ _ c.slot_mut-heap.result.now c.clear_slots.new.heap c.self.invariant.5 c.slot_mut-heap.ensures.value _ _ c.self.view_is c.args.mutator c.in_ok-may.ensures cs does.0 c.clear_slots.result
          (lists c.args.mutator cs does.0 c.clear_slots.result c.slot_mut-heap.result.now c.clear_slots.new.heap (clears_quiet c.args.first c.args.count) does.1),
    )
