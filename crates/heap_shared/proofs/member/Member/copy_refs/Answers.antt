use Rattle.bulk.specs.Lists.{copies}
use Rattle.heap_shared.proofs.Changes.{listed_still, listed}
use Rattle.heap_shared.proofs.Listing.{lists, copies_quiet}
use Rattle.heap_shared.proofs.Members.{with_last}
use Rattle.heap_shared.proofs.member.Member.copy_refs.Goals as goal

pub invariant_of-self : goal.invariant_of-self
invariant_of-self c =
    let does = c.copy_refs.ensures in
    let cs = copies c.args.through c.args.from c.args.from_first c.args.to c.args.to_first c.args.count in
    with_last c.self.invariant
    (listed_still _ _ _ c.slot_mut-heap.result.now c.copy_refs.new.heap c.self.invariant.5 c.slot_mut-heap.ensures.value _ _ c.self.view_is c.args.mutator c.in_ok-may.ensures cs does.0 c.copy_refs.result
    (lists c.args.mutator cs does.0 c.copy_refs.result c.slot_mut-heap.result.now c.copy_refs.new.heap (copies_quiet c.args.through c.args.from c.args.from_first c.args.to c.args.to_first c.args.count) does.1))

pub returns : goal.returns
returns c =
    let does = c.copy_refs.ensures in
    let cs = copies c.args.through c.args.from c.args.from_first c.args.to c.args.to_first c.args.count in (
      does.0,
      listed _ _ _ c.slot_mut-heap.result.now c.copy_refs.new.heap c.self.invariant.5 c.slot_mut-heap.ensures.value _ _ c.self.view_is c.args.mutator c.in_ok-may.ensures cs does.0 c.copy_refs.result
          (lists c.args.mutator cs does.0 c.copy_refs.result c.slot_mut-heap.result.now c.copy_refs.new.heap (copies_quiet c.args.through c.args.from c.args.from_first c.args.to c.args.to_first c.args.count) does.1),
    )
