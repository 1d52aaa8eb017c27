use Rattle.bulk.specs.Lists.{puts}
use Rattle.heap_shared.proofs.Changes.{listed_still, listed}
use Rattle.heap_shared.proofs.Listing.{lists, puts_quiet}
use Rattle.heap_shared.proofs.Members.{with_last}
use Rattle.heap_shared.proofs.member.Member.put_words.Goals as goal

pub invariant_of-self : goal.invariant_of-self
invariant_of-self c =
    let does = c.put_words.ensures in
    let cs = puts c.args.obj c.args.first c.args.words.now in
    with_last c.self.invariant
    (listed_still _ _ _ c.slot_mut-heap.result.now c.put_words.new.heap c.self.invariant.5 c.slot_mut-heap.ensures.value _ _ c.self.view_is c.args.mutator c.in_ok-may.ensures cs does.0 c.put_words.result
    (lists c.args.mutator cs does.0 c.put_words.result c.slot_mut-heap.result.now c.put_words.new.heap (puts_quiet c.args.obj c.args.first c.args.words.now) does.1))

pub returns : goal.returns
returns c =
    let does = c.put_words.ensures in
    let cs = puts c.args.obj c.args.first c.args.words.now in (
      does.0,
      listed _ _ _ c.slot_mut-heap.result.now c.put_words.new.heap c.self.invariant.5 c.slot_mut-heap.ensures.value _ _ c.self.view_is c.args.mutator c.in_ok-may.ensures cs does.0 c.put_words.result
          (lists c.args.mutator cs does.0 c.put_words.result c.slot_mut-heap.result.now c.put_words.new.heap (puts_quiet c.args.obj c.args.first c.args.words.now) does.1),
    )
