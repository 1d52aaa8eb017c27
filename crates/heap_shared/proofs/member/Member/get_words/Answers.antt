use Rattle.std.proofs.Common.{length, take}
use Rattle.bulk.specs.InOrder.{words_told}
use Rattle.bulk.specs.Lists.{gets}
use Rattle.heap_shared.proofs.Changes.{listed_still, listed}
use Rattle.heap_shared.proofs.Listing.{lists, gets_quiet}
use Rattle.heap_shared.proofs.Members.{with_last}
use Rattle.heap_shared.proofs.member.Member.get_words.Goals as goal

pub invariant_of-self : goal.invariant_of-self
invariant_of-self c =
    let cs = gets c.args.obj c.args.first (length c.args.words.now) in
    let rs = words_told (take c.get_words.result.done c.get_words.new.words) in
    with_last c.self.invariant
    (listed_still _ _ _ c.slot_mut-heap.result.now c.get_words.new.heap c.self.invariant.5 c.slot_mut-heap.ensures.value _ _ c.self.view_is c.args.mutator c.in_ok-may.ensures cs rs c.get_words.result
    (lists c.args.mutator cs rs c.get_words.result c.slot_mut-heap.result.now c.get_words.new.heap (gets_quiet c.args.obj c.args.first (length c.args.words.now)) c.get_words.ensures.reads))

pub returns-clause-reads : goal.returns-clause-reads
returns-clause-reads c =
    let cs = gets c.args.obj c.args.first (length c.args.words.now) in
    let rs = words_told (take c.get_words.result.done c.get_words.new.words) in
    listed _ _ _ c.slot_mut-heap.result.now c.get_words.new.heap c.self.invariant.5 c.slot_mut-heap.ensures.value _ _ c.self.view_is c.args.mutator c.in_ok-may.ensures cs rs c.get_words.result
    (lists c.args.mutator cs rs c.get_words.result c.slot_mut-heap.result.now c.get_words.new.heap (gets_quiet c.args.obj c.args.first (length c.args.words.now)) c.get_words.ensures.reads)
