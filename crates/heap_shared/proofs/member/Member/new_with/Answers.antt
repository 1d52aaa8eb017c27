use Rattle.std.proofs.Common.{◌≡◌, ◌∙◌, ap, sym}
use Rattle.bulk.specs.Lists.{makes}
use Rattle.heap_shared.proofs.Changes.{told_as, made_still, made_in}
use Rattle.heap_shared.proofs.Members.{with_last}
use Rattle.heap_shared.proofs.member.Member.new_with.Goals.{in-Ok, in-Err}
use Rattle.heap_shared.proofs.member.Member.new_with.Goals as goal

pub invariant_of-self : goal.invariant_of-self
invariant_of-self c =
    with_last c.self.invariant
    (made_still _ _ _ c.slot_mut-heap.result.now c.new_with.new.self c.self.invariant.5 c.slot_mut-heap.ensures.value _ _ c.self.view_is c.args.mutator c.in_ok-may.ensures (makes c.args.dst c.args.shape c.args.refs.now c.args.words.now) c.new_with.result c.new_with.ensures)

pub returns : goal.returns
returns c =
    let cs = makes c.args.dst c.args.shape c.args.refs.now c.args.words.now in
    let same : c.match-new_with.result ≡ told_as c.new_with.result = elim c.match-new_with.branch [ in-Ok w ↦ w.result-is ∙ sym (ap told_as w.in-Ok.is) | in-Err w ↦ w.result-is ∙ sym (ap told_as w.in-Err.is) ] in
    made_in _ _ _ c.slot_mut-heap.result.now c.new_with.new.self c.self.invariant.5 c.slot_mut-heap.ensures.value _ _ c.self.view_is c.args.mutator c.in_ok-may.ensures cs c.new_with.result c.match-new_with.result same c.new_with.ensures
