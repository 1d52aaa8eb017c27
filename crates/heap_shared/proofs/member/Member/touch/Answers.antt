use Rattle.std.proofs.Common.{rules, ◌≡◌, true}
use Rattle.heap_shared.specs.Ring.{TouchesBy}
use Rattle.heap_shared.proofs.Changes.{touched_still, touched_events}
use Rattle.heap_shared.proofs.Members.{with_last, changed_in}
use Rattle.heap_shared.proofs.member.Member.touch.Goals as goal

pub invariant_of-self : goal.invariant_of-self
invariant_of-self c =
    let has : c.self.inside.inside ≡ true = search rules in
    with_last c.self.invariant (touched_still _ _ _ c.slot_mut.result.now c.touch.new.self has c.self.invariant.5 c.slot_mut.ensures.value c.args.pages c.touch.result c.touch.ensures)

pub returns : goal.returns
returns c =
    let has : c.self.inside.inside ≡ true = search rules in
    changed_in _ _ _ c.slot_mut.result.now c.touch.new.self has c.self.invariant.5 c.slot_mut.ensures.value _ _ c.self.view_is (TouchesBy c.args.pages) c.touch.result
    (touched_events _ _ _ c.slot_mut.result.now c.touch.new.self has c.self.invariant.5 c.slot_mut.ensures.value c.args.pages c.touch.result c.touch.ensures) c.touch.ensures
