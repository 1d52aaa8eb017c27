use Rattle.std.proofs.Common.{rules, ◌≡◌, true}
use Rattle.heap_shared.proofs.Changes.{prepared_still, prepared_in}
use Rattle.heap_shared.proofs.Members.{with_last}
use Rattle.heap_shared.proofs.member.Member.prepare.Goals as goal

pub invariant_of-self : goal.invariant_of-self
invariant_of-self c =
    let has : c.self.inside.inside ≡ true = search rules in
    with_last c.self.invariant (prepared_still _ _ _ c.slot_mut.result.now c.prepare.new.self has c.self.invariant.5 c.slot_mut.ensures.value c.args.words c.prepare.result c.prepare.ensures)

pub returns : goal.returns
returns c =
    let has : c.self.inside.inside ≡ true = search rules in
    prepared_in _ _ _ c.slot_mut.result.now c.prepare.new.self has c.self.invariant.5 c.slot_mut.ensures.value _ _ c.self.view_is c.args.words c.prepare.result c.prepare.ensures
