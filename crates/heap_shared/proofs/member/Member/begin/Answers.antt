use Rattle.std.proofs.Common.{rules, ◌≡◌, true, [], ◌∷◌}
use Rattle.machine.specs.Recorded.{begin_done}
use Rattle.heap_shared.proofs.Accounts.{all_one}
use Rattle.heap_shared.proofs.Members.{with_last, gone_by, done_in, begin_allowed, same_figures}
use Rattle.heap_shared.proofs.member.Member.begin.Goals as goal

pub invariant_of-self : goal.invariant_of-self
invariant_of-self c =
    let has : c.self.inside.inside ≡ true = search rules in
    with_last c.self.invariant (gone_by _ _ _ _ _ has c.self.invariant.5 c.slot_mut.ensures.value (begin_done c.begin.result ∷ []) (all_one _ _ _ (begin_allowed _ _ c.begin.result)) c.begin.ensures.goes)

pub returns-clause-does : goal.returns-clause-does
returns-clause-does c =
    let has : c.self.inside.inside ≡ true = search rules in
    done_in _ _ _ _ c.begin.new.self has c.self.invariant.5 c.slot_mut.ensures.value _ _ c.self.view_is (begin_done) c.begin.result c.begin.ensures.goes

pub returns-clause-figures : goal.returns-clause-figures
returns-clause-figures c =
    let has : c.self.inside.inside ≡ true = search rules in
    same_figures _ _ _ _ c.begin.new.self has c.self.invariant.5 c.slot_mut.ensures.value _ _ c.self.view_is c.begin.ensures.figures
