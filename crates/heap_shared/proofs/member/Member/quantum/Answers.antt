use Rattle.std.proofs.Common.{rules, ◌≡◌, true, [], ◌∷◌}
use Rattle.machine.specs.Recorded.{quantum_done}
use Rattle.heap_shared.proofs.Accounts.{all_one}
use Rattle.heap_shared.proofs.Members.{with_last, gone_by, done_in, quantum_allowed, same_figures}
use Rattle.heap_shared.proofs.member.Member.quantum.Goals as goal

pub invariant_of-self : goal.invariant_of-self
invariant_of-self c =
    let has : c.self.inside.inside ≡ true = search rules in
    with_last c.self.invariant (gone_by _ _ _ _ _ has c.self.invariant.5 c.slot_mut.ensures.value (quantum_done c.args.budget c.quantum.result ∷ []) (all_one _ _ _ (quantum_allowed _ _ c.args.budget c.quantum.result)) c.quantum.ensures.goes)

pub returns-clause-does : goal.returns-clause-does
returns-clause-does c =
    let has : c.self.inside.inside ≡ true = search rules in
    done_in _ _ _ _ c.quantum.new.self has c.self.invariant.5 c.slot_mut.ensures.value _ _ c.self.view_is (quantum_done c.args.budget) c.quantum.result c.quantum.ensures.goes

pub returns-clause-figures : goal.returns-clause-figures
returns-clause-figures c =
    let has : c.self.inside.inside ≡ true = search rules in
    same_figures _ _ _ _ c.quantum.new.self has c.self.invariant.5 c.slot_mut.ensures.value _ _ c.self.view_is c.quantum.ensures.figures
