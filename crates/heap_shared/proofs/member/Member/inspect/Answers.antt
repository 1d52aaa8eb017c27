use Rattle.std.proofs.Common.{rules, ◌≡◌, true}
use Rattle.heap_shared.proofs.Members.{has_turn, stays}
use Rattle.heap_shared.proofs.member.Member.inspect.Goals as goal

pub returns : goal.returns
returns g c =
    let has : c.self.inside.inside ≡ true = search rules in
    let i = c.self.invariant.5 in
    let value = c.slot_mut.ensures.value in
    (_, has_turn _ _ _ _ _ has i value _ c.self.view_is, c.inspect.ensures, stays _ _ _ _ _ has i value _ c.self.view_is)
