use Rattle.std.proofs.Common.{rules, ◌≡◌, true}
use Rattle.heap_shared.proofs.Members.{promised}
use Rattle.heap_shared.proofs.member.Member.promise.Goals as goal

pub returns-then-self-clause-promised : goal.returns-then-self-clause-promised
returns-then-self-clause-promised c =
    let has : c.self.inside.inside ≡ true = search rules in
    promised _ _ _ _ _ has c.self.invariant.5 c.self.view_is
