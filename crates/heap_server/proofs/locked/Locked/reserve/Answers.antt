use Rattle.std.proofs.Common.{◌∙◌, ap, sym, rules}
use Rattle.heap_model.specs.Event.{Course}
use Rattle.heap_server.proofs.Keeping.{reserve_kept}
use Rattle.heap_server.proofs.locked.Locked.reserve.Goals as goal

pub returns-then-self-calls-clause-room : goal.returns-then-self-calls-clause-room
returns-then-self-calls-clause-room c = search rules

pub returns-then-self-calls-clause-kept : goal.returns-then-self-calls-clause-kept
returns-then-self-calls-clause-kept c = search rules

pub invariant_of-self-then-self-calls : goal.invariant_of-self-then-self-calls
invariant_of-self-then-self-calls g c =
    let r = c.in_ok-reserve.ensures in (reserve_kept _ _ _ _ c.self.invariant.0 r.course, c.self.invariant.1 ∙ ap (λ (x : Course). x.history) (sym r.course), r.room)
