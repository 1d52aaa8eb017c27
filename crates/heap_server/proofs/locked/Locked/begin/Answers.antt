use Rattle.std.proofs.Common.{◌≡◌, ◌∙◌, ap, sym, subst, arith, ◌+◌, ℕ, refl}
use Rattle.heap_server.specs.Views.{PacerView}
use Rattle.heap_server.specs.Kept.{cycles_on}
use Rattle.heap_server.proofs.Keeping.{begin_kept}
use Rattle.heap_server.proofs.Booking.{cycled, cycled_pacer}
use Rattle.heap_server.proofs.locked.Locked.begin.Goals as goal

pub invariant_of-self-2 : goal.invariant_of-self-2
invariant_of-self-2 g c =
    let d = c.in_ok-begin.ensures.does in
    (begin_kept _ _ _ c.self.invariant.0 d refl (c.add.ensures.total ∙ ap (λ (n : ℕ). n + 1) c.audit.ensures.total) c.audit-2.ensures.total c.audit-3.ensures.total c.audit-4.ensures.total, c.self.invariant.1 ∙ sym d.history, omega (arith, c.self.invariant.2, c.begin.ensures.room))

pub returns-clause-begun : goal.returns-clause-begun
returns-clause-begun g c =
    let idle = ap cycles_on c.in_ok-begin.ensures.does.idle in
    let none : c.pacer.inside.ended.amount ≡ c.pacer.inside.begun.amount = omega (arith, c.audit.ensures.whole c.pacer.invariant.0, c.audit-2.ensures.whole c.pacer.invariant.1, c.self.invariant.0.cycles, idle) in (
      subst (λ (p : PacerView). p.ended ≡ p.begun) c.pacer.view_is none,
      cycled_pacer _ _ _ _ _ _ _ _ c.args.pacer.now c.pacer.view_is (c.add.ensures.amount ∙ ap (λ (n : ℕ). n + 1) c.audit.ensures.amount) c.audit-2.ensures.amount c.audit-3.ensures.amount c.audit-4.ensures.amount,
    )

pub returns-clause-books : goal.returns-clause-books
returns-clause-books g c =
    cycled _ c.args.self.now _ _ _ _ _ c.self.view_is (c.add.ensures.total ∙ ap (λ (n : ℕ). n + 1) c.audit.ensures.total) c.audit-2.ensures.total c.audit-3.ensures.total c.audit-4.ensures.total
