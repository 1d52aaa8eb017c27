use Rattle.std.proofs.Common.{◌≡◌, ◌∙◌, ℕ, ◌+◌, ap, sym, subst, refl, arith}
use Rattle.heap_model.specs.Event.{Course, Collects}
use Rattle.heap_model.specs.State.{HeapState}
use Rattle.heap_model.proofs.ReachedFrom.{reached_course}
use Rattle.heap_server.specs.Views.{PacerView, LockedView}
use Rattle.heap_server.specs.Kept.{cycles_on}
use Rattle.heap_server.specs.Paced.{IsPaced}
use Rattle.heap_server.proofs.Turning.{cycles_fall, quantum_paced}
use Rattle.heap_server.proofs.Keeping.{quantum_kept}
use Rattle.heap_server.proofs.Booking.{turned, pacer_same}
use Rattle.heap_server.proofs.locked.Locked.quantum.Goals as goal

pub overflow_sub-on : goal.overflow_sub-on
overflow_sub-on g c =
    let fall = cycles_fall _ _ _ _ _ (reached_course _ _ _ _ c.self.invariant.0.reached_from) c.in_ok-spent.ensures.does in
    let before : c.cycles_on-on.result ≡ cycles_on c.self.inside.recorded.course.heap.phase = c.cycles_on-on.ensures ∙ ap cycles_on (c.phase.ensures.phase ∙ ap (λ (h : HeapState). h.phase) c.heap.ensures.heap) in
    let after = c.cycles_on.ensures in
    omega arith

pub invariant_of-self-2 : goal.invariant_of-self-2
invariant_of-self-2 g c =
    let before : c.cycles_on-on.result ≡ cycles_on c.self.inside.recorded.course.heap.phase = c.cycles_on-on.ensures ∙ ap cycles_on (c.phase.ensures.phase ∙ ap (λ (h : HeapState). h.phase) c.heap.ensures.heap) in
    let after = c.cycles_on.ensures in
    let d = c.in_ok-spent.ensures.does in
    (quantum_kept _ _ _ _ _ _ c.self.invariant.0 d refl c.audit.ensures.total (omega (arith, before, after, c.add-3.ensures.total, c.audit-2.ensures.total)) (omega (arith, c.add.ensures.total, c.audit-3.ensures.total)) (omega (arith, c.add-2.ensures.total, c.audit-4.ensures.total, c.from.ensures)), c.self.invariant.1 ∙ sym d.history, omega (arith, c.self.invariant.2, c.quantum.ensures.room))

pub returns-clause-paced : goal.returns-clause-paced
returns-clause-paced g c =
    let before : c.cycles_on-on.result ≡ cycles_on c.self.inside.recorded.course.heap.phase = c.cycles_on-on.ensures ∙ ap cycles_on (c.phase.ensures.phase ∙ ap (λ (h : HeapState). h.phase) c.heap.ensures.heap) in
    let after = c.cycles_on.ensures in
    let begun = c.audit.ensures.whole c.pacer.invariant.0 in
    let ended = c.audit-2.ensures.whole c.pacer.invariant.1 in
    let new : PacerView = record { begun = c.audit.new.share.amount; ended = c.add-3.new.share.amount; quanta = c.add.new.share.amount; spent = c.add-2.new.share.amount } in
    subst (λ (p : PacerView). IsPaced p c.args.budget c.in_ok-spent.spent new) c.pacer.view_is (
    quantum_paced c.self.inside.recorded.course c.quantum.new.self.course c.args.budget c.in_ok-spent.spent _ new (reached_course _ _ _ _ c.self.invariant.0.reached_from) c.in_ok-spent.ensures.does c.in_ok-spent.ensures.ends
    (omega (arith, begun, ended, c.self.invariant.0.cycles)) c.audit.ensures.amount (omega (arith, c.add.ensures.amount, c.audit-3.ensures.amount)) (omega (arith, c.add-2.ensures.amount, c.audit-4.ensures.amount, c.from.ensures))
    (omega (arith, before, after, c.add-3.ensures.amount, c.audit-2.ensures.amount))
    )

pub returns-clause-does : goal.returns-clause-does
returns-clause-does g c =
    let s = c.in_ok-spent.spent in
    subst (λ (r : Course). Collects r c.args.budget s.units s.phase c.quantum.new.self.course) (ap (λ (v : LockedView). v.course) c.self.view_is) c.in_ok-spent.ensures.does

pub returns-clause-books : goal.returns-clause-books
returns-clause-books g c =
    let begun = c.audit.ensures.whole c.pacer.invariant.0 ∙ sym c.audit.ensures.total in
    let ended : c.add-3.new.share.amount ≡ c.add-3.new.self.total = omega (arith, c.audit-2.ensures.whole c.pacer.invariant.1, c.audit-2.ensures.total, c.audit-2.ensures.amount, c.add-3.ensures.total, c.add-3.ensures.amount) in
    let quanta : c.add.new.share.amount ≡ c.add.new.self.total = omega (arith, c.audit-3.ensures.whole c.pacer.invariant.2, c.audit-3.ensures.total, c.audit-3.ensures.amount, c.add.ensures.total, c.add.ensures.amount) in
    let spent : c.add-2.new.share.amount ≡ c.add-2.new.self.total = omega (arith, c.audit-4.ensures.whole c.pacer.invariant.3, c.audit-4.ensures.total, c.audit-4.ensures.amount, c.add-2.ensures.total, c.add-2.ensures.amount) in (
      turned _ c.args.self.now _ _ _ _ _ c.self.view_is c.audit.ensures.total (c.add.ensures.total ∙ ap (λ (n : ℕ). n + 1) c.audit-3.ensures.total),
      pacer_same _ _ _ _ _ _ _ _ (c.audit.ensures.amount ∙ begun) ended quanta spent,
    )
