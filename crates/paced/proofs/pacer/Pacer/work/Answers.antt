use Rattle.std.proofs.Common.{◌≡◌, ◌∙◌, ap, subst}
use Rattle.heap_model.specs.declared.phase.Phase.TheVariants as phases
use Rattle.heap_model.specs.Event.{Event, IsBudget, Cycle_begun, Quantum_done}
use Rattle.machine.specs.Collecting.{Spends}
use Rattle.machine.specs.Recorded.{quantum_done}
use Rattle.paced.specs.Cycles.{cycles_after, EndsOrSpends}
use Rattle.paced.specs.Pacing.{PacerView, paced_by, state_by, counted}
use Rattle.paced.proofs.Pieces.{quantum_piece, spent_less}
use Rattle.paced.proofs.pacer.Pacer.work.Goals as goal

pub returns-in-Err-clause-piece : goal.returns-in-Err-clause-piece
returns-in-Err-clause-piece g c =
    let v = c.args.self.now in
    let mid = c.begin.new.heap in
    let after = c.quantum-spent.new.heap in
    let spent = c.quantum-spent.result in
    let budget : c.self.inside.budget ≡ v.counts.budget = ap (λ (p : PacerView). p.counts.budget) c.self.view_is in
    let So : Event → Type 0 = λ e. g.L.Log.enters c.args.log.now e c.enter-in-Err.new.self in
    quantum_piece So (paced_by v c.args.heap.now c.args.cycles.now) (paced_by c.count_quantum.new.self after c.quantum-spent.new.self) mid spent (subst (λ (p : PacerView). IsBudget p.counts.budget) c.self.view_is c.self.invariant) c.in-Err.ensures.begins
    (subst (λ b. Spends mid b after spent) budget c.quantum-spent.ensures.spends)
    (subst (λ b. c.quantum-spent.new.self ≡ cycles_after (quantum_done b spent) mid after c.args.cycles.now) budget (c.quantum-spent.ensures.counted ∙ ap (cycles_after (quantum_done c.self.inside.budget spent) mid after) c.in-Err.ensures.counted))
    (λ units phase. subst (λ b. c.count_quantum.new.self.counts ≡ counted v.counts (Quantum_done b units phase)) budget (ap (λ (p : PacerView). p.counts) (c.count_quantum.ensures units phase)))
    (subst (λ b. So (quantum_done b spent)) budget (subst So c.from_quantum.ensures c.enter-in-Err.ensures))

pub returns-in-Ok-clause-piece : goal.returns-in-Ok-clause-piece
returns-in-Ok-clause-piece g c = (
  record { event = Cycle_begun; is_piece = tt; does = c.in-Ok.ensures.begins; counts = ap (λ (p : PacerView). p.counts) c.count_begin.ensures; cycles = c.in-Ok.ensures.counted },
  c.enter.ensures,
)

pub returns-in-Err-clause-figures : goal.returns-in-Err-clause-figures
returns-in-Err-clause-figures g c = ap (λ (p : PacerView). p.figures) (c.count_quantum.ensures 0 phases.Idle)

pub returns-in-Err-clause-less : goal.returns-in-Err-clause-less
returns-in-Err-clause-less g c = λ any.
    let v = c.args.self.now in
    let mid = c.begin.new.heap in
    let after = c.quantum-spent.new.heap in
    let spent = c.quantum-spent.result in
    let budget : c.self.inside.budget ≡ v.counts.budget = ap (λ (p : PacerView). p.counts.budget) c.self.view_is in
    spent_less (state_by v c.args.heap.now) (state_by c.count_quantum.new.self after) mid spent (subst (λ (p : PacerView). IsBudget p.counts.budget) c.self.view_is c.self.invariant) c.in-Err.ensures.begins
    (subst (λ b. Spends mid b after spent) budget c.quantum-spent.ensures.spends)
    (subst (λ b. EndsOrSpends b spent) budget c.quantum-spent.ensures.ends)
    (ap (λ (p : PacerView). p.counts.words) (c.count_quantum.ensures 0 phases.Idle)) c.requires
