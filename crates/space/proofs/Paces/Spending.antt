-- The units that a cycle spends, and its number of quanta.
use Rattle.std.proofs.Common.{◌≡◌, ◌≢◌, ℕ, ◌+◌, ◌*◌, ◌/◌, ◌<◌, ◌≤◌, inl, inr, Bool, true, false, if◌then◌else◌, length, ap, ◌∙◌, sym, subst, arith, refl}
use Rattle.std.proofs.lemmas.Nat.{le-div}
use Rattle.graph_heap.specs.Graph.{Graph}
use Rattle.size_classes.specs.declared.class.TheConstants.{CLASSES}
use Rattle.heap_model.specs.declared.phase.Phase.{Phase}
use Rattle.heap_model.specs.declared.phase.Phase.TheVariants as phases
use Rattle.heap_model.specs.declared.phase.Moving.{Moving}
use Rattle.heap_model.specs.declared.phase.Moving.TheVariants as moves
use Rattle.heap_model.specs.State.{HeapState}
use Rattle.heap_model.specs.Settings.{HeapSettings, settings_of}
use Rattle.heap_model.specs.Spent.{IsWithin, cycle_limit, swept_units}
use Rattle.heap_model.specs.QuantumSpending.{NextCosts, Of_move, Of_other, QuantumSpends}
use Rattle.heap_model.specs.Event.{Course, Event, Command_done, Cycle_begun, Begin_refused, Quantum_done, Quantum_refused, Does, present_of, room_for, change_by}
use Rattle.heap_model.specs.Represents.{Represents}
use Rattle.heap_model.proofs.Spent.Actions.{marking_bound}
use Rattle.heap_model.proofs.Represents.{idle_chain}
use Rattle.heap_model.proofs.QuantumSpending.Quanta.{chain_units}
use Rattle.heap_model.proofs.Bound.{chain_limit, spent_more}
use Rattle.heap_model.proofs.Left.{change_left}
use Rattle.heap_model.specs.Phases.{awaits_sweep_end}
use Rattle.space.specs.Pace.{in_cycle}
use Rattle.space.proofs.Paces.Pacing.{idle_phase, quanta_after}

-- what a cycle may spend stays through each event
pub limit_stays : (r : Course) (e : Event) (new : Course) → Does r e new → cycle_limit new.heap ≡ cycle_limit r.heap
limit_stays r (Command_done m c reply) new does = (change_left r.heap new.heap (present_of r) (change_by (room_for r.heap c) (present_of r) m c) does.change).limit
limit_stays r Cycle_begun new does = ap cycle_limit does.heap
limit_stays r Begin_refused new does = ap (λ (z : Course). cycle_limit z.heap) does.1
limit_stays r (Quantum_done budget units phase) new does = chain_limit r.heap new.heap units does.turn.chain
limit_stays r (Quantum_refused budget) new does = ap (λ (z : Course). cycle_limit z.heap) does.1

-- a heap of the same size has the same limit
pub same_swept : (h after : HeapState) → cycle_limit after ≡ cycle_limit h → settings_of after ≡ settings_of h → swept_units after ≡ swept_units h
same_swept h after limit same =
    let pages : length after.store.pages ≡ length h.store.pages = ap (λ (s : HeapSettings). s.pages) same in
    let defrag : after.defrag_pages ≡ h.defrag_pages = ap (λ (s : HeapSettings). s.defrag_pages) same in
    let looks : (after.defrag_pages + CLASSES) * length after.store.pages ≡ (h.defrag_pages + CLASSES) * length h.store.pages =
    ap (λ z. (z + CLASSES) * length after.store.pages) defrag ∙ ap (λ z. (h.defrag_pages + CLASSES) * z) pages in
    omega (arith, limit, pages, looks)

-- up to the end of the sweep no more is spent than roots, marking and sweeping spend
pub swept_kept : (h : HeapState) (present snapshot : Graph) → Represents h present snapshot → awaits_sweep_end h.phase ≡ true → h.units ≤ swept_units h
swept_kept h present snapshot w on = by_phase h.phase refl w.within on
  where
    by_phase : (q : Phase) → h.phase ≡ q → IsWithin h q → awaits_sweep_end q ≡ true → h.units ≤ swept_units h
    by_phase phases.Idle e v on = absurd (cc)
    by_phase (phases.Roots next) e v on = let a = v.0 in let b = v.1 in omega (arith, a, b)
    by_phase (phases.Marking part cell) e v on = let a = v.0 in let b = marking_bound h present snapshot part cell w.pages w.consistent e in omega (arith, a, b)
    by_phase (phases.Sweeping page block) e v on = let a = v.0 in let b = v.1 in let d = v.2 in omega (arith, a, b, d)
    by_phase (phases.Moving m) e v on = absurd (cc)

-- if the next action isn't a move, it costs one unit, so that the whole budget was spent
pub all_spent : (h after : HeapState) (budget spent : ℕ) → QuantumSpends h budget after spent → ((m : Moving) → after.phase ≡ phases.Moving m → ⊥) → after.phase ≢ phases.Idle → budget ≤ spent
all_spent h after budget spent t none away = elim t.ends [
  | inl e ↦ absurd (away e)
  | inr n ↦ by_cost n.0 n.1 n.2
]
  where
    by_cost : (cost : ℕ) → NextCosts after cost → budget < spent + cost → budget ≤ spent
    by_cost cost (Of_move p m) l = absurd (none (moves.Emptying m.class m.page m.block m.chosen) m.phase)
    by_cost cost (Of_other on other) l = omega (arith, l)

-- while a cycle runs, each of its n quanta spent at least d units
abbrev pub HaveSpent : ℕ → Course → ℕ → Type 0
HaveSpent d r n = in_cycle r.heap.phase ≡ true → n * d ≤ r.heap.units

-- a quantum that doesn't end its cycle spends at least d units
abbrev pub Spends : ℕ → Event → Type 0
Spends d (Command_done m c reply) = Unit {0}
Spends d Cycle_begun = Unit {0}
Spends d Begin_refused = Unit {0}
Spends d (Quantum_done budget units phase) = phase ≢ phases.Idle → d ≤ units
Spends d (Quantum_refused budget) = Unit {0}

pub spent_next : (d : ℕ) (r : Course) (e : Event) (new : Course) (n : ℕ) → HaveSpent d r n → Spends d e → Does r e new → HaveSpent d new (quanta_after r e n)
spent_next d r (Command_done m c reply) new n spent enough does on =
    let left = change_left r.heap new.heap (present_of r) (change_by (room_for r.heap c) (present_of r) m c) does.change in
    let u = spent (sym (ap in_cycle left.phase) ∙ on) in
    let q = left.units in
    omega (arith, u, q)
spent_next d r Cycle_begun new n spent enough does on = omega arith
spent_next d r Begin_refused new n spent enough does on = subst (λ (z : Course). n * d ≤ z.heap.units) (sym does.1) (spent (sym (ap (λ (z : Course). in_cycle z.heap.phase) does.1) ∙ on))
spent_next d r (Quantum_done budget units phase) new n spent enough does on = by_on (in_cycle r.heap.phase) refl
  where
    away : phase ≢ phases.Idle
    away idle = let z : false ≡ true = sym (ap in_cycle (does.ends ∙ idle)) ∙ on in cc

    by_on : (o : Bool) → in_cycle r.heap.phase ≡ o → (if o then n + 1 else n) * d ≤ new.heap.units
    by_on true e = spent_more n d r.heap.units new.heap.units units (spent e) (chain_units r.heap new.heap units does.turn.chain) (enough away)
    by_on false e =
        let still = idle_chain r.heap new.heap units does.turn.chain (idle_phase r.heap.phase e) in
        absurd (let z : false ≡ true = sym e ∙ sym (ap (λ (z : HeapState). in_cycle z.phase) still.0) ∙ on in cc)
spent_next d r (Quantum_refused budget) new n spent enough does on = subst (λ (z : Course). n * d ≤ z.heap.units) (sym does.1) (spent (sym (ap (λ (z : Course). in_cycle z.heap.phase) does.1) ∙ on))

-- so, if a cycle spends no more than a limit, a quantum more is within those that fit in it
pub few_quanta : (d limit n units : ℕ) → 0 < d → n * d ≤ units → units ≤ limit → n + 1 ≤ limit / d + 1
few_quanta d limit n units some u l = let q = le-div n limit d some (omega (arith, u, l)) in omega (arith, q)
