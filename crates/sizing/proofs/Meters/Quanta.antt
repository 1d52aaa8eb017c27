-- Quanta one after the other.
use Rattle.std.proofs.Common.{◌≡◌, ℕ, ◌<◌, Bool, true, false, if◌then◌else◌, List, [], ◌∷◌, length, arith, refl, ap, ◌∙◌, sym}
use Rattle.graph_heap.specs.Graph.{Graph}
use Rattle.heap_model.specs.declared.phase.Phase.{Phase}
use Rattle.heap_model.specs.State.{HeapState}
use Rattle.heap_model.specs.Event.{Course, Event, Command_done, Cycle_begun, Begin_refused, Quantum_done, Quantum_refused, Runs, Collects, IsCourse, present_of}
use Rattle.heap_model.proofs.Represents.{idle_chain}
use Rattle.heap_model.proofs.Event.Kept.{does_course, collects_present}
use Rattle.heap_model.specs.Phases.{awaits_sweep_end}
use Rattle.space.specs.Pace.{Beat, next_beat, in_cycle}
use Rattle.space.proofs.Paces.Pacing.{idle_phase}
use Rattle.space.proofs.Paces.Moved.{chain_tracing}
use Rattle.sizing.specs.Meter.{beat_after, AreQuanta}

-- if a sweep's end is awaited, it was before
pub runs_trace : (budget : ℕ) (qs : List Event) (r new : Course) → AreQuanta budget qs → Runs r qs new → awaits_sweep_end new.heap.phase ≡ true → awaits_sweep_end r.heap.phase ≡ true
runs_trace budget [] r new each runs t = ap (λ (x : Course). awaits_sweep_end x.heap.phase) (sym runs) ∙ t
runs_trace budget (Quantum_done b units phase ∷ qs) r new each runs t = chain_tracing r.heap runs.0.heap units runs.1.turn.chain (runs_trace budget qs runs.0 new each.1 runs.2 t)
runs_trace budget (Command_done m c reply ∷ qs) r new each runs t = elim each [ ]
runs_trace budget (Cycle_begun ∷ qs) r new each runs t = elim each [ ]
runs_trace budget (Begin_refused ∷ qs) r new each runs t = elim each [ ]
runs_trace budget (Quantum_refused b ∷ qs) r new each runs t = elim each [ ]

-- the beat after them
stays_idle : (r new : Course) (budget units : ℕ) (phase : Phase) → Collects r budget units phase new → in_cycle r.heap.phase ≡ false → in_cycle new.heap.phase ≡ false
stays_idle r new budget units phase c off = ap (λ (h : HeapState). in_cycle h.phase) (idle_chain r.heap new.heap units c.turn.chain (idle_phase r.heap.phase off)).0 ∙ off

pub runs_idle : (budget : ℕ) (qs : List Event) (b : Beat) (r new : Course) → AreQuanta budget qs → Runs r qs new → b.cycle_running ≡ false → in_cycle r.heap.phase ≡ false → (beat_after b qs ≡ b) × (in_cycle new.heap.phase ≡ false)
runs_idle budget [] b r new each runs off idle = (refl, ap (λ (x : Course). in_cycle x.heap.phase) runs ∙ idle)
runs_idle budget (Quantum_done given units phase ∷ qs) b r new each runs off idle =
    let same : next_beat b (Quantum_done given units phase) ≡ b = ap (λ z. if z then record b { cycle_running = in_cycle phase; asked = λ class. 0 } else b) off in
    let w = runs_idle budget qs b runs.0 new each.1 runs.2 off (stays_idle r runs.0 given units phase runs.1 idle) in
    (ap (λ x. beat_after x qs) same ∙ w.0, w.1)
runs_idle budget (Command_done m c reply ∷ qs) b r new each runs off idle = elim each [ ]
runs_idle budget (Cycle_begun ∷ qs) b r new each runs off idle = elim each [ ]
runs_idle budget (Begin_refused ∷ qs) b r new each runs off idle = elim each [ ]
runs_idle budget (Quantum_refused given ∷ qs) b r new each runs off idle = elim each [ ]

abbrev fresh : Graph → Bool → Beat
fresh g on = record { graph = g; cycle_running = on; asked = λ class. 0 }

fresh_beat : (budget : ℕ) (qs : List Event) (g : Graph) (on : Bool) (r new : Course) → AreQuanta budget qs → Runs r qs new → on ≡ in_cycle r.heap.phase → beat_after (fresh g on) qs ≡ fresh g (in_cycle new.heap.phase)
fresh_beat budget [] g on r new each runs is = ap (fresh g) (is ∙ ap (λ (x : Course). in_cycle x.heap.phase) (sym runs))
fresh_beat budget (Quantum_done given units phase ∷ qs) g true r new each runs is = fresh_beat budget qs g (in_cycle phase) runs.0 new each.1 runs.2 (ap in_cycle (sym runs.1.ends))
fresh_beat budget (Quantum_done given units phase ∷ qs) g false r new each runs is = fresh_beat budget qs g false runs.0 new each.1 runs.2 (sym (stays_idle r runs.0 given units phase runs.1 (sym is)))
fresh_beat budget (Command_done m c reply ∷ qs) g on r new each runs is = elim each [ ]
fresh_beat budget (Cycle_begun ∷ qs) g on r new each runs is = elim each [ ]
fresh_beat budget (Begin_refused ∷ qs) g on r new each runs is = elim each [ ]
fresh_beat budget (Quantum_refused given ∷ qs) g on r new each runs is = elim each [ ]

pub quanta_beat : (budget : ℕ) (qs : List Event) (b : Beat) (r new : Course) → AreQuanta budget qs → 0 < length qs → Runs r qs new → b.cycle_running ≡ in_cycle r.heap.phase
    → (beat_after b qs ≡ (if b.cycle_running then record b { cycle_running = in_cycle new.heap.phase; asked = λ class. 0 } else b)) × ((beat_after b qs).cycle_running ≡ in_cycle new.heap.phase)
quanta_beat budget [] b r new each some runs is = absurd (omega (arith, some))
quanta_beat budget (Quantum_done given units phase ∷ qs) b r new each some runs is = by_on b.cycle_running refl
  where
    by_on : (o : Bool) → b.cycle_running ≡ o → (beat_after (if o then record b { cycle_running = in_cycle phase; asked = λ class. 0 } else b) qs ≡ (if o then record b { cycle_running = in_cycle new.heap.phase; asked = λ class. 0 } else b))
        × ((beat_after (if o then record b { cycle_running = in_cycle phase; asked = λ class. 0 } else b) qs).cycle_running ≡ in_cycle new.heap.phase)
    by_on true e = let w = fresh_beat budget qs b.graph (in_cycle phase) runs.0 new each.1 runs.2 (ap in_cycle (sym runs.1.ends)) in (w, ap (λ (x : Beat). x.cycle_running) w)
    by_on false e =
        let w = runs_idle budget qs b runs.0 new each.1 runs.2 e (stays_idle r runs.0 given units phase runs.1 (sym is ∙ e)) in (w.0, ap (λ (x : Beat). x.cycle_running) w.0 ∙ e ∙ sym w.1)
quanta_beat budget (Command_done m c reply ∷ qs) b r new each some runs is = elim each [ ]
quanta_beat budget (Cycle_begun ∷ qs) b r new each some runs is = elim each [ ]
quanta_beat budget (Begin_refused ∷ qs) b r new each some runs is = elim each [ ]
quanta_beat budget (Quantum_refused given ∷ qs) b r new each some runs is = elim each [ ]

-- the graph heap stays
pub quanta_present : (budget : ℕ) (qs : List Event) (r new : Course) → AreQuanta budget qs → IsCourse r → Runs r qs new → present_of new ≡ present_of r
quanta_present budget [] r new each w runs = ap present_of runs
quanta_present budget (Quantum_done given units phase ∷ qs) r new each w runs =
    quanta_present budget qs runs.0 new each.1 (does_course r (Quantum_done given units phase) runs.0 w runs.1) runs.2 ∙ collects_present r runs.0 given units phase w runs.1
quanta_present budget (Command_done m c reply ∷ qs) r new each w runs = elim each [ ]
quanta_present budget (Cycle_begun ∷ qs) r new each w runs = elim each [ ]
quanta_present budget (Begin_refused ∷ qs) r new each w runs = elim each [ ]
quanta_present budget (Quantum_refused given ∷ qs) r new each w runs = elim each [ ]
