-- The notes of an observer of a run.
use Rattle.std.proofs.Common.{◌≡◌, ℕ, ◌-◌, length, true, false, List, [], ◌∷◌, ◌++◌, map, ap, ◌∙◌, sym, refl, append-nil, ◌&&◌}
use Rattle.std.specs.Prelude.{Result, Ok, Err, OnErr}
use Rattle.std.specs.List.{filter}
use Rattle.std.proofs.lemmas.List.{map-append}
use Rattle.std.proofs.lemmas.List.Elements.{filter-append}
use Rattle.heap_model.specs.declared.phase.Phase.{Phase}
use Rattle.heap_model.specs.declared.phase.Phase.TheVariants as phases
use Rattle.heap_model.specs.Phases.{is_idle}
use Rattle.space.specs.Pace.{in_cycle}
use Rattle.trace.specs.Steps.{Step, IsQuantum}
use Rattle.inspector.specs.Steps.{is_quantum, works}
use Rattle.pictures.specs.declared.quantum_log.QuantumLog.{QuantumLog}
use Rattle.pictures.specs.declared.sample.Phases.{Phases}
use Rattle.pictures.specs.Samples.{phases_of}
use Rattle.pictures.specs.Quanta.{budget_of, quantum_of, quanta_of, HasQuanta}

-- memory may be refused
pub on_err : {A E : Type 0} (r : Result A E) → OnErr r (Unit {0})
on_err (Ok x) = tt
on_err (Err e) = tt

-- a cycle is running if the phase isn't idle, and none if it is
pub is_running : (p : Phase) → is_idle p ≡ false → in_cycle p ≡ true
is_running phases.Idle e = absurd (let z : true ≡ false = e in cc)
is_running (phases.Roots next) e = refl
is_running (phases.Marking part cell) e = refl
is_running (phases.Sweeping page block) e = refl
is_running (phases.Moving m) e = refl

pub is_over : (p : Phase) → is_idle p ≡ true → in_cycle p ≡ false
is_over phases.Idle e = refl
is_over (phases.Roots next) e = absurd (let z : false ≡ true = e in cc)
is_over (phases.Marking part cell) e = absurd (let z : false ≡ true = e in cc)
is_over (phases.Sweeping page block) e = absurd (let z : false ≡ true = e in cc)
is_over (phases.Moving m) e = absurd (let z : false ≡ true = e in cc)

-- The steps go on by one.
quanta_more : (steps : List Step) (s : Step) → quanta_of (steps ++ s ∷ []) ≡ quanta_of steps ++ quanta_of (s ∷ [])
quanta_more steps s = ap (map quantum_of) (filter-append works steps (s ∷ [])) ∙ map-append quantum_of (filter works steps) (filter works (s ∷ []))

quanta_none : (s : Step) → works s ≡ false → quanta_of (s ∷ []) ≡ []
quanta_none s e = rw e refl

quanta_one : (s : Step) → works s ≡ true → quanta_of (s ∷ []) ≡ quantum_of s ∷ []
quanta_one s e = rw e refl

-- a step that is no quantum of a cycle
pub log_same : (steps : List Step) (s : Step) (log : QuantumLog) → works s ≡ false → HasQuanta steps log → HasQuanta (steps ++ s ∷ []) log
log_same steps s log none has ok = has ok ∙ sym (append-nil (quanta_of steps)) ∙ ap (λ xs. quanta_of steps ++ xs) (sym (quanta_none s none)) ∙ sym (quanta_more steps s)

-- a quantum of a cycle
pub log_more : (steps : List Step) (s : Step) (old new : QuantumLog) → works s ≡ true → HasQuanta steps old → new.is_refused ≡ old.is_refused → new.items.items ≡ old.items.items ++ quantum_of s ∷ [] → HasQuanta (steps ++ s ∷ []) new
log_more steps s old new one has same more ok =
    more ∙ ap (λ xs. xs ++ quantum_of s ∷ []) (has (sym same ∙ ok)) ∙ ap (λ xs. quanta_of steps ++ xs) (sym (quanta_one s one)) ∙ sym (quanta_more steps s)

-- a quantum is one of the cycle that it finds running
pub works_is : (s : Step) (budget : ℕ) → IsQuantum budget s → works s ≡ in_cycle s.before.heap.phase
works_is s budget is = ap (λ e. is_quantum e && in_cycle s.before.heap.phase) is.0.2

pub budget_is : (s : Step) (budget : ℕ) → IsQuantum budget s → budget ≡ budget_of s.event
budget_is s budget is = sym (ap budget_of is.0.2)

-- no quantum is none of a cycle
pub no_work : (s : Step) → is_quantum s.event ≡ false → works s ≡ false
no_work s e = ap (λ b. b && in_cycle s.before.heap.phase) e

-- a quantum, by its parts
pub quantum_made : (s : Step) (commands units budget : ℕ) (phase : Phases) → commands ≡ length s.after.history → units ≡ s.after.heap.units - s.before.heap.units → budget ≡ budget_of s.event → phase ≡ phases_of s.before.heap.phase
    → record { commands = commands; units = units; budget = budget; phase = phase } ≡ quantum_of s
quantum_made s commands units budget phase a b d e = rw (a, b, d, e) refl
