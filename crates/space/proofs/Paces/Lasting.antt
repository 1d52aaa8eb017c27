-- A cycle lasts no more quanta than are stated.
use Rattle.std.proofs.Common.{◌≡◌, ℕ, ◌+◌, ◌*◌, ◌<◌, ◌≤◌, Bool, true, false, List, [], ◌∷◌, length, ap, ◌∙◌, sym, arith, refl}
use Rattle.heap_model.specs.declared.phase.Phase.{Phase}
use Rattle.heap_model.specs.State.{HeapState}
use Rattle.heap_model.specs.Spent.{swept_units}
use Rattle.heap_model.specs.Opening.{IsOpening}
use Rattle.heap_model.specs.Phases.{awaits_sweep_end}
use Rattle.heap_model.specs.Event.{Course, Event, Command_done, Cycle_begun, Begin_refused, Quantum_done, Quantum_refused, Runs, IsCourse, HaveBudgets, present_of, snapshot_of}
use Rattle.heap_model.specs.ReachedFrom.{opened}
use Rattle.heap_model.proofs.Event.Kept.{does_course, opening_course}
use Rattle.space.specs.Pace.{in_cycle, moved_quanta, unmoved_quanta}
use Rattle.space.specs.Lasting.{LastsAtMost}
use Rattle.space.proofs.Paces.Pacing.{idle_phase}
use Rattle.space.proofs.Paces.Spending.{same_swept, swept_kept, few_quanta}
use Rattle.space.proofs.Paces.Moved.{IsSpent, idle_spent, spent_few, spent_next}

-- a cycle runs until its sweep's end
awaiting_on : (q : Phase) → awaits_sweep_end q ≡ true → in_cycle q ≡ true
awaiting_on q on = idle_case (in_cycle q) refl
  where
    idle_case : (b : Bool) → in_cycle q ≡ b → in_cycle q ≡ true
    idle_case true e = e
    idle_case false e = absurd (let z : true ≡ false = sym on ∙ ap awaits_sweep_end (idle_phase q e) in cc)

module _ (h : HeapState) (k : ℕ) (great : 256 ≤ k) where
  -- up to its sweep's end each quantum spends its whole budget
  swept_few : (r : Course) (n : ℕ) → IsCourse r → IsSpent k h r n → awaits_sweep_end r.heap.phase ≡ true → n + 1 ≤ unmoved_quanta h k
  swept_few r n w i on =
      let l = swept_kept r.heap (present_of r) (snapshot_of r) w.represents on in
      let s = i.spent (awaiting_on r.heap.phase on) in
      let z = i.none on in
      let same = same_swept h r.heap i.limit i.settings in
      few_quanta k (swept_units h) n (n * k) (omega (arith, great)) (omega arith) (omega (arith, l, s, z, same))

  -- phases of a kind last at most `most` quanta in every run, if they do at each place of it
  all_last : (is_such : Phase → Bool) (most : ℕ) → ((r : Course) (n : ℕ) → IsCourse r → IsSpent k h r n → is_such r.heap.phase ≡ true → n + 1 ≤ most)
      → (es : List Event) (r new : Course) (n : ℕ) → IsCourse r → IsSpent k h r n → Runs r es new → HaveBudgets k es → LastsAtMost is_such most n es
  all_last is_such most few [] r new n w i runs great = tt
  all_last is_such most few (Command_done m c reply ∷ es) r new n w i runs enough =
      let next = runs.0 in
      all_last is_such most few es next new n (does_course r (Command_done m c reply) next w runs.1) (spent_next h k great r (Command_done m c reply) next n n w i tt refl runs.1) runs.2 enough
  all_last is_such most few (Cycle_begun ∷ es) r new n w i runs enough =
      let next = runs.0 in
      all_last is_such most few es next new 0 (does_course r Cycle_begun next w runs.1) (spent_next h k great r Cycle_begun next n 0 w i tt refl runs.1) runs.2 enough
  all_last is_such most few (Begin_refused ∷ es) r new n w i runs enough =
      let next = runs.0 in
      all_last is_such most few es next new n (does_course r Begin_refused next w runs.1) (spent_next h k great r Begin_refused next n n w i tt refl runs.1) runs.2 enough
  all_last is_such most few (Quantum_done budget units phase ∷ es) r new n w i runs enough =
      let next = runs.0 in
      let does = runs.1 in
      let after = does_course r (Quantum_done budget units phase) next w does in
      let kept = spent_next h k great r (Quantum_done budget units phase) next n (n + 1) w i enough.0 (λ on. refl) does in (
        λ on. (let z = few next (n + 1) after kept (ap is_such does.ends ∙ on) in omega (arith, z)),
        all_last is_such most few es next new (n + 1) after kept runs.2 enough.1,
      )
  all_last is_such most few (Quantum_refused budget ∷ es) r new n w i runs enough =
      let next = runs.0 in
      all_last is_such most few es next new n (does_course r (Quantum_refused budget) next w runs.1) (spent_next h k great r (Quantum_refused budget) next n n w i tt refl runs.1) runs.2 enough

module _ (h : HeapState) (es : List Event) (new : Course) (k : ℕ) (great : 256 ≤ k) (o : IsOpening h) (some : 0 < length h.store.pages) (runs : Runs (opened h) es new) (enough : HaveBudgets k es) where
  begun : IsSpent k h (opened h) 0
  begun = idle_spent k h (opened h) 0 refl refl (ap in_cycle o.phase)

  pub cycle_lasts : LastsAtMost in_cycle (moved_quanta h k) 0 es
  cycle_lasts = all_last h k great in_cycle (moved_quanta h k) (spent_few h k great) es (opened h) new 0 (opening_course h o some) begun runs enough

  pub sweep_lasts : LastsAtMost awaits_sweep_end (unmoved_quanta h k) 0 es
  sweep_lasts = all_last h k great awaits_sweep_end (unmoved_quanta h k) (swept_few h k great) es (opened h) new 0 (opening_course h o some) begun runs enough
