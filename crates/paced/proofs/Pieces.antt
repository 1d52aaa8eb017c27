-- Pieces of the collector's work: what each does, and that less is left after it.
use Rattle.std.proofs.Common.{◌≡◌, ◌≢◌, ℕ, ◌+◌, ◌-◌, ◌^◌, ◌<◌, ◌≤◌, ◌⊎◌, inl, inr, Bool, true, false, ◌==◌, if◌then◌else◌, min, Result, Ok, Err, List, [], ◌∷◌, ◌++◌, ap, ◌∙◌, sym, subst, arith, refl}
use Rattle.std.specs.Prelude.{not, max}
use Rattle.std.specs.Int.{from_bool}
use Rattle.heap_model.specs.declared.phase.Phase.{Phase}
use Rattle.heap_model.specs.declared.phase.Phase.TheVariants as phases
use Rattle.heap_model.specs.State.{HeapState}
use Rattle.heap_model.specs.Spent.{cycle_limit}
use Rattle.heap_model.specs.QuantumSpending.{QuantumSpends}
use Rattle.heap_model.specs.Event.{Event, Command_done, Cycle_begun, Begin_refused, Quantum_done, Quantum_refused, IsBudget, quanta_in}
use Rattle.heap_model.specs.ReachedFrom.{cycles_in}
use Rattle.heap_model.proofs.Bound.{chain_limit}
use Rattle.heap_model.proofs.QuantumSpending.Quanta.{chain_units}
use Rattle.space.specs.Pace.{in_cycle}
use Rattle.machine.specs.declared.collector.BudgetOutOfRange.{BudgetOutOfRange}
use Rattle.machine.specs.declared.collector.Spent.{Spent}
use Rattle.machine.specs.Collecting.{Spends}
use Rattle.machine.specs.Recorded.{quantum_done}
use Rattle.paced.specs.declared.figures.Figures.{Figures}
use Rattle.paced.specs.Cycles.{saturated, DoesOn, cycles_after, EndsOrSpends}
use Rattle.paced.specs.Logged.{Enters}
use Rattle.paced.specs.Pacing.{Counts, PacerView, PacedState, PacedView, paced_by, state_of, KeepsAgreeing, worked, counted, MayAsk, WorksFor, PaysUnless}
use Rattle.paced.specs.Working.{IsPiece, DoesPiece, work_left, HasWorked}
use Rattle.paced.proofs.Paths.{path_then, cycles_then, enters_then, same_plan}

-- a quantum of the pacer's budget is spent
pub quantum_piece : (So : Event → Type 0) (old new : PacedView) (mid : HeapState) (result : Result Spent BudgetOutOfRange) → IsBudget old.pacer.counts.budget → (old.heap.phase ≢ phases.Idle) × (mid ≡ old.heap)
    → Spends mid old.pacer.counts.budget new.heap result → new.cycles ≡ cycles_after (quantum_done old.pacer.counts.budget result) mid new.heap old.cycles
    → ((units : ℕ) (phase : Phase) → new.pacer.counts ≡ counted old.pacer.counts (Quantum_done old.pacer.counts.budget units phase)) → So (quantum_done old.pacer.counts.budget result) → (p : DoesPiece old false new) × So p.event
quantum_piece So old new mid (Ok spent) good busy s cycles counts so =
    let e = Quantum_done old.pacer.counts.budget spent.units spent.phase in (
      record {
        event = e;
        is_piece = (refl, busy.0);
        does = subst (λ h. DoesOn h e new.heap) busy.1 s;
        counts = counts spent.units spent.phase;
        cycles = subst (λ h. new.cycles ≡ cycles_after e h new.heap old.cycles) busy.1 cycles;
      },
      so,
    )
quantum_piece So old new mid (Err refused) good busy s cycles counts so = absurd (s.0 good)

pub runs_on : (p : Phase) → p ≢ phases.Idle → in_cycle p ≡ true
runs_on phases.Idle n = absurd (n refl)
runs_on (phases.Roots next) n = refl
runs_on (phases.Marking part cell) n = refl
runs_on (phases.Sweeping page block) n = refl
runs_on (phases.Moving m) n = refl

is_none : (n : ℕ) → n ≡ 0 → (n == 0) ≡ true
is_none n e = ap (λ z. z == 0) e

not_none : (n : ℕ) → 0 < n → (n == 0) ≡ false
not_none n l = grind arith

-- what is left of the cycle that runs
abbrev rest_of : HeapState → Bool → ℕ
rest_of h on = if on then cycle_limit h + 1 - h.units else 0

-- a quantum spends a unit, or ends the cycle
spending_less : (h after : HeapState) (budget units : ℕ) (phase : Phase) → QuantumSpends h budget after units → phase ≡ after.phase → 256 ≤ budget → (phase ≡ phases.Idle) ⊎ (budget < units + 256) → h.units ≤ cycle_limit h
    → rest_of after (in_cycle after.phase) < cycle_limit h + 1 - h.units
spending_less h after budget units phase q ends some (inl e) low = let o : rest_of after (in_cycle after.phase) ≡ 0 = ap (λ p. rest_of after (in_cycle p)) (sym ends ∙ e) in omega (arith, o, low)
spending_less h after budget units phase q ends some (inr l) low = by_on (in_cycle after.phase)
  where
    by_on : (b : Bool) → rest_of after b < cycle_limit h + 1 - h.units
    by_on true = let t = chain_units h after units q.chain in let e = chain_limit h after units q.chain in omega (arith, t, e, low, l, some)
    by_on false = omega (arith, low)

quantum_less : (old new : PacedState) (units : ℕ) (phase : Phase) → 256 ≤ old.counts.budget → old.heap.phase ≢ phases.Idle → QuantumSpends old.heap old.counts.budget new.heap units → phase ≡ new.heap.phase → (phase ≡ phases.Idle) ⊎ (old.counts.budget < units + 256)
    → new.counts.words ≡ old.counts.words → old.heap.units ≤ cycle_limit old.heap → work_left new < work_left old
quantum_less old new units phase some busy q ends spends words low =
    let limit = chain_limit old.heap new.heap units q.chain in
    let first : (if new.counts.words == 0 then 0 else cycle_limit new.heap + 2) ≡ (if old.counts.words == 0 then 0 else cycle_limit old.heap + 2) = ap (λ n. if n == 0 then 0 else cycle_limit new.heap + 2) words ∙ ap (λ n. if old.counts.words == 0 then 0 else n + 2) limit in
    let now : rest_of old.heap (in_cycle old.heap.phase) ≡ cycle_limit old.heap + 1 - old.heap.units = ap (rest_of old.heap) (runs_on old.heap.phase busy) in
    let later = spending_less old.heap new.heap old.counts.budget units phase q ends some spends low in
    omega (arith, first, now, later)

pub spent_less : (old new : PacedState) (mid : HeapState) (result : Result Spent BudgetOutOfRange) → IsBudget old.counts.budget → (old.heap.phase ≢ phases.Idle) × (mid ≡ old.heap) → Spends mid old.counts.budget new.heap result
    → EndsOrSpends old.counts.budget result → new.counts.words ≡ old.counts.words → old.heap.units ≤ cycle_limit old.heap → work_left new < work_left old
spent_less old new mid (Ok spent) good busy s spends words low =
    quantum_less old new spent.units spent.phase good.0 busy.0 (subst (λ h. QuantumSpends h old.counts.budget new.heap spent.units) busy.1 s.1) s.2 spends words low
spent_less old new mid (Err refused) good busy s spends words low = absurd (s.0 good)

-- a piece of work is done because the words may not be asked for yet
pub works_for : (words : ℕ) (v : PacedState) (began : Bool) (e : Event) → IsPiece v began e → (MayAsk v words → ⊥) → WorksFor words v e
works_for words v true (Command_done m c reply) i none = absurd i
works_for words v true Cycle_begun i none = none
works_for words v true Begin_refused i none = absurd i
works_for words v true (Quantum_done budget units phase) i none = absurd i
works_for words v true (Quantum_refused budget) i none = absurd i
works_for words v false (Command_done m c reply) i none = absurd i
works_for words v false Cycle_begun i none = absurd i
works_for words v false Begin_refused i none = absurd i
works_for words v false (Quantum_done budget units phase) i none = (none, i.0, i.1)
works_for words v false (Quantum_refused budget) i none = absurd i

-- how many quanta and beginnings it is
abbrev pub quanta_by : Bool → ℕ
quanta_by began = from_bool (not began)

abbrev pub cycles_by : Bool → ℕ
cycles_by began = from_bool began

pub piece_counts : (v : PacedState) (began : Bool) (e : Event) → IsPiece v began e → (quanta_in (e ∷ []) ≡ quanta_by began) × (cycles_in (e ∷ []) ≡ cycles_by began)
piece_counts v true (Command_done m c reply) i = absurd i
piece_counts v true Cycle_begun i = (refl, refl)
piece_counts v true Begin_refused i = absurd i
piece_counts v true (Quantum_done budget units phase) i = absurd i
piece_counts v true (Quantum_refused budget) i = absurd i
piece_counts v false (Command_done m c reply) i = absurd i
piece_counts v false Cycle_begun i = absurd i
piece_counts v false Begin_refused i = absurd i
piece_counts v false (Quantum_done budget units phase) i = (refl, refl)
piece_counts v false (Quantum_refused budget) i = absurd i

-- an event more adds to each count what it counts alone
counts_more : (es : List Event) (e : Event) → (quanta_in (es ++ e ∷ []) ≡ quanta_in es + quanta_in (e ∷ [])) × (cycles_in (es ++ e ∷ []) ≡ cycles_in es + cycles_in (e ∷ []))
counts_more [] e = (omega arith, omega arith)
counts_more (Command_done m c reply ∷ es) e = counts_more es e
counts_more (Cycle_begun ∷ es) e = let i = counts_more es e in (i.0, omega (arith, i.1))
counts_more (Begin_refused ∷ es) e = counts_more es e
counts_more (Quantum_done budget units phase ∷ es) e = let i = counts_more es e in (omega (arith, i.0), i.1)
counts_more (Quantum_refused budget ∷ es) e = counts_more es e

-- the figures, with the work as it was counted
pub figures_worked : (f : Figures) (work : List Event) (n m : ℕ) → n ≡ saturated (quanta_in work) → m ≡ saturated (cycles_in work)
    → record { quanta = saturated (f.quanta + n); cycles = saturated (f.cycles + m); most_quanta = max f.most_quanta n } ≡ worked f work
figures_worked f work n m quanta cycles =
    let q : saturated (f.quanta + n) ≡ saturated (f.quanta + quanta_in work) = omega (arith, quanta) in
    let c : saturated (f.cycles + m) ≡ saturated (f.cycles + cycles_in work) = omega (arith, cycles) in
    λ i. record { quanta = q i; cycles = c i; most_quanta = max f.most_quanta (quanta i) }

-- what is entered in a log besides
module _ {S : Type 0} (enters : S → Event → S → Type 0) where
  -- nothing was done yet
  pub worked_none : (words : ℕ) (v : PacedView) (a : S) → (w : HasWorked words v v 0 0) × Enters enters a w.work a
  worked_none words v a = (record { work = []; path = refl; counts = (refl, refl); quanta_done = omega arith; cycles_begun = omega arith; plan = refl }, refl)

  -- a piece more was done
  pub worked_more : (words : ℕ) (old now new : PacedView) (a b d : S) (quanta cycles more begun : ℕ) (began : Bool) (was : (w : HasWorked words old now quanta cycles) × Enters enters a w.work b) → (MayAsk (state_of now) words → ⊥)
      → (p : DoesPiece now began new) × enters b p.event d → more ≡ min (quanta + quanta_by began) (2 ^ 64 - 1) → begun ≡ min (cycles + cycles_by began) (2 ^ 64 - 1) → (w : HasWorked words old new more begun) × Enters enters a w.work d
  worked_more words old now new a b d quanta cycles more begun began was none piece q r =
      let w = was.0 in
      let p = piece.0 in
      let c = counts_more w.work p.event in
      let x = piece_counts (state_of now) began p.event p.is_piece in (
        record {
          work = w.work ++ p.event ∷ [];
          path = path_then (WorksFor words) w.work (p.event ∷ []) (state_of old) (state_of now) (state_of new) w.path (state_of new, works_for words (state_of now) began p.event p.is_piece none, p.does, p.counts, refl);
          counts = cycles_then w.work (p.event ∷ []) old.heap now.heap new.heap old.cycles now.cycles new.cycles w.counts (new.heap, p.does, (refl, p.cycles));
          quanta_done = (let n = c.0 in let y = x.0 in let v = w.quanta_done in omega (arith, n, y, v, q));
          cycles_begun = (let n = c.1 in let y = x.1 in let v = w.cycles_begun in omega (arith, n, y, v, r));
          plan = ap (λ (t : Counts). t.plan) p.counts ∙ same_plan now.pacer.counts p.event ∙ w.plan;
        },
        enters_then enters w.work (p.event ∷ []) a b d was.1 (d, piece.1, refl),
      )

  -- words are paid for once the work is done
  pub worked_pays : (words : ℕ) (old now : PacedView) (q : PacerView) (a b : S) (quanta cycles : ℕ) (was : (w : HasWorked words old now quanta cycles) × Enters enters a w.work b) → words ≤ old.pacer.counts.plan.cycle_words → MayAsk (state_of now) words
      → q.counts ≡ record now.pacer.counts { words = now.pacer.counts.words + words } → q.figures ≡ worked old.pacer.figures was.0.work → KeepsAgreeing old.heap now.heap → PaysUnless (λ es. Enters enters a es b) old words (Ok tt) (paced_by q now.heap now.cycles)
  worked_pays words old now q a b quanta cycles was fits may counts figures agrees = (
    fits,
    record { work = was.0.work; before = now.pacer.counts; works = was.0.path; may = may; counts = counts; figures = figures; cycles = was.0.counts; agrees = agrees },
    was.1,
  )
