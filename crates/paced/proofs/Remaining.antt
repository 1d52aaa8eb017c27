-- How many pieces of work are left for words.
use Rattle.std.proofs.Common.{◌≡◌, ℕ, zero, suc, ◌+◌, ◌-◌, ◌*◌, ◌/◌, ◌<◌, ◌≤◌, inl, inr, Bool, true, false, if◌then◌else◌, nat_le, List, [], ◌∷◌, ◌++◌, length, ap, ◌∙◌, sym, subst, arith, refl, append-nil}
use Rattle.std.specs.Prelude.{max}
use Rattle.std.proofs.lemmas.Nat.{le-div}
use Rattle.std.proofs.lemmas.Bool.{le-leb}
use Rattle.std.proofs.Math.Nat.{mul-le-mul_left, div-mul-le_self}
use Rattle.size_classes.specs.declared.config.Config.{Config}
use Rattle.heap_model.specs.State.{HeapState}
use Rattle.heap_model.specs.Event.{Event, Command_done, Cycle_begun, Begin_refused, Quantum_done, Quantum_refused}
use Rattle.space.specs.Pace.{in_cycle}
use Rattle.paced.specs.declared.plan.Plan.{Plan}
use Rattle.paced.specs.Cycles.{saturated}
use Rattle.paced.specs.Pacing.{Counts, PacedState, Path, MayAsk, KeepsPlan, WorksFor}
use Rattle.paced.specs.Rooms.{IsJustPaced}
use Rattle.paced.specs.Bounds.{LastsWith, LiveWithinPlan, pieces_left}
use Rattle.paced.proofs.Pieces.{runs_on}
use Rattle.paced.proofs.Deeds.{none_works}
use Rattle.paced.proofs.Reached.{Stands, plan_is, has_words, countable, stands_next, stands_first, stands_path}
use Rattle.paced.proofs.Stretches.{order, asks_some}

-- a whole part is no more than what is divided
few_parts : (n each : ℕ) → 1 ≤ each → n / each ≤ n
few_parts n each some = let d : n / each * each ≤ n = div-mul-le_self n each in let m = mul-le-mul_left (n / each) some in omega (arith, d, m)

same_each : (n : ℕ) → 1 ≤ n → max n 1 ≡ n
same_each n some = omega (arith, some)

module _ (config : Config) (plan : Plan) (live words : ℕ) (old : PacedState) (o : IsJustPaced config plan old) (lasts : LastsWith config plan live words) where
  abbrev At : PacedState → List Event → Type 0
  At v rest = Stands config plan live words old o lasts v rest

  module _ (v : PacedState) (rest : List Event) (s : At v rest) where
    plan_now : v.counts.plan ≡ plan
    plan_now = plan_is config plan live words old o lasts v rest s

    -- what is told while a cycle runs
    running_left : in_cycle v.heap.phase ≡ true → pieces_left v words ≡ (v.counts.words + (words - 1)) / plan.quantum_words - v.counts.quanta
    running_left on =
        let e = ap (λ b. if b then saturated ((v.counts.words + (words - 1)) / max v.counts.plan.quantum_words 1) - v.counts.quanta else saturated ((words - 1) / max v.counts.plan.quantum_words 1 + 1)) on in
        let f = ap (λ (p : Plan). (v.counts.words + (words - 1)) / max p.quantum_words 1) plan_now in
        let g = ap (λ n. (v.counts.words + (words - 1)) / n) (same_each plan.quantum_words lasts.some) in
        let l = few_parts (v.counts.words + (words - 1)) plan.quantum_words lasts.some in
        let h = has_words config plan live words old o lasts v rest s words (omega arith) on in
        let b = lasts.small in
        omega (arith, e, f, g, l, h, b)

    -- and where none runs
    idle_left : in_cycle v.heap.phase ≡ false → pieces_left v words ≡ (words - 1) / plan.quantum_words + 1
    idle_left off =
        let e = ap (λ b. if b then saturated ((v.counts.words + (words - 1)) / max v.counts.plan.quantum_words 1) - v.counts.quanta else saturated ((words - 1) / max v.counts.plan.quantum_words 1 + 1)) off in
        let f = ap (λ (p : Plan). (words - 1) / max p.quantum_words 1) plan_now in
        let g = ap (λ n. (words - 1) / n) (same_each plan.quantum_words lasts.some) in
        let l = few_parts (words - 1) plan.quantum_words lasts.some in
        let a = lasts.lasts in
        let b = lasts.small in
        omega (arith, e, f, g, l, a, b)

  -- where no cycle runs, one is left at least
  idle_some : (v : PacedState) (rest : List Event) → At v rest → in_cycle v.heap.phase ≡ false → 1 ≤ pieces_left v words
  idle_some v rest s off = let i = idle_left v rest s off in omega (arith, i)

  module _ (v : PacedState) (rest : List Event) (s : At v rest) (none : MayAsk v words → ⊥) (on : in_cycle v.heap.phase ≡ true) where
    fit : v.counts.words + words ≤ plan.cycle_words
    fit = has_words config plan live words old o lasts v rest s words (omega arith) on

    over : (v.counts.quanta + 1) * plan.quantum_words < v.counts.words + words
    over = elim (order (v.counts.words + words) ((v.counts.quanta + 1) * plan.quantum_words)) [
      | inl l ↦ absurd (none (record {
        cycle = λ some. (let a = ap (λ (z : Plan). z.cycle_words) (plan_now v rest s) in let f = fit in omega (arith, f, a));
        quanta = λ some on. (let a = ap (λ (z : Plan). (v.counts.quanta + 1) * z.quantum_words) (plan_now v rest s) in omega (arith, l, a));
      }))
      | inr l ↦ l
    ]

    -- one is left at least for words that may not be asked for
    left : v.counts.quanta + 1 ≤ (v.counts.words + (words - 1)) / plan.quantum_words
    left =
        let o = over in
        let a = asks_some v words none in
        le-div (v.counts.quanta + 1) (v.counts.words + (words - 1)) plan.quantum_words lasts.some (omega (arith, o, a))

  some_left : (v : PacedState) (rest : List Event) → At v rest → (MayAsk v words → ⊥) → 1 ≤ pieces_left v words
  some_left v rest s none = by_phase (in_cycle v.heap.phase) refl
    where
      by_phase : (b : Bool) → in_cycle v.heap.phase ≡ b → 1 ≤ pieces_left v words
      by_phase true on = let r = running_left v rest s on in let d = left v rest s none on in omega (arith, r, d)
      by_phase false off = idle_some v rest s off

  -- as long as the words may not be asked for, another piece is due
  abbrev Due : ℕ → PacedState → Type 0
  Due more before = (more ≤ 1) × (MayAsk before words → more ≡ 0)

  due_left : (v : PacedState) (rest : List Event) (more : ℕ) → At v rest → Due more v → more ≤ pieces_left v words
  due_left v rest zero s due = omega arith
  due_left v rest (suc n) s due = let a = some_left v rest s (λ may. (let e = due.1 may in omega (arith, e))) in let b = due.0 in omega (arith, a, b)

  works : (work : List Event) (v before : PacedState) (rest : List Event) (more : ℕ) → At v (work ++ rest) → Path (WorksFor words) v work before → Due more before → length work + more ≤ pieces_left v words
  works [] v before rest more s p due = let l = due_left v rest more s (subst (Due more) p due) in omega (arith, l)
  works (Command_done m c reply ∷ work) v before rest more s p due = absurd p.1
  works (Cycle_begun ∷ work) v before rest more s p due =
      let mid = p.0 in
      let next = stands_next config plan live words old o lasts v (Cycle_begun ∷ work ++ rest) s mid Cycle_begun (work ++ rest) refl tt p.2 p.3 in
      let l = works work mid before rest more next p.4 due in
      let on : in_cycle mid.heap.phase ≡ true = ap (λ (z : HeapState). in_cycle z.phase) p.2.1 in
      let r = running_left mid (work ++ rest) next on in
      let u = ap (λ (z : Counts). (z.words + (words - 1)) / plan.quantum_words - z.quanta) p.3 in
      let n = ap (λ k. k / plan.quantum_words) (let z : 0 + (words - 1) ≡ words - 1 = omega arith in z) in
      let i = idle_left v (Cycle_begun ∷ work ++ rest) s (ap in_cycle p.2.0) in
      omega (arith, l, r, u, n, i)
  works (Begin_refused ∷ work) v before rest more s p due = absurd p.1
  works (Quantum_done budget units phase ∷ work) v before rest more s p due = let l = by_phase (works work p.0 before rest more next p.4 due) (in_cycle mid.heap.phase) refl in omega (arith, l)
    where
      e : Event
      e = Quantum_done budget units phase

      mid : PacedState
      mid = p.0

      on : in_cycle v.heap.phase ≡ true
      on = runs_on v.heap.phase p.1.2

      now : mid.counts.words ≡ v.counts.words
      now = ap (λ (z : Counts). z.words) p.3

      one : mid.counts.quanta ≡ v.counts.quanta + 1
      one =
          let q : mid.counts.quanta ≡ (if nat_le v.counts.budget budget then saturated (v.counts.quanta + 1) else v.counts.quanta) = ap (λ (z : Counts). z.quanta) p.3 in
          let b : nat_le v.counts.budget budget ≡ true = le-leb v.counts.budget budget (let same = p.1.1 in omega (arith, same)) in
          let c : (if nat_le v.counts.budget budget then saturated (v.counts.quanta + 1) else v.counts.quanta) ≡ saturated (v.counts.quanta + 1) = ap (λ z. if z then saturated (v.counts.quanta + 1) else v.counts.quanta) b in
          let l = countable config plan live words old o lasts v (e ∷ work ++ rest) s on in
          omega (arith, q, c, l)

      -- one is left at least, as one is done
      first : v.counts.quanta + 1 ≤ (v.counts.words + (words - 1)) / plan.quantum_words
      first = left v (e ∷ work ++ rest) s p.1.0 on

      next : At mid (work ++ rest)
      next = stands_next config plan live words old o lasts v (e ∷ work ++ rest) s mid e (work ++ rest) refl tt p.2 p.3

      by_phase : length work + more ≤ pieces_left mid words → (b : Bool) → in_cycle mid.heap.phase ≡ b → length work + 1 + more ≤ pieces_left v words
      by_phase l true still =
          let r = running_left mid (work ++ rest) next still in
          let u = ap (λ k. (k + (words - 1)) / plan.quantum_words) now in
          let n = one in
          let d = first in
          let i = running_left v (e ∷ work ++ rest) s on in
          omega (arith, l, r, u, n, d, i)
      by_phase l false ended =
          let may : MayAsk mid words = record {
            cycle = λ some. (let a = ap (λ (z : Plan). z.cycle_words) (plan_now mid (work ++ rest) next) in let f = fit v (e ∷ work ++ rest) s p.1.0 on in let n = now in omega (arith, f, a, n));
            quanta = λ some on1. absurd (let z : true ≡ false = sym on1 ∙ ended in cc);
          } in
          let empty = none_works work words mid before may p.4 in
          let none : length work ≡ 0 = ap (λ (z : List Event). length z) empty in
          let same : before ≡ mid = subst (λ w. Path (WorksFor words) mid w before) empty p.4 in
          let spent : more ≡ 0 = due.1 (subst (λ (z : PacedState). MayAsk z words) (sym same) may) in
          let d = first in
          let i = running_left v (e ∷ work ++ rest) s on in
          omega (arith, none, spent, d, i)
  works (Quantum_refused budget ∷ work) v before rest more s p due = absurd p.1

  pieces : (es : List Event) (mid before : PacedState) (work : List Event) (more : ℕ) → Path KeepsPlan old es mid → Path (WorksFor words) mid work before → LiveWithinPlan config plan live (es ++ work) → Due more before → length work + more ≤ pieces_left mid words
  pieces es mid before work more path p lives due =
      let s = stands_path config plan live words old o lasts es work old mid (stands_first config plan live words old o lasts (es ++ work) lives) path in
      works work mid before [] more (subst (λ z. At mid z) (sym (append-nil work)) s) p due

  pub pieces_suffice : (es : List Event) (mid before : PacedState) (work : List Event) → Path KeepsPlan old es mid → Path (WorksFor words) mid work before → LiveWithinPlan config plan live (es ++ work) → length work ≤ pieces_left mid words
  pieces_suffice es mid before work path p lives = let l = pieces es mid before work 0 path p lives (omega arith, λ may. refl) in omega (arith, l)

  pub pieces_fewer : (es : List Event) (mid before : PacedState) (work : List Event) → Path KeepsPlan old es mid → Path (WorksFor words) mid work before → LiveWithinPlan config plan live (es ++ work) → (MayAsk before words → ⊥) → length work < pieces_left mid words
  pieces_fewer es mid before work path p lives none = let l = pieces es mid before work 1 path p lives (omega arith, λ may. absurd (none may)) in omega (arith, l)
