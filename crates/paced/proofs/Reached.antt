-- What is known of a paced heap wherever its events have led.
use Rattle.std.proofs.Common.{◌≡◌, ℕ, zero, suc, ◌+◌, ◌-◌, ◌*◌, ◌^◌, ◌<◌, ◌≤◌, Bool, true, false, if◌then◌else◌, nat_le, List, [], ◌∷◌, ◌++◌, length, ap, ◌∙◌, sym, subst, arith, refl, append_assoc}
use Rattle.std.proofs.Math.Nat.{mul-le-mul_left, mul-le-mul_right}
use Rattle.size_classes.specs.declared.config.Config.{Config}
use Rattle.size_classes.specs.Config.{limits_of}
use Rattle.graph_heap.specs.declared.command.Command.{Command}
use Rattle.graph_heap.specs.declared.command.Limits.{Limits}
use Rattle.graph_heap.specs.declared.command.Reply.{Reply}
use Rattle.heap_model.specs.State.{HeapState}
use Rattle.heap_model.specs.Left.{LeavesCycle}
use Rattle.heap_model.specs.Settings.{HeapSettings}
use Rattle.heap_model.specs.Event.{Course, Event, Command_done, Cycle_begun, Begin_refused, Quantum_done, Quantum_refused, Runs}
use Rattle.heap_model.specs.ReachedFrom.{opened}
use Rattle.heap_model.specs.QuantumSpending.{QuantumSpends}
use Rattle.heap_model.proofs.Represents.{idle_chain}
use Rattle.space.specs.Pace.{in_cycle}
use Rattle.space.specs.Room.{asks}
use Rattle.space.proofs.Fittings.Configured.{pages as same_pages, some as has_some, roots as same_roots}
use Rattle.space.proofs.Paces.Pacing.{idle_phase, command_left}
use Rattle.fragmentation.specs.Flow.{words_of, Flow, FlowMeter, opening_meter, next_meter, Paces, LivesIn, KeepsFlow, AllMetered, traced_words, sweep_quanta, flow_quanta, meter_after}
use Rattle.fragmentation.specs.Configured.{roots_in}
use Rattle.fragmentation.proofs.Flows.Lasting.{counted_few}
use Rattle.machine.specs.Plan.{Steps}
use Rattle.paced.specs.declared.plan.Plan.{Plan}
use Rattle.paced.specs.Cycles.{saturated, DoesOn}
use Rattle.paced.specs.Pacing.{Counts, PacedState, counted, Path, KeepsPlan}
use Rattle.paced.specs.Rooms.{planned_flow, IsJustPaced}
use Rattle.paced.specs.Planning.{quanta_on}
use Rattle.paced.specs.Bounds.{LastsWith, LiveWithinPlan}
use Rattle.paced.proofs.Paths.{path_then}
use Rattle.paced.proofs.Running.{IsKept, goes, event_does}
use Rattle.paced.proofs.Opened.{keeps_both, kept as opening_kept}

-- what holds of all events holds of those that come first
pub metered_first : (k : ℕ) (Passes : FlowMeter → Event → Type 0) (es fs : List Event) (t : FlowMeter) → AllMetered k Passes t (es ++ fs) → AllMetered k Passes t es
metered_first k Passes [] fs t all = tt
metered_first k Passes (e ∷ es) fs t all = (all.0, metered_first k Passes es fs (next_meter k t e) all.1)

module _ (plan : Plan) (live k : ℕ) where
  -- where events that keep the plan lead, its counts are as strict as the meter
  pub record Comes (r : Course) (t : FlowMeter) (es : List Event) (v : PacedState) : Type 0 where
    pub course : Course
    pub runs : Runs r es course
    pub kept : IsKept plan live k course v (meter_after k t es)
    pub paces : AllMetered k (Paces (planned_flow live plan)) t es

  pub comes : (es : List Event) (r : Course) (v new : PacedState) (t : FlowMeter) → IsKept plan live k r v t → Path KeepsPlan v es new → Comes r t es new
  comes [] r v new t i p = record { course = r; runs = refl; kept = subst (λ z. IsKept plan live k r z t) (sym p) i; paces = tt }
  comes (e ∷ es) r v new t i p =
      let x = goes plan live k e r v p.0 t i p.1 p.2 p.3 in
      let y = comes es x.course p.0 new (next_meter k t e) x.kept p.4 in
      record { course = y.course; runs = (x.course, x.does, y.runs); kept = y.kept; paces = (x.paces, y.paces) }

-- a quantum begins no cycle
pub quantum_runs : (h after : HeapState) (budget units : ℕ) → QuantumSpends h budget after units → in_cycle after.phase ≡ true → in_cycle h.phase ≡ true
quantum_runs h after budget units q on = by_on (in_cycle h.phase) refl
  where
    by_on : (b : Bool) → in_cycle h.phase ≡ b → in_cycle h.phase ≡ true
    by_on true e = e
    by_on false e =
        let still = idle_chain h after units q.chain (idle_phase h.phase e) in
        absurd (let z : false ≡ true = sym e ∙ sym (ap (λ (z : HeapState). in_cycle z.phase) still.0) ∙ on in cc)

-- one quantum more is no fewer
pub more_quanta : (b : Bool) (n : ℕ) → n ≤ 2 ^ 64 - 1 → n ≤ (if b then saturated (n + 1) else n)
more_quanta true n l = omega (arith, l)
more_quanta false n l = omega arith

pub few_saturated : (b : Bool) (n : ℕ) → n ≤ 2 ^ 64 - 1 → (if b then saturated (n + 1) else n) ≤ 2 ^ 64 - 1
few_saturated true n l = omega arith
few_saturated false n l = l

product : (a b : ℕ) → a * b ≡ b * a
product a b = grind arith

module _ (config : Config) (plan : Plan) (live largest : ℕ) (old : PacedState) (o : IsJustPaced config plan old) (lasts : LastsWith config plan live largest) where
  abbrev f : Flow
  f = planned_flow live plan

  abbrev k : ℕ
  k = config.collector_ticks * config.rate

  abbrev pub most : ℕ
  most = quanta_on config f config.pages

  -- Where events led from a heap that was just made, others are still to come; what is live is within the plan wherever a
  -- cycle begins; and the words that were asked for were allowed by the quanta that were done.
  pub record Stands (v : PacedState) (rest : List Event) : Type 0 where
    pub before : List Event
    pub path : Path KeepsPlan old before v
    pub lives : LiveWithinPlan config plan live (before ++ rest)
    pub words : in_cycle v.heap.phase ≡ true → v.counts.words ≤ (v.counts.quanta + 1) * plan.quantum_words
    pub saturates : v.counts.quanta ≤ 2 ^ 64 - 1

  module _ (v : PacedState) (rest : List Event) (s : Stands v rest) where
    come : Comes plan live k (opened old.heap) (opening_meter old.heap.limits) s.before v
    come = comes plan live k s.before (opened old.heap) old v (opening_meter old.heap.limits) (opening_kept (λ class. true) config plan live old old [] o) s.path

    pub plan_is : v.counts.plan ≡ plan
    plan_is = come.kept.plan_is

    pub budget_is : v.counts.budget ≡ k
    budget_is = come.kept.budget_is

    -- a command leaves the phase
    pub command_runs : (after : HeapState) (m : ℕ) (c : Command) (reply : Reply) → Steps v.heap m c reply after → in_cycle after.phase ≡ true → in_cycle v.heap.phase ≡ true
    command_runs after m c reply d on =
        let x = event_does come.course v.heap after (Command_done m c reply) come.kept.course come.kept.heap d in
        let left : LeavesCycle come.course.heap x.0.heap = command_left come.course x.0 m c reply x.2 in
        ap (λ (z : HeapState). in_cycle z.phase) (sym come.kept.heap) ∙ ap in_cycle (sym left.phase) ∙ ap (λ (z : HeapState). in_cycle z.phase) x.1 ∙ on

    -- a cycle that runs has had fewer quanta than it takes at most
    pub few : in_cycle v.heap.phase ≡ true → v.counts.quanta + 1 ≤ most
    few on =
        let q = come.kept.quanta in
        let c = counted_few old.heap s.before come.course f k great some o.heap pages_some come.runs keeps traced (ap (λ (z : HeapState). in_cycle z.phase) come.kept.heap ∙ on) in
        omega (arith, q, c, same)
      where
        pages_some : 0 < length old.heap.store.pages
        pages_some = has_some config old.heap o.heap o.settings config.pages_in_range.0

        great : 256 ≤ k
        great = config.budget_in_range.0

        some : 0 < k
        some = let g = great in omega (arith, g)

        pages : length old.heap.store.pages ≡ config.pages
        pages = same_pages config old.heap o.heap o.settings

        roots : length old.heap.roots ≡ roots_in config
        roots = same_roots config old.heap o.heap o.settings

        same : flow_quanta f (length old.heap.roots) (length old.heap.store.pages) k ≡ most
        same = ap (λ z. flow_quanta f z (length old.heap.store.pages) k) roots ∙ ap (λ z. flow_quanta f (roots_in config) z k) pages

        same_sweep : sweep_quanta f (length old.heap.roots) (length old.heap.store.pages) k ≡ sweep_quanta f (roots_in config) config.pages k
        same_sweep = ap (λ z. sweep_quanta f z (length old.heap.store.pages) k) roots ∙ ap (λ z. sweep_quanta f (roots_in config) z k) pages

        traced : traced_words f (sweep_quanta f (length old.heap.roots) (length old.heap.store.pages) k) ≤ plan.cycle_words
        traced =
            let l = lasts.lasts in
            let m = mul-le-mul_left plan.quantum_words (let z : sweep_quanta f (roots_in config) config.pages k ≤ most = omega arith in z) in
            let p = product (sweep_quanta f (roots_in config) config.pages k) plan.quantum_words in
            let e = ap (λ z. z * plan.quantum_words) same_sweep in
            omega (arith, l, m, p, e)

        keeps : AllMetered k (KeepsFlow f) (opening_meter old.heap.limits) s.before
        keeps = keeps_both f k s.before (opening_meter old.heap.limits) come.paces
            (subst (λ (l : Limits). AllMetered k (LivesIn f) (opening_meter l) s.before) (sym limits) (metered_first k (LivesIn f) s.before rest (opening_meter (limits_of config)) s.lives))
          where
            limits : old.heap.limits ≡ limits_of config
            limits = ap (λ (z : HeapSettings). z.limits) o.settings

    -- so an object that isn't too large may be asked for in the words of the cycle that runs
    pub has_words : (words : ℕ) → words ≤ largest → in_cycle v.heap.phase ≡ true → v.counts.words + words ≤ plan.cycle_words
    has_words words small on =
        let u = s.words on in
        let m = mul-le-mul_right plan.quantum_words (few on) in
        let p = product most plan.quantum_words in
        let l = lasts.lasts in
        omega (arith, u, m, p, l, small)

    -- and the quanta aren't more than 64 bits hold
    pub countable : in_cycle v.heap.phase ≡ true → v.counts.quanta + 1 ≤ 2 ^ 64 - 1
    countable on =
        let q = few on in
        let m = mul-le-mul_right most lasts.some in
        let l = lasts.lasts in
        let b = lasts.small in
        omega (arith, q, m, l, b)

    -- one event more
    pub stands_next : (new : PacedState) (e : Event) (es : List Event) → rest ≡ e ∷ es → KeepsPlan v e → DoesOn v.heap e new.heap → new.counts ≡ counted v.counts e → Stands new es
    stands_next new e es is keeps does counts = record {
      before = s.before ++ e ∷ [];
      path = path_then KeepsPlan s.before (e ∷ []) old v new s.path (new, keeps, does, counts, refl);
      lives = subst (LiveWithinPlan config plan live) (ap (λ z. s.before ++ z) is ∙ sym (append_assoc s.before (e ∷ []) es)) s.lives;
      words = words_by e keeps does counts;
      saturates = few_by e counts;
    }
      where
        words_by : (e : Event) → KeepsPlan v e → DoesOn v.heap e new.heap → new.counts ≡ counted v.counts e → in_cycle new.heap.phase ≡ true → new.counts.words ≤ (new.counts.quanta + 1) * plan.quantum_words
        words_by (Command_done m c reply) may d counts on = by_words (words_of (asks c)) refl
          where
            ran : in_cycle v.heap.phase ≡ true
            ran = command_runs new.heap m c reply d on

            now : new.counts.words ≡ v.counts.words + words_of (asks c)
            now = ap (λ (z : Counts). z.words) counts

            same : (new.counts.quanta + 1) * plan.quantum_words ≡ (v.counts.quanta + 1) * plan.quantum_words
            same = ap (λ (z : Counts). (z.quanta + 1) * plan.quantum_words) counts

            by_words : (n : ℕ) → n ≡ words_of (asks c) → new.counts.words ≤ (new.counts.quanta + 1) * plan.quantum_words
            by_words zero at = let l = s.words ran in let n = now in let q = same in omega (arith, l, n, q, at)
            by_words (suc n) at =
                let l = may.quanta (omega (arith, at)) ran in
                let p = ap (λ (z : Plan). (v.counts.quanta + 1) * z.quantum_words) plan_is in
                let n = now in let q = same in
                omega (arith, l, p, n, q)
        words_by Cycle_begun may d counts on = let n : new.counts.words ≡ 0 = ap (λ (z : Counts). z.words) counts in omega (arith, n)
        words_by Begin_refused may d counts on =
            let l = s.words (ap (λ (z : HeapState). in_cycle z.phase) (sym d.1) ∙ on) in
            let n : new.counts.words ≡ v.counts.words = ap (λ (z : Counts). z.words) counts in
            let q : (new.counts.quanta + 1) * plan.quantum_words ≡ (v.counts.quanta + 1) * plan.quantum_words = ap (λ (z : Counts). (z.quanta + 1) * plan.quantum_words) counts in
            omega (arith, l, n, q)
        words_by (Quantum_done budget units phase) may d counts on =
            let l = s.words (quantum_runs v.heap new.heap budget units d.1 on) in
            let n : new.counts.words ≡ v.counts.words = ap (λ (z : Counts). z.words) counts in
            let q : new.counts.quanta ≡ (if nat_le v.counts.budget budget then saturated (v.counts.quanta + 1) else v.counts.quanta) = ap (λ (z : Counts). z.quanta) counts in
            let a = more_quanta (nat_le v.counts.budget budget) v.counts.quanta s.saturates in
            let m = mul-le-mul_right plan.quantum_words (let z : v.counts.quanta + 1 ≤ new.counts.quanta + 1 = omega (arith, a, q) in z) in
            omega (arith, l, n, m)
        words_by (Quantum_refused budget) may d counts on =
            let l = s.words (ap (λ (z : HeapState). in_cycle z.phase) (sym d.1) ∙ on) in
            let n : new.counts.words ≡ v.counts.words = ap (λ (z : Counts). z.words) counts in
            let q : (new.counts.quanta + 1) * plan.quantum_words ≡ (v.counts.quanta + 1) * plan.quantum_words = ap (λ (z : Counts). (z.quanta + 1) * plan.quantum_words) counts in
            omega (arith, l, n, q)

        few_by : (e : Event) → new.counts ≡ counted v.counts e → new.counts.quanta ≤ 2 ^ 64 - 1
        few_by (Command_done m c reply) counts = let q : new.counts.quanta ≡ v.counts.quanta = ap (λ (z : Counts). z.quanta) counts in let l = s.saturates in omega (arith, q, l)
        few_by Cycle_begun counts = let q : new.counts.quanta ≡ 0 = ap (λ (z : Counts). z.quanta) counts in omega (arith, q)
        few_by Begin_refused counts = let q : new.counts.quanta ≡ v.counts.quanta = ap (λ (z : Counts). z.quanta) counts in let l = s.saturates in omega (arith, q, l)
        few_by (Quantum_done budget units phase) counts =
            let q : new.counts.quanta ≡ (if nat_le v.counts.budget budget then saturated (v.counts.quanta + 1) else v.counts.quanta) = ap (λ (z : Counts). z.quanta) counts in
            let l = few_saturated (nat_le v.counts.budget budget) v.counts.quanta s.saturates in
            omega (arith, q, l)
        few_by (Quantum_refused budget) counts = let q : new.counts.quanta ≡ v.counts.quanta = ap (λ (z : Counts). z.quanta) counts in let l = s.saturates in omega (arith, q, l)

  -- where nothing was done yet
  pub stands_first : (es : List Event) → LiveWithinPlan config plan live es → Stands old es
  stands_first es lives = record {
    before = [];
    path = refl;
    lives = lives;
    words = λ on. (let n : old.counts.words ≡ 0 = ap (λ (z : Counts). z.words) o.counts in omega (arith, n));
    saturates = (let n : old.counts.quanta ≡ 0 = ap (λ (z : Counts). z.quanta) o.counts in omega (arith, n));
  }

  -- where some events led
  pub stands_path : (es rest : List Event) (v new : PacedState) → Stands v (es ++ rest) → Path KeepsPlan v es new → Stands new rest
  stands_path [] rest v new s p = subst (λ z. Stands z rest) (sym p) s
  stands_path (e ∷ es) rest v new s p = stands_path es rest p.0 new (stands_next v (e ∷ es ++ rest) s p.0 e (es ++ rest) refl p.1 p.2 p.3) p.4
