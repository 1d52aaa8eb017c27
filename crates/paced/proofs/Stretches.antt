-- The collector's work for a stretch of events keeps to the words that were asked for in it.
use Rattle.std.proofs.Common.{◌≡◌, ℕ, zero, suc, ◌+◌, ◌-◌, ◌*◌, ◌<◌, ◌≤◌, ◌⊎◌, inl, inr, true, false, if◌then◌else◌, nat_le, List, [], ◌∷◌, ◌++◌, ap, ◌∙◌, sym, subst, arith, refl}
use Rattle.std.specs.List.{AllByRecursion}
use Rattle.std.proofs.lemmas.Nat.{le-div}
use Rattle.std.proofs.lemmas.Bool.{le-leb}
use Rattle.std.proofs.Math.Nat.{mul-le-mul_right}
use Rattle.size_classes.specs.declared.config.Config.{Config}
use Rattle.heap_model.specs.declared.phase.Phase.{Phase}
use Rattle.heap_model.specs.State.{HeapState}
use Rattle.heap_model.specs.Event.{Event, Command_done, Cycle_begun, Begin_refused, Quantum_done, Quantum_refused, quanta_in}
use Rattle.heap_model.specs.ReachedFrom.{units_in}
use Rattle.space.specs.Pace.{in_cycle}
use Rattle.space.specs.Room.{asks}
use Rattle.fragmentation.specs.Flow.{words_of}
use Rattle.paced.specs.declared.plan.Plan.{Plan}
use Rattle.paced.specs.Cycles.{saturated, DoesOn}
use Rattle.paced.specs.Pacing.{Counts, PacedState, counted, Path, MayAsk, KeepsPlan, WorksFor}
use Rattle.paced.specs.Rooms.{IsJustPaced}
use Rattle.paced.specs.Bounds.{words_in, Deed, AreDone, events_of, quanta_paid, units_paid, words_asked, AsksWithin, LastsWith, LiveWithinPlan, KeepsToWords}
use Rattle.paced.proofs.Pieces.{runs_on}
use Rattle.paced.proofs.Deeds.{may_keep}
use Rattle.paced.proofs.Reached.{more_quanta, Stands, plan_is, budget_is, command_runs, quantum_runs, has_words, countable, stands_next, stands_first, stands_path}

-- a quantum more is paid for words that mayn't be asked for yet
one_paid : (paid asked words used quanta each : ℕ) → paid * each + used ≤ asked + (quanta + 1) * each → (quanta + 1) * each < used + words → (paid + 1) * each < asked + words + each
one_paid paid asked words used quanta each l m = let e = times_next paid each in omega (arith, l, m, e)
  where
    times_next : (n b : ℕ) → (n + 1) * b ≡ n * b + b
    times_next n b = grind arith

pub times_next : (n b : ℕ) → (n + 1) * b ≡ n * b + b
times_next n b = grind arith

none_times : (b : ℕ) → 0 * b ≡ 0
none_times b = grind arith

pub once_times : (b : ℕ) → (0 + 1) * b ≡ b
once_times b = grind arith

pub order : (a b : ℕ) → (a ≤ b) ⊎ (b < a)
order a b = grind arith

-- what mayn't be asked for is something
pub asks_some : (v : PacedState) (words : ℕ) → (MayAsk v words → ⊥) → 0 < words
asks_some v zero none = absurd (none (record { cycle = λ some. absurd (omega (arith, some)); quanta = λ some on. absurd (omega (arith, some)) }))
asks_some v (suc n) none = omega arith

module _ (config : Config) (plan : Plan) (live largest : ℕ) (old : PacedState) (o : IsJustPaced config plan old) (lasts : LastsWith config plan live largest) where
  abbrev each : ℕ
  each = plan.quantum_words

  abbrev At : PacedState → List Event → Type 0
  At v rest = Stands config plan live largest old o lasts v rest

  -- what was paid keeps to what was asked for
  pub record Owes (paid asked : ℕ) (v : PacedState) : Type 0 where
    pub total : paid * plan.quantum_words < asked + plan.quantum_words
    pub running : in_cycle v.heap.phase ≡ true → paid * plan.quantum_words + v.counts.words ≤ asked + (v.counts.quanta + 1) * plan.quantum_words

  -- the same while the collector works for so many words more: it has done nothing yet, or the words fit in the cycle
  pub record Owing (paid asked words : ℕ) (v : PacedState) : Type 0 where
    pub total : paid * plan.quantum_words < asked + words + plan.quantum_words
    pub running : in_cycle v.heap.phase ≡ true → paid * plan.quantum_words + v.counts.words ≤ asked + (v.counts.quanta + 1) * plan.quantum_words
    pub fits : (paid * plan.quantum_words < asked + plan.quantum_words) ⊎ (v.counts.words + words ≤ plan.cycle_words)

  module _ (v new : PacedState) (rest : List Event) (paid asked words : ℕ) (s : At v rest) (small : words ≤ largest) (w : Owing paid asked words v) (none : MayAsk v words → ⊥) where
    some : 0 < words
    some = asks_some v words none

    plan_now : v.counts.plan ≡ plan
    plan_now = plan_is config plan live largest old o lasts v rest s

    -- a cycle begins where no cycle has words for it
    begun_owing : DoesOn v.heap Cycle_begun new.heap → new.counts ≡ counted v.counts Cycle_begun → Owing paid asked words new
    begun_owing d counts = elim w.fits [
      | inl l ↦ record {
        total = (let t = w.total in omega (arith, t));
        running = λ on. (let e : (new.counts.quanta + 1) * plan.quantum_words ≡ (0 + 1) * plan.quantum_words = ap (λ (z : Counts). (z.quanta + 1) * plan.quantum_words) counts in let c = once_times plan.quantum_words in let n = zeroed in omega (arith, l, e, c, n));
        fits = inr (let n = zeroed in let a = lasts.lasts in omega (arith, n, a, small));
      }
      | inr l ↦ absurd (none (record {
        cycle = λ some. (let p = ap (λ (z : Plan). z.cycle_words) plan_now in omega (arith, l, p));
        quanta = λ some on. absurd (let z : false ≡ true = sym (ap in_cycle d.0) ∙ on in cc);
      }))
    ]
      where
        zeroed : new.counts.words ≡ 0
        zeroed = ap (λ (z : Counts). z.words) counts

    -- a quantum is spent
    quantum_owing : (budget units : ℕ) (phase : Phase) → budget ≡ v.counts.budget → in_cycle v.heap.phase ≡ true → new.counts ≡ counted v.counts (Quantum_done budget units phase) → Owing (paid + 1) asked words new
    quantum_owing budget units phase same on counts = record {
      total = one_paid paid asked words v.counts.words v.counts.quanta plan.quantum_words (w.running on) over;
      running = λ later. (let l = w.running on in let n = now in let q = next in let a = times_next paid plan.quantum_words in let b = times_next (v.counts.quanta + 1) plan.quantum_words in omega (arith, l, n, q, a, b));
      fits = inr (let n = now in let l = fit in omega (arith, n, l));
    }
      where
        now : new.counts.words ≡ v.counts.words
        now = ap (λ (z : Counts). z.words) counts

        fit : v.counts.words + words ≤ plan.cycle_words
        fit = has_words config plan live largest old o lasts v rest s words small on

        one : new.counts.quanta ≡ v.counts.quanta + 1
        one =
            let q : new.counts.quanta ≡ (if nat_le v.counts.budget budget then saturated (v.counts.quanta + 1) else v.counts.quanta) = ap (λ (z : Counts). z.quanta) counts in
            let b : nat_le v.counts.budget budget ≡ true = le-leb v.counts.budget budget (omega (arith, same)) in
            let c : (if nat_le v.counts.budget budget then saturated (v.counts.quanta + 1) else v.counts.quanta) ≡ saturated (v.counts.quanta + 1) = ap (λ z. if z then saturated (v.counts.quanta + 1) else v.counts.quanta) b in
            let l = countable config plan live largest old o lasts v rest s on in
            omega (arith, q, c, l)

        next : (new.counts.quanta + 1) * plan.quantum_words ≡ (v.counts.quanta + 1 + 1) * plan.quantum_words
        next = ap (λ z. (z + 1) * plan.quantum_words) one

        over : (v.counts.quanta + 1) * plan.quantum_words < v.counts.words + words
        over = elim (order (v.counts.words + words) ((v.counts.quanta + 1) * plan.quantum_words)) [
          | inl l ↦ absurd (none (record {
            cycle = λ some. (let p = ap (λ (z : Plan). z.cycle_words) plan_now in let a = fit in omega (arith, a, p));
            quanta = λ some on. (let p = ap (λ (z : Plan). (v.counts.quanta + 1) * z.quantum_words) plan_now in omega (arith, l, p));
          }))
          | inr l ↦ l
        ]

  -- the collector's work for words
  pub record Worked (paid asked words : ℕ) (v : PacedState) (rest : List Event) : Type 0 where
    pub stands : At v rest
    pub owing : Owing paid asked words v

  works : (work : List Event) (v before : PacedState) (rest : List Event) (paid asked words : ℕ) → At v (work ++ rest) → words ≤ largest → Path (WorksFor words) v work before → Owing paid asked words v → Worked (paid + quanta_in work) asked words before rest
  works [] v before rest paid asked words s small p w = subst (λ z. Worked (paid + 0) asked words z rest) (sym p) (subst (λ n. Worked n asked words v rest) (let z : paid ≡ paid + 0 = omega arith in z) (record { stands = s; owing = w }))
  works (Command_done m c reply ∷ work) v before rest paid asked words s small p w = absurd p.1
  works (Cycle_begun ∷ work) v before rest paid asked words s small p w =
      let next = stands_next config plan live largest old o lasts v (Cycle_begun ∷ work ++ rest) s p.0 Cycle_begun (work ++ rest) refl tt p.2 p.3 in
      works work p.0 before rest paid asked words next small p.4 (begun_owing v p.0 (Cycle_begun ∷ work ++ rest) paid asked words s small w p.1 p.2 p.3)
  works (Begin_refused ∷ work) v before rest paid asked words s small p w = absurd p.1
  works (Quantum_done budget units phase ∷ work) v before rest paid asked words s small p w =
      let e = Quantum_done budget units phase in
      let next = stands_next config plan live largest old o lasts v (e ∷ work ++ rest) s p.0 e (work ++ rest) refl tt p.2 p.3 in
      let more = works work p.0 before rest (paid + 1) asked words next small p.4 (quantum_owing v p.0 (e ∷ work ++ rest) paid asked words s small w p.1.0 budget units phase p.1.1 (runs_on v.heap.phase p.1.2) p.3) in
      subst (λ n. Worked n asked words before rest) (let z : paid + 1 + quanta_in work ≡ paid + (quanta_in work + 1) = omega arith in z) more
  works (Quantum_refused budget ∷ work) v before rest paid asked words s small p w = absurd p.1

  -- then the event itself
  event_owes : (e : Event) (v new : PacedState) (rest : List Event) (paid asked : ℕ) → At v (e ∷ rest) → Owing paid asked (words_in e) v → DoesOn v.heap e new.heap → new.counts ≡ counted v.counts e → Owes paid (asked + words_in e) new
  event_owes (Command_done m c reply) v new rest paid asked s w d counts = record {
    total = (let t = w.total in omega (arith, t));
    running = λ on. (
        let l = w.running (command_runs config plan live largest old o lasts v (Command_done m c reply ∷ rest) s new.heap m c reply d on) in
        let n : new.counts.words ≡ v.counts.words + words_of (asks c) = ap (λ (z : Counts). z.words) counts in
        let q : (new.counts.quanta + 1) * plan.quantum_words ≡ (v.counts.quanta + 1) * plan.quantum_words = ap (λ (z : Counts). (z.quanta + 1) * plan.quantum_words) counts in
        omega (arith, l, n, q)
        );
  }
  event_owes Cycle_begun v new rest paid asked s w d counts = record {
    total = (let t = w.total in omega (arith, t));
    running = λ on. (
        let t = w.total in
        let n : new.counts.words ≡ 0 = ap (λ (z : Counts). z.words) counts in
        let q : (new.counts.quanta + 1) * plan.quantum_words ≡ (0 + 1) * plan.quantum_words = ap (λ (z : Counts). (z.quanta + 1) * plan.quantum_words) counts in
        let c = once_times plan.quantum_words in
        omega (arith, t, n, q, c)
        );
  }
  event_owes Begin_refused v new rest paid asked s w d counts = record {
    total = (let t = w.total in omega (arith, t));
    running = λ on. (
        let l = w.running (ap (λ (z : HeapState). in_cycle z.phase) (sym d.1) ∙ on) in
        let n : new.counts.words ≡ v.counts.words = ap (λ (z : Counts). z.words) counts in
        let q : (new.counts.quanta + 1) * plan.quantum_words ≡ (v.counts.quanta + 1) * plan.quantum_words = ap (λ (z : Counts). (z.quanta + 1) * plan.quantum_words) counts in
        omega (arith, l, n, q)
        );
  }
  event_owes (Quantum_done budget units phase) v new rest paid asked s w d counts = record {
    total = (let t = w.total in omega (arith, t));
    running = λ on. (
        let l = w.running (quantum_runs v.heap new.heap budget units d.1 on) in
        let n : new.counts.words ≡ v.counts.words = ap (λ (z : Counts). z.words) counts in
        let q : new.counts.quanta ≡ (if nat_le v.counts.budget budget then saturated (v.counts.quanta + 1) else v.counts.quanta) = ap (λ (z : Counts). z.quanta) counts in
        let a = more_quanta (nat_le v.counts.budget budget) v.counts.quanta s.saturates in
        let m = mul-le-mul_right plan.quantum_words (let z : v.counts.quanta + 1 ≤ new.counts.quanta + 1 = omega (arith, a, q) in z) in
        omega (arith, l, n, m)
        );
  }
  event_owes (Quantum_refused budget) v new rest paid asked s w d counts = record {
    total = (let t = w.total in omega (arith, t));
    running = λ on. (
        let l = w.running (ap (λ (z : HeapState). in_cycle z.phase) (sym d.1) ∙ on) in
        let n : new.counts.words ≡ v.counts.words = ap (λ (z : Counts). z.words) counts in
        let q : (new.counts.quanta + 1) * plan.quantum_words ≡ (v.counts.quanta + 1) * plan.quantum_words = ap (λ (z : Counts). (z.quanta + 1) * plan.quantum_words) counts in
        omega (arith, l, n, q)
        );
  }

  stretch_owes : (ds : List Deed) (v new : PacedState) (paid asked : ℕ) → At v (events_of ds) → AreDone v ds new → AllByRecursion (AsksWithin largest) ds → Owes paid asked v → Owes (paid + quanta_paid ds) (asked + words_asked ds) new
  stretch_owes [] v new paid asked s done small w =
      subst (λ z. Owes (paid + 0) (asked + 0) z) (sym done) (record { total = (let t = w.total in let e = ap (λ n. n * plan.quantum_words) (let z : paid + 0 ≡ paid = omega arith in z) in omega (arith, t, e)); running = λ on. (let l = w.running on in let e = ap (λ n. n * plan.quantum_words) (let z : paid + 0 ≡ paid = omega arith in z) in omega (arith, l, e)) })
  stretch_owes (d ∷ ds) v new paid asked s done small w =
      let one = done.1 in
      let x = works d.work v one.before (d.event ∷ events_of ds) paid asked (words_in d.event) s small.0 one.works (record { total = (let t = w.total in omega (arith, t)); running = w.running; fits = inl w.total }) in
      let next = stands_next config plan live largest old o lasts one.before (d.event ∷ events_of ds) x.stands done.0 d.event (events_of ds) refl (may_keep d.event one.before one.may) one.does one.counts in
      let owes = event_owes d.event one.before done.0 (events_of ds) (paid + quanta_in d.work) asked x.stands x.owing one.does one.counts in
      let rest = stretch_owes ds done.0 new (paid + quanta_in d.work) (asked + words_in d.event) next done.2 small.1 owes in
      subst (λ n. Owes n (asked + (words_in d.event + words_asked ds)) new) (let z : paid + quanta_in d.work + quanta_paid ds ≡ paid + (quanta_in d.work + quanta_paid ds) = omega arith in z)
      (subst (λ n. Owes (paid + quanta_in d.work + quanta_paid ds) n new) (let z : asked + words_in d.event + words_asked ds ≡ asked + (words_in d.event + words_asked ds) = omega arith in z) rest)

  -- no quantum spends more than its budget
  work_units : (work : List Event) (words budget : ℕ) (v before : PacedState) → Path (WorksFor words) v work before → v.counts.budget ≡ budget → units_in work ≤ quanta_in work * budget
  work_units [] words budget v before p same = omega arith
  work_units (Command_done m c reply ∷ work) words budget v before p same = absurd p.1
  work_units (Cycle_begun ∷ work) words budget v before p same = work_units work words budget p.0 before p.4 (ap (λ (z : Counts). z.budget) p.3 ∙ same)
  work_units (Begin_refused ∷ work) words budget v before p same = absurd p.1
  work_units (Quantum_done b units phase ∷ work) words budget v before p same =
      let l = work_units work words budget p.0 before p.4 (ap (λ (z : Counts). z.budget) p.3 ∙ same) in
      let u = p.2.1.within in
      let e = p.1.1 in
      let n = times_next (quanta_in work) budget in
      omega (arith, l, u, e, n, same)
  work_units (Quantum_refused b ∷ work) words budget v before p same = absurd p.1

  stretch_units : (ds : List Deed) (v new : PacedState) → At v (events_of ds) → AreDone v ds new → AllByRecursion (AsksWithin largest) ds → (paid asked : ℕ) → Owes paid asked v → units_paid ds ≤ quanta_paid ds * (config.collector_ticks * config.rate)
  stretch_units [] v new s done small paid asked w = omega arith
  stretch_units (d ∷ ds) v new s done small paid asked w =
      let one = done.1 in
      let x = works d.work v one.before (d.event ∷ events_of ds) paid asked (words_in d.event) s small.0 one.works (record { total = (let t = w.total in omega (arith, t)); running = w.running; fits = inl w.total }) in
      let next = stands_next config plan live largest old o lasts one.before (d.event ∷ events_of ds) x.stands done.0 d.event (events_of ds) refl (may_keep d.event one.before one.may) one.does one.counts in
      let owes = event_owes d.event one.before done.0 (events_of ds) (paid + quanta_in d.work) asked x.stands x.owing one.does one.counts in
      let first = work_units d.work (words_in d.event) (config.collector_ticks * config.rate) v one.before one.works (budget_is config plan live largest old o lasts v (d.work ++ d.event ∷ events_of ds) s) in
      let rest = stretch_units ds done.0 new next done.2 small.1 (paid + quanta_in d.work) (asked + words_in d.event) owes in
      let e = both (quanta_in d.work) (quanta_paid ds) (config.collector_ticks * config.rate) in
      omega (arith, first, rest, e)
    where
      both : (a b c : ℕ) → (a + b) * c ≡ a * c + b * c
      both a b c = grind arith

  pub stretches_keep : (es : List Event) (mid new : PacedState) (ds : List Deed) → Path KeepsPlan old es mid → AreDone mid ds new → AllByRecursion (AsksWithin largest) ds → LiveWithinPlan config plan live (es ++ events_of ds)
      → KeepsToWords plan (config.collector_ticks * config.rate) ds
  stretches_keep es mid new ds path done small lives =
      let s = stands_path config plan live largest old o lasts es (events_of ds) old mid (stands_first config plan live largest old o lasts (es ++ events_of ds) lives) path in
      let z = none_times plan.quantum_words in
      let first : Owes 0 0 mid = record { total = (let a = lasts.some in omega (arith, z, a)); running = λ on. (let l = s.words on in omega (arith, z, l)) } in
      let x = stretch_owes ds mid new 0 0 s done small first in
      record {
        quanta = le-div (quanta_paid ds) (words_asked ds + (plan.quantum_words - 1)) plan.quantum_words lasts.some (let t = x.total in let e = ap (λ n. n * plan.quantum_words) (let y : 0 + quanta_paid ds ≡ quanta_paid ds = omega arith in y) in let a = lasts.some in omega (arith, t, e, a));
        units = stretch_units ds mid new s done small 0 0 first;
      }
