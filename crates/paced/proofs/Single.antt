-- How many quanta are spent for one object, however large it is.
use Rattle.std.proofs.Common.{◌≡◌, ℕ, zero, suc, ◌+◌, ◌-◌, ◌*◌, ◌/◌, ◌<◌, ◌≤◌, ◌⊎◌, inl, inr, true, false, if◌then◌else◌, nat_le, List, [], ◌∷◌, ◌++◌, ap, ◌∙◌, sym, subst, arith, refl, append-nil, append_assoc}
use Rattle.std.specs.List.{AllByRecursion}
use Rattle.std.proofs.lemmas.Nat.{le-div, div_below}
use Rattle.std.proofs.lemmas.Bool.{le-leb}
use Rattle.std.proofs.Math.Nat.{mul-le-mul_right}
use Rattle.size_classes.specs.declared.config.Config.{Config}
use Rattle.size_classes.specs.Config.{limits_of}
use Rattle.heap_model.specs.declared.phase.Phase.{Phase}
use Rattle.heap_model.specs.declared.phase.Phase.TheVariants as phases
use Rattle.heap_model.specs.Event.{Event, Command_done, Cycle_begun, Begin_refused, Quantum_done, Quantum_refused, quanta_in}
use Rattle.space.specs.Pace.{in_cycle}
use Rattle.fragmentation.specs.Flow.{opening_meter, LivesIn}
use Rattle.paced.specs.declared.plan.Plan.{Plan}
use Rattle.paced.specs.Cycles.{saturated, DoesOn}
use Rattle.paced.specs.Pacing.{Counts, PacedState, counted, Path, MayAsk, KeepsPlan, WorksFor}
use Rattle.paced.specs.Rooms.{planned_flow, IsJustPaced}
use Rattle.paced.specs.Bounds.{words_in, Deed, AreDone, events_of, LastsWith, LiveWithinPlan, most_for_one, IsShort}
use Rattle.paced.proofs.Paths.{path_then, work_paces}
use Rattle.paced.proofs.Deeds.{may_keep}
use Rattle.paced.proofs.Pieces.{runs_on}
use Rattle.paced.proofs.Reached.{metered_first, Stands, most, plan_is, few, countable, stands_next, stands_first, stands_path}
use Rattle.paced.proofs.Stretches.{times_next, once_times, order, asks_some}

split : (n d b : ℕ) → (n + d) * b ≡ n * b + d * b
split n d b = grind arith

none_times : (b : ℕ) → 0 * b ≡ 0
none_times b = grind arith

product : (a b : ℕ) → a * b ≡ b * a
product a b = grind arith

-- the quanta of the cycle that runs, and those of the next one, by what each was allowed
both_few : (paid rest words each : ℕ) → 1 ≤ each → 1 ≤ rest → paid * each < rest * each + words → paid ≤ (words + (each - 1)) / each + (rest - 1)
both_few paid rest words each some first l = by_order (order rest paid)
  where
    by_order : (rest ≤ paid) ⊎ (paid < rest) → paid ≤ (words + (each - 1)) / each + (rest - 1)
    by_order (inl more) =
        let r : ℕ = paid + 1 - rest in
        let e : paid + 1 ≡ rest + (paid + 1 - rest) = omega (arith, more) in
        let a = ap (λ z. z * each) e in
        let b = split rest (paid + 1 - rest) each in
        let c = times_next paid each in
        let d = le-div (paid + 1 - rest) (words + (each - 1)) each some (omega (arith, a, b, c, l, some)) in
        omega (arith, d, first, more)
    by_order (inr less) = omega (arith, less)

-- an object of no more words than a quantum has costs one at most
pub small_one : (plan : Plan) (largest words : ℕ) → 1 ≤ plan.quantum_words → words ≤ plan.quantum_words → most_for_one plan largest words ≤ 1
small_one plan largest words some few =
    let e = two plan.quantum_words in
    let a : (words + (plan.quantum_words - 1)) / plan.quantum_words < 2 = div_below (words + (plan.quantum_words - 1)) plan.quantum_words 2 some (omega (arith, e, few, some)) in
    let b : (words - largest + (plan.quantum_words - 1)) / plan.quantum_words < 2 = div_below (words - largest + (plan.quantum_words - 1)) plan.quantum_words 2 some (omega (arith, e, few, some)) in
    omega (arith, a, b)
  where
    two : (n : ℕ) → 2 * n ≡ n + n
    two n = grind arith

module _ (config : Config) (plan : Plan) (live largest : ℕ) (old : PacedState) (o : IsJustPaced config plan old) (lasts : LastsWith config plan live largest) (words : ℕ) (small : words ≤ plan.cycle_words) where
  abbrev At : PacedState → List Event → Type 0
  At v rest = Stands config plan live largest old o lasts v rest

  abbrev whole : ℕ
  whole = most config plan live largest old o lasts

  -- the quanta that an object above the largest owes besides, where the words of the cycle that runs don't suffice for it
  abbrev besides : ℕ
  besides = (words - largest + (plan.quantum_words - 1)) / plan.quantum_words

  -- the words fit in the cycle, and quanta were spent for them alone
  pub record Fits (paid : ℕ) (v : PacedState) : Type 0 where
    pub fit : v.counts.words + words ≤ plan.cycle_words
    pub running : in_cycle v.heap.phase ≡ true → paid * plan.quantum_words + v.counts.words ≤ (v.counts.quanta + 1) * plan.quantum_words
    pub total : paid * plan.quantum_words < words + plan.quantum_words

  -- the cycle that runs is being ended, since its words don't suffice
  pub record Ends (paid : ℕ) (v : PacedState) : Type 0 where
    pub large : largest < words
    pub done : v.counts.quanta ≤ whole
    pub left : (paid + (whole - v.counts.quanta)) * plan.quantum_words < words - largest + plan.quantum_words

  -- it was ended, and another begun
  pub record Anew (paid : ℕ) (v : PacedState) : Type 0 where
    pub large : largest < words
    pub fit : v.counts.words + words ≤ plan.cycle_words
    pub running : in_cycle v.heap.phase ≡ true → (paid + 1) * plan.quantum_words + v.counts.words ≤ besides * plan.quantum_words + (v.counts.quanta + 1) * plan.quantum_words
    pub total : paid * plan.quantum_words < besides * plan.quantum_words + words

  pub data Comes (paid : ℕ) (v : PacedState) : Type 0 where
    First : paid ≡ 0 → Comes paid v
    In_cycle : Fits paid v → Comes paid v
    In_end : Ends paid v → Comes paid v
    In_next : Anew paid v → Comes paid v

  module _ (v new : PacedState) (rest : List Event) (paid : ℕ) (s : At v rest) (none : MayAsk v words → ⊥) where
    some : 0 < words
    some = asks_some v words none

    plan_now : v.counts.plan ≡ plan
    plan_now = plan_is config plan live largest old o lasts v rest s

    -- where no cycle runs, words that fit may be asked for
    idle_may : v.heap.phase ≡ phases.Idle → v.counts.words + words ≤ plan.cycle_words → ⊥
    idle_may idle fit = none (record {
      cycle = λ some. (let p = ap (λ (z : Plan). z.cycle_words) plan_now in omega (arith, fit, p));
      quanta = λ some on. absurd (let z : false ≡ true = sym (ap in_cycle idle) ∙ on in cc);
    })

    begun_comes : DoesOn v.heap Cycle_begun new.heap → new.counts ≡ counted v.counts Cycle_begun → Comes paid v → Comes paid new
    begun_comes d counts c = by_case c
      where
        zeroed : new.counts.words ≡ 0
        zeroed = ap (λ (z : Counts). z.words) counts

        once : (new.counts.quanta + 1) * plan.quantum_words ≡ plan.quantum_words
        once = ap (λ (z : Counts). (z.quanta + 1) * plan.quantum_words) counts ∙ once_times plan.quantum_words

        by_case : Comes paid v → Comes paid new
        by_case (First e) =
            let z = ap (λ n. n * plan.quantum_words) e ∙ none_times plan.quantum_words in
            In_cycle (record {
              fit = (let n = zeroed in omega (arith, n, small));
              running = λ on. (let n = zeroed in omega (arith, n, z));
              total = (let a = lasts.some in omega (arith, z, a));
            })
        by_case (In_cycle w) = absurd (idle_may d.0 w.fit)
        by_case (In_next w) = absurd (idle_may d.0 w.fit)
        by_case (In_end w) =
            let m = mul-le-mul_right plan.quantum_words (let z : paid ≤ paid + (whole - v.counts.quanta) = omega arith in z) in
            let l = w.left in
            let a = lasts.some in
            let p = le-div paid (words - largest + (plan.quantum_words - 1)) plan.quantum_words a (omega (arith, m, l, a)) in
            let q = mul-le-mul_right plan.quantum_words p in
            let t = times_next paid plan.quantum_words in
            In_next (record {
              large = w.large;
              fit = (let n = zeroed in omega (arith, n, small));
              running = λ on. (let n = zeroed in let e = once in omega (arith, n, e, q, t));
              total = (let b = some in omega (arith, q, b));
            })

    module _ (budget units : ℕ) (phase : Phase) (same : budget ≡ v.counts.budget) (on : in_cycle v.heap.phase ≡ true) (counts : new.counts ≡ counted v.counts (Quantum_done budget units phase)) where
      now : new.counts.words ≡ v.counts.words
      now = ap (λ (z : Counts). z.words) counts

      one : new.counts.quanta ≡ v.counts.quanta + 1
      one =
          let q : new.counts.quanta ≡ (if nat_le v.counts.budget budget then saturated (v.counts.quanta + 1) else v.counts.quanta) = ap (λ (z : Counts). z.quanta) counts in
          let b : nat_le v.counts.budget budget ≡ true = le-leb v.counts.budget budget (omega (arith, same)) in
          let c : (if nat_le v.counts.budget budget then saturated (v.counts.quanta + 1) else v.counts.quanta) ≡ saturated (v.counts.quanta + 1) = ap (λ z. if z then saturated (v.counts.quanta + 1) else v.counts.quanta) b in
          let l = countable config plan live largest old o lasts v rest s on in
          omega (arith, q, c, l)

      next : (new.counts.quanta + 1) * plan.quantum_words ≡ (v.counts.quanta + 1 + 1) * plan.quantum_words
      next = ap (λ z. (z + 1) * plan.quantum_words) one

      over : v.counts.words + words ≤ plan.cycle_words → (v.counts.quanta + 1) * plan.quantum_words < v.counts.words + words
      over fit = elim (order (v.counts.words + words) ((v.counts.quanta + 1) * plan.quantum_words)) [
        | inl l ↦ absurd (none (record {
          cycle = λ some. (let p = ap (λ (z : Plan). z.cycle_words) plan_now in omega (arith, fit, p));
          quanta = λ some on. (let p = ap (λ (z : Plan). (v.counts.quanta + 1) * z.quantum_words) plan_now in omega (arith, l, p));
        }))
        | inr l ↦ l
      ]

      fits_more : Fits paid v → Comes (paid + 1) new
      fits_more w =
          let l = w.running on in
          let a = times_next paid plan.quantum_words in
          let b = times_next (v.counts.quanta + 1) plan.quantum_words in
          In_cycle (record {
            fit = (let n = now in let f = w.fit in omega (arith, n, f));
            running = λ later. (let n = now in let q = next in omega (arith, l, n, q, a, b));
            total = (let m = over w.fit in omega (arith, l, m, a));
          })

      ends_more : Ends paid v → Comes (paid + 1) new
      ends_more w =
          let q = few config plan live largest old o lasts v rest s on in
          let e : paid + 1 + (whole - new.counts.quanta) ≡ paid + (whole - v.counts.quanta) = (let n = one in omega (arith, q, n)) in
          let m = ap (λ z. z * plan.quantum_words) e in
          In_end (record {
            large = w.large;
            done = (let n = one in omega (arith, q, n));
            left = (let l = w.left in omega (arith, l, m));
          })

      quantum_comes : Comes paid v → Comes (paid + 1) new
      quantum_comes (First e) = elim (order (v.counts.words + words) plan.cycle_words) [
        | inl fit ↦ fits_more (record {
          fit = fit;
          running = λ on1. (let l = s.words on1 in let z = zero in omega (arith, l, z));
          total = (let z = zero in let a = lasts.some in omega (arith, z, a));
        })
        | inr above ↦ (let l = ending above in ends_more (record { large = l.0; done = (let q = few config plan live largest old o lasts v rest s on in omega (arith, q)); left = l.1 }))
      ]
        where
          zero : paid * plan.quantum_words ≡ 0
          zero = ap (λ n. n * plan.quantum_words) e ∙ none_times plan.quantum_words

          ending : plan.cycle_words < v.counts.words + words → (largest < words) × ((paid + (whole - v.counts.quanta)) * plan.quantum_words < words - largest + plan.quantum_words)
          ending above =
              let u = s.words on in
              let t = times_next v.counts.quanta plan.quantum_words in
              let q = few config plan live largest old o lasts v rest s on in
              let l = lasts.lasts in
              let p = product plan.quantum_words whole in
              let e1 : whole ≡ v.counts.quanta + (whole - v.counts.quanta) = omega (arith, q) in
              let a = ap (λ z. z * plan.quantum_words) e1 in
              let b = split v.counts.quanta (whole - v.counts.quanta) plan.quantum_words in
              let e2 : paid + (whole - v.counts.quanta) ≡ whole - v.counts.quanta = omega (arith, e) in
              let c = ap (λ z. z * plan.quantum_words) e2 in
              let m = mul-le-mul_right plan.quantum_words (let z : 1 ≤ whole - v.counts.quanta = omega (arith, q) in z) in
              let d = once_times plan.quantum_words in
              (omega (arith, u, t, l, p, a, b, above, m, d), omega (arith, u, t, l, p, a, b, c, above, m, d))
      quantum_comes (In_cycle w) = fits_more w
      quantum_comes (In_end w) = ends_more w
      quantum_comes (In_next w) =
          let l = w.running on in
          let a = times_next paid plan.quantum_words in
          let b = times_next (v.counts.quanta + 1) plan.quantum_words in
          let d = times_next (paid + 1) plan.quantum_words in
          In_next (record {
            large = w.large;
            fit = (let n = now in let f = w.fit in omega (arith, n, f));
            running = λ later. (let n = now in let q = next in omega (arith, l, n, q, a, b, d));
            total = (let m = over w.fit in omega (arith, l, m));
          })

  works : (work : List Event) (v before : PacedState) (rest : List Event) (paid : ℕ) → At v (work ++ rest) → Path (WorksFor words) v work before → Comes paid v → Comes (paid + quanta_in work) before
  works [] v before rest paid s p w = subst (λ z. Comes (paid + 0) z) (sym p) (subst (λ n. Comes n v) (let z : paid ≡ paid + 0 = omega arith in z) w)
  works (Command_done m c reply ∷ work) v before rest paid s p w = absurd p.1
  works (Cycle_begun ∷ work) v before rest paid s p w =
      let next = stands_next config plan live largest old o lasts v (Cycle_begun ∷ work ++ rest) s p.0 Cycle_begun (work ++ rest) refl tt p.2 p.3 in
      works work p.0 before rest paid next p.4 (begun_comes v p.0 (Cycle_begun ∷ work ++ rest) paid s p.1 p.2 p.3 w)
  works (Begin_refused ∷ work) v before rest paid s p w = absurd p.1
  works (Quantum_done budget units phase ∷ work) v before rest paid s p w =
      let e = Quantum_done budget units phase in
      let next = stands_next config plan live largest old o lasts v (e ∷ work ++ rest) s p.0 e (work ++ rest) refl tt p.2 p.3 in
      let more = works work p.0 before rest (paid + 1) next p.4 (quantum_comes v p.0 (e ∷ work ++ rest) paid s p.1.0 budget units phase p.1.1 (runs_on v.heap.phase p.1.2) p.3 w) in
      subst (λ n. Comes n before) (let z : paid + 1 + quanta_in work ≡ paid + (quanta_in work + 1) = omega arith in z) more
  works (Quantum_refused budget ∷ work) v before rest paid s p w = absurd p.1

  -- for some words
  bounded : (paid : ℕ) (v : PacedState) → 0 < words → Comes paid v → paid ≤ most_for_one plan largest words
  bounded paid v has (First e) = omega (arith, e)
  bounded paid v has (In_cycle w) = let l = w.total in let a = lasts.some in let d = le-div paid (words + (plan.quantum_words - 1)) plan.quantum_words a (omega (arith, l, a)) in omega (arith, d)
  bounded paid v has (In_end w) =
      let m = mul-le-mul_right plan.quantum_words (let z : paid ≤ paid + (whole - v.counts.quanta) = omega arith in z) in
      let l = w.left in
      let a = lasts.some in
      let p = le-div paid (words - largest + (plan.quantum_words - 1)) plan.quantum_words a (omega (arith, m, l, a)) in
      let e = once_times plan.quantum_words in
      let x = le-div 1 (words + (plan.quantum_words - 1)) plan.quantum_words a (omega (arith, e, has)) in
      omega (arith, p, x)
  bounded paid v has (In_next w) =
      let a = lasts.some in
      let e = once_times plan.quantum_words in
      let g = w.large in
      let x = le-div 1 (words - largest + (plan.quantum_words - 1)) plan.quantum_words a (omega (arith, e, g)) in
      both_few paid besides words plan.quantum_words a x w.total

  pub one_bounded : (es : List Event) (mid before : PacedState) (work : List Event) → Path KeepsPlan old es mid → Path (WorksFor words) mid work before → LiveWithinPlan config plan live (es ++ work) → quanta_in work ≤ most_for_one plan largest words
  one_bounded es mid before work path p lives = by_work work p lives
    where
      by_work : (work : List Event) → Path (WorksFor words) mid work before → LiveWithinPlan config plan live (es ++ work) → quanta_in work ≤ most_for_one plan largest words
      by_work [] p lives = omega arith
      by_work (e ∷ work) p lives =
          let s = stands_path config plan live largest old o lasts es (e ∷ work) old mid (stands_first config plan live largest old o lasts (es ++ e ∷ work) lives) path in
          let n = append-nil (e ∷ work) in
          let c = works (e ∷ work) mid before [] 0 (subst (λ z. At mid z) (sym n) s) p (First refl) in
          let b = bounded (0 + quanta_in (e ∷ work)) before (first_some e work p) c in
          omega (arith, b)
        where
          first_some : (e : Event) (work : List Event) → Path (WorksFor words) mid (e ∷ work) before → 0 < words
          first_some (Command_done m c reply) work p = absurd p.1
          first_some Cycle_begun work p = asks_some mid words p.1
          first_some Begin_refused work p = absurd p.1
          first_some (Quantum_done budget units phase) work p = asks_some mid words p.1.0
          first_some (Quantum_refused budget) work p = absurd p.1

-- each deed of a stretch is within the bound for its words
module _ (config : Config) (plan : Plan) (live largest : ℕ) (old : PacedState) (o : IsJustPaced config plan old) (lasts : LastsWith config plan live largest) where
  -- words that may be asked for aren't above those of a cycle
  within : (v : PacedState) (rest : List Event) (words : ℕ) → Stands config plan live largest old o lasts v rest → MayAsk v words → words ≤ plan.cycle_words
  within v rest zero s may = omega arith
  within v rest (suc n) s may = let l = may.cycle (omega arith) in let p = ap (λ (z : Plan). z.cycle_words) (plan_is config plan live largest old o lasts v rest s) in omega (arith, l, p)

  pub each_short : (ds : List Deed) (es : List Event) (mid new : PacedState) → Path KeepsPlan old es mid → AreDone mid ds new → LiveWithinPlan config plan live (es ++ events_of ds) → AllByRecursion (IsShort plan largest) ds
  each_short [] es mid new path done lives = tt
  each_short (d ∷ ds) es mid new path done lives =
      let one = done.1 in
      let words = words_in d.event in
      let worked = path_then KeepsPlan es d.work old mid one.before path (work_paces words d.work mid one.before one.works) in
      let split = append_assoc es d.work (d.event ∷ events_of ds) in
      let more : LiveWithinPlan config plan live ((es ++ d.work) ++ d.event ∷ events_of ds) = subst (LiveWithinPlan config plan live) (sym split) lives in
      let first = metered_first (config.collector_ticks * config.rate) (LivesIn (planned_flow live plan)) (es ++ d.work) (d.event ∷ events_of ds) (opening_meter (limits_of config)) more in
      let stands = stands_path config plan live largest old o lasts (es ++ d.work) (d.event ∷ events_of ds) old one.before (stands_first config plan live largest old o lasts ((es ++ d.work) ++ d.event ∷ events_of ds) more) worked in
      let few = one_bounded config plan live largest old o lasts words (within one.before (d.event ∷ events_of ds) words stands one.may) es mid one.before d.work path one.works first in
      let after = path_then KeepsPlan (es ++ d.work) (d.event ∷ []) old one.before done.0 worked (done.0, may_keep d.event one.before one.may, one.does, one.counts, refl) in
      let rest : LiveWithinPlan config plan live (((es ++ d.work) ++ d.event ∷ []) ++ events_of ds) = subst (LiveWithinPlan config plan live) (sym (append_assoc (es ++ d.work) (d.event ∷ []) (events_of ds))) more in
      (few, each_short ds ((es ++ d.work) ++ d.event ∷ []) done.0 new after done.2 rest)
