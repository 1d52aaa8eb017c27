-- Seasons of events one after the other, whatever is said to be live.
use Rattle.std.proofs.Common.{◌≡◌, ℕ, ◌+◌, ◌↔◌, Bool, true, false, if◌then◌else◌, List, [], ◌∷◌, ◌++◌, length, drop, refl, ap, ◌∙◌, sym}
use Rattle.graph_heap.specs.Graph.{Graph}
use Rattle.graph_heap.specs.History.{after_entry}
use Rattle.heap_model.specs.Event.{Course, Event, Command_done, Cycle_begun, Begin_refused, Quantum_done, Quantum_refused, Runs}
use Rattle.space.specs.Demand.{blocks_of}
use Rattle.heap_model.specs.Phases.{awaits_sweep_end}
use Rattle.space.proofs.Paces.Moved.{chain_tracing}
use Rattle.fragmentation.specs.Season.{Season, Lives, made_since, season_swept, season_after, Keeps, AllKeep}
use Rattle.sizing.specs.Meter.{season_at, none_live, Anything, AreQuanta}
use Rattle.sizing.proofs.Meters.Quanta.{runs_trace}

pub season_append : (live : Lives) (s : Season) (es fs : List Event) → season_at live s (es ++ fs) ≡ season_at live (season_at live s es) fs
season_append live s [] fs = refl
season_append live s (e ∷ es) fs = season_append live (season_after live s e) es fs

pub keep_append : (Bound : Season → (ℕ → ℕ) → Type 0) (live : Lives) (s : Season) (es fs : List Event) → AllKeep Bound live s (es ++ fs) ↔ (AllKeep Bound live s es × AllKeep Bound live (season_at live s es) fs)
keep_append Bound live s [] fs = (λ k. (tt, k), λ k. k.1)
keep_append Bound live s (e ∷ es) fs =
    let r = keep_append Bound live (season_after live s e) es fs in
    (λ k. (let t = r.0 k.1 in ((k.0, t.0), t.1)), λ k. (k.0.0, r.1 (k.0.1, k.1)))

-- what keeps to a bound keeps to one that is looser
keeps_looser : (Bound Looser : Season → (ℕ → ℕ) → Type 0) → ((s : Season) (asked : ℕ → ℕ) → Bound s asked → Looser s asked) → (live : Lives) (s : Season) (e : Event) → Keeps Bound live s e → Keeps Looser live s e
keeps_looser Bound Looser looser live s (Command_done m c reply) k = looser s _ k
keeps_looser Bound Looser looser live s Cycle_begun k = k
keeps_looser Bound Looser looser live s Begin_refused k = tt
keeps_looser Bound Looser looser live s (Quantum_done budget units phase) k = tt
keeps_looser Bound Looser looser live s (Quantum_refused budget) k = tt

pub keep_looser : (Bound Looser : Season → (ℕ → ℕ) → Type 0) → ((s : Season) (asked : ℕ → ℕ) → Bound s asked → Looser s asked) → (live : Lives) (s : Season) (es : List Event) → AllKeep Bound live s es → AllKeep Looser live s es
keep_looser Bound Looser looser live s [] k = tt
keep_looser Bound Looser looser live s (e ∷ es) k = (keeps_looser Bound Looser looser live s e k.0, keep_looser Bound Looser looser live (season_after live s e) es k.1)

-- seasons that differ in what is said to be live alone
pub record Alike (s t : Season) : Type 0 where
  pub graph : s.graph ≡ t.graph
  pub cycles : s.cycles ≡ t.cycles
  pub awaiting_sweep_end : s.awaiting_sweep_end ≡ t.awaiting_sweep_end
  pub last : s.last ≡ t.last
  pub base : s.base ≡ t.base
  pub swept : s.swept ≡ t.swept
  pub number : s.number ≡ t.number

-- what quanta do to a season, if a sweep's end is still awaited or not
abbrev pub rested : Lives → Bool → Season → Season
rested live traces s = if traces then s else (if s.awaiting_sweep_end then season_swept live s else s)

alike_swept : (live other : Lives) (s t : Season) → Alike s t → (a b : Bool) → a ≡ b → Alike (if a then season_swept live s else s) (if b then season_swept other t else t)
alike_swept live other s t k true true e = record {
  graph = k.graph;
  cycles = k.cycles;
  awaiting_sweep_end = refl;
  last = k.last;
  base = k.last;
  swept = ap (λ (g : Graph). length g.objects) k.graph;
  number = k.cycles;
}
alike_swept live other s t k false false e = k
alike_swept live other s t k true false e = absurd (cc)
alike_swept live other s t k false true e = absurd (cc)

pub alike_rested : (live other : Lives) (s t : Season) → Alike s t → (traces : Bool) → Alike (rested live traces s) (rested other traces t)
alike_rested live other s t k true = k
alike_rested live other s t k false = alike_swept live other s t k s.awaiting_sweep_end t.awaiting_sweep_end k.awaiting_sweep_end

alike_after : (live other : Lives) (s t : Season) → Alike s t → (e : Event) → Alike (season_after live s e) (season_after other t e)
alike_after live other s t k (Command_done m c reply) = record {
  graph = ap (λ g. after_entry g (record { mutator = m; command = c; reply = reply })) k.graph;
  cycles = k.cycles;
  awaiting_sweep_end = k.awaiting_sweep_end;
  last = k.last;
  base = k.base;
  swept = k.swept;
  number = k.number;
}
alike_after live other s t k Cycle_begun = record {
  graph = k.graph;
  cycles = ap (λ n. n + 1) k.cycles;
  awaiting_sweep_end = refl;
  last = ap (λ (g : Graph). length g.objects) k.graph;
  base = k.base;
  swept = k.swept;
  number = k.number;
}
alike_after live other s t k Begin_refused = k
alike_after live other s t k (Quantum_done budget units phase) = alike_rested live other s t k (awaits_sweep_end phase)
alike_after live other s t k (Quantum_refused budget) = k

alike_at : (live other : Lives) (s t : Season) (es : List Event) → Alike s t → Alike (season_at live s es) (season_at other t es)
alike_at live other s t [] k = k
alike_at live other s t (e ∷ es) k = alike_at live other (season_after live s e) (season_after other t e) es (alike_after live other s t k e)

alike_self : (s : Season) → Alike s s
alike_self s = record { graph = refl; cycles = refl; awaiting_sweep_end = refl; last = refl; base = refl; swept = refl; number = refl }

-- A season is the same, whatever is said to be live.
pub alike : (live : Lives) (s : Season) (es : List Event) → Alike (season_at live s es) (season_at none_live s es)
alike live s es = alike_at live none_live s s es (alike_self s)

-- quanta
rested_twice : (live : Lives) (a b : Bool) (s : Season) → (b ≡ true → a ≡ true) → rested live b (rested live a s) ≡ rested live b s
rested_twice live true b s back = refl
rested_twice live false true s back = absurd (let z = back refl in cc)
rested_twice live false false s back = by s.awaiting_sweep_end refl
  where
    by : (o : Bool) → s.awaiting_sweep_end ≡ o → rested live false (if o then season_swept live s else s) ≡ (if o then season_swept live s else s)
    by true e = refl
    by false e = ap (λ z. if z then season_swept live s else s) e

rested_traces : (live : Lives) (a b : Bool) (s : Season) → s.awaiting_sweep_end ≡ a → (b ≡ true → a ≡ true) → (rested live b s).awaiting_sweep_end ≡ b
rested_traces live a true s e back = e ∙ back refl
rested_traces live a false s e back = by s.awaiting_sweep_end refl
  where
    by : (o : Bool) → s.awaiting_sweep_end ≡ o → (if o then season_swept live s else s).awaiting_sweep_end ≡ false
    by true f = refl
    by false f = f

rested_still : (live : Lives) (a : Bool) (s : Season) → s.awaiting_sweep_end ≡ a → s ≡ rested live a s
rested_still live true s e = refl
rested_still live false s e = sym (ap (λ z. if z then season_swept live s else s) e)

pub quanta_season : (live : Lives) (budget : ℕ) (qs : List Event) (s : Season) (r new : Course) → AreQuanta budget qs → Runs r qs new → s.awaiting_sweep_end ≡ awaits_sweep_end r.heap.phase
    → (season_at live s qs ≡ rested live (awaits_sweep_end new.heap.phase) s) × ((rested live (awaits_sweep_end new.heap.phase) s).awaiting_sweep_end ≡ awaits_sweep_end new.heap.phase)
quanta_season live budget [] s r new each runs e =
    let f : s.awaiting_sweep_end ≡ awaits_sweep_end new.heap.phase = e ∙ ap (λ (x : Course). awaits_sweep_end x.heap.phase) (sym runs) in
    (rested_still live (awaits_sweep_end new.heap.phase) s f, rested_traces live (awaits_sweep_end new.heap.phase) (awaits_sweep_end new.heap.phase) s f (λ z. z))
quanta_season live budget (Quantum_done b units phase ∷ qs) s r new each runs e =
    let is : runs.0.heap.phase ≡ phase = runs.1.ends in
    let first : (awaits_sweep_end phase ≡ true → awaits_sweep_end r.heap.phase ≡ true) = λ z. chain_tracing r.heap runs.0.heap units runs.1.turn.chain (ap awaits_sweep_end is ∙ z) in
    let traces : (rested live (awaits_sweep_end phase) s).awaiting_sweep_end ≡ awaits_sweep_end runs.0.heap.phase = rested_traces live (awaits_sweep_end r.heap.phase) (awaits_sweep_end phase) s e first ∙ ap awaits_sweep_end (sym is) in
    let back : (awaits_sweep_end new.heap.phase ≡ true → awaits_sweep_end phase ≡ true) = λ z. ap awaits_sweep_end (sym is) ∙ runs_trace budget qs runs.0 new each.1 runs.2 z in
    let rest = quanta_season live budget qs (rested live (awaits_sweep_end phase) s) runs.0 new each.1 runs.2 traces in
    let twice = rested_twice live (awaits_sweep_end phase) (awaits_sweep_end new.heap.phase) s back in
    (rest.0 ∙ twice, ap (λ (z : Season). z.awaiting_sweep_end) (sym twice) ∙ rest.1)
quanta_season live budget (Command_done m c reply ∷ qs) s r new each runs e = elim each [ ]
quanta_season live budget (Cycle_begun ∷ qs) s r new each runs e = elim each [ ]
quanta_season live budget (Begin_refused ∷ qs) s r new each runs e = elim each [ ]
quanta_season live budget (Quantum_refused b ∷ qs) s r new each runs e = elim each [ ]

-- quanta keep to each bound
pub quanta_keep : (Bound : Season → (ℕ → ℕ) → Type 0) (live : Lives) (s : Season) (budget : ℕ) (qs : List Event) → AreQuanta budget qs → AllKeep Bound live s qs
quanta_keep Bound live s budget [] each = tt
quanta_keep Bound live s budget (Quantum_done b units phase ∷ qs) each = (tt, quanta_keep Bound live (season_after live s (Quantum_done b units phase)) budget qs each.1)
quanta_keep Bound live s budget (Command_done m c reply ∷ qs) each = elim each [ ]
quanta_keep Bound live s budget (Cycle_begun ∷ qs) each = elim each [ ]
quanta_keep Bound live s budget (Begin_refused ∷ qs) each = elim each [ ]
quanta_keep Bound live s budget (Quantum_refused b ∷ qs) each = elim each [ ]

-- what is made, in seasons that differ in what is said to be live
pub made_alike : (s t : Season) → Alike s t → (m n class : ℕ) → m ≡ n → made_since m s class ≡ made_since n t class
made_alike s t k m n class e = ap (λ z. blocks_of (drop z s.graph.objects) class) e ∙ ap (λ (g : Graph). blocks_of (drop n g.objects) class) k.graph

-- to keep to a bound is to say what is live
pub stated : (Bound : Season → (ℕ → ℕ) → Type 0) (live : Lives) (s : Season) (es : List Event) → AllKeep Bound live s es → AllKeep Anything live s es
stated Bound = keep_looser Bound Anything (λ s asked k. tt)
