-- The invariant along a run that keeps to a flow.
use Rattle.std.proofs.Common.{◌≡◌, ℕ, ◌+◌, ◌*◌, ◌<◌, ◌≤◌, ◌⊎◌, inl, Bool, true, false, ◌==◌, if◌then◌else◌, List, [], ◌∷◌, length, ap, sym, subst, arith, refl}
use Rattle.size_classes.specs.declared.class.TheConstants.{CLASSES, MOST_BLOCKS}
use Rattle.heap_model.specs.declared.phase.Phase.{Phase}
use Rattle.heap_model.specs.declared.phase.Phase.TheVariants as phases
use Rattle.heap_model.specs.State.{HeapState}
use Rattle.heap_model.specs.Opening.{IsOpening}
use Rattle.heap_model.specs.Settings.{settings_of}
use Rattle.heap_model.specs.Spent.{cycle_limit}
use Rattle.heap_model.specs.ReachedFrom.{opened}
use Rattle.heap_model.specs.Event.{Course, Event, Command_done, Cycle_begun, Begin_refused, Quantum_done, Quantum_refused, present_of}
use Rattle.heap_model.specs.Phases.{awaits_sweep_end}
use Rattle.fragmentation.specs.Season.{Season, Lives, opening_season, made_since}
use Rattle.fragmentation.specs.Suffice.{pages_of}
use Rattle.fragmentation.specs.declared.flow.TheConstants.{LEAST_PAGE_FILL}
use Rattle.fragmentation.specs.Flow.{words_of, Flow, FlowMeter, opening_meter, next_meter, OnlyMade, KeepsFlow, AllMetered, live_most}
use Rattle.fragmentation.proofs.Suffice.Paging.{pages_none}
use Rattle.fragmentation.proofs.Flows.Words.{words_none}

-- what live objects need when each cycle begins, of those that begin after the nth
abbrev pub lives_of : (f : Flow) (k n : ℕ) (es : List Event) (t : FlowMeter) → AllMetered k (KeepsFlow f) t es → Lives
lives_of f k n [] t keeps = λ j class. 0
lives_of f k n (Command_done m c reply ∷ es) t keeps = lives_of f k n es (next_meter k t (Command_done m c reply)) keeps.1
lives_of f k n (Cycle_begun ∷ es) t keeps = λ j. if j == n + 1 then keeps.0.1.blocks else lives_of f k (n + 1) es (next_meter k t Cycle_begun) keeps.1 j
lives_of f k n (Begin_refused ∷ es) t keeps = lives_of f k n es t keeps.1
lives_of f k n (Quantum_done budget units phase ∷ es) t keeps = lives_of f k n es (next_meter k t (Quantum_done budget units phase)) keeps.1
lives_of f k n (Quantum_refused budget ∷ es) t keeps = lives_of f k n es t keeps.1

-- what is live is within the flow, by its numbers alone
pub record FitsFlow (f : Flow) (blocks : ℕ → ℕ) : Type 0 where
  pub few : (LEAST_PAGE_FILL * pages_of blocks ≤ f.live_words) ⊎ (words_of blocks ≤ f.live_words)
  pub only : OnlyMade f blocks

one_of : (b : Bool) (x y : ℕ → ℕ) (f : Flow) → FitsFlow f x → FitsFlow f y → FitsFlow f (if b then x else y)
one_of true x y f l m = l
one_of false x y f l m = m

pub lives_few : (f : Flow) (k n : ℕ) (es : List Event) (t : FlowMeter) (keeps : AllMetered k (KeepsFlow f) t es) (j : ℕ) → FitsFlow f (lives_of f k n es t keeps j)
lives_few f k n [] t keeps j = record { few = inl (let z = pages_none in omega (arith, z)); only = λ class l e. refl }
lives_few f k n (Command_done m c reply ∷ es) t keeps j = lives_few f k n es (next_meter k t (Command_done m c reply)) keeps.1 j
lives_few f k n (Cycle_begun ∷ es) t keeps j = one_of (j == n + 1) keeps.0.1.blocks (lives_of f k (n + 1) es (next_meter k t Cycle_begun) keeps.1 j) f (record { few = keeps.0.1.few; only = keeps.0.1.only }) (lives_few f k (n + 1) es (next_meter k t Cycle_begun) keeps.1 j)
lives_few f k n (Begin_refused ∷ es) t keeps j = lives_few f k n es t keeps.1 j
lives_few f k n (Quantum_done budget units phase ∷ es) t keeps j = lives_few f k n es (next_meter k t (Quantum_done budget units phase)) keeps.1 j
lives_few f k n (Quantum_refused budget ∷ es) t keeps j = lives_few f k n es t keeps.1 j

-- the words of what was made since the first `count`
abbrev pub words_since : ℕ → Season → ℕ
words_since count s = words_of (made_since count s)

-- The blocks that count as made before the cycle whose sweep ended last: no more than were live when some cycle began,
-- and those made besides.
pub record Earlier (f : Flow) (live : Lives) (before : ℕ → ℕ) : Type 0 where
  pub made : ℕ → ℕ
  pub number : ℕ
  pub few : (class : ℕ) → class < CLASSES → before class ≤ live number class + made class
  pub only : OnlyMade f made

-- while pages are swept, no more was spent than on roots, on marking this many words, and on the looks since
abbrev pub SweepsWithin : HeapState → ℕ → Phase → Type 0
SweepsWithin h words (phases.Sweeping page block) = h.units ≤ length h.roots + words + 3 + (MOST_BLOCKS + 1) * page + block
SweepsWithin h words _ = Unit {0}

-- The invariant: how many words were made since the last cycle began, since the one began whose sweep ended last, and
-- in all that the season counts.
pub record IsFlowing (h : HeapState) (f : Flow) (k : ℕ) (live : Lives) (r : Course) (s : Season) (t : FlowMeter) : Type 0 where
  pub graph : s.graph ≡ present_of r
  pub same : t.graph ≡ present_of r
  pub awaiting_sweep_end : t.awaiting_sweep_end ≡ awaits_sweep_end r.heap.phase
  pub alike : s.awaiting_sweep_end ≡ awaits_sweep_end r.heap.phase
  pub limit : cycle_limit r.heap ≡ cycle_limit h
  pub settings : settings_of r.heap ≡ settings_of h
  pub spent : awaits_sweep_end r.heap.phase ≡ true → t.quanta * k ≤ r.heap.units
  pub last : s.last ≤ length s.graph.objects
  pub base : s.base ≤ length s.graph.objects
  pub swept : s.swept ≤ length s.graph.objects
  pub words : t.words ≤ f.cycle_words
  pub paced : t.awaiting_sweep_end ≡ true → t.words ≤ (t.quanta + 1) * f.quantum_words + f.burst
  pub sweeping : SweepsWithin r.heap (live_most f + t.words) r.heap.phase
  pub since_last : words_since s.last s ≤ t.words
  pub since_base : words_since s.base s ≤ (if t.awaiting_sweep_end then f.cycle_words + t.words else t.words)
  pub earlier : Earlier f live s.before
  pub only : OnlyMade f (made_since 0 s)
  pub total : words_of earlier.made + words_since s.swept s ≤ (if t.awaiting_sweep_end then 2 * f.cycle_words + t.words else f.cycle_words + t.words)

-- at the opening nothing was made
pub opening_flowing : (h : HeapState) (f : Flow) (k : ℕ) (live : Lives) → IsOpening h → IsFlowing h f k live (opened h) (opening_season h.limits) (opening_meter h.limits)
opening_flowing h f k live o = record {
  graph = refl;
  same = refl;
  awaiting_sweep_end = sym (ap awaits_sweep_end o.phase);
  alike = sym (ap awaits_sweep_end o.phase);
  limit = refl;
  settings = refl;
  spent = λ on. omega arith;
  last = omega arith;
  base = omega arith;
  swept = omega arith;
  words = omega arith;
  paced = λ on. omega arith;
  sweeping = subst (SweepsWithin h (live_most f + 0)) (sym o.phase) tt;
  since_last = (let z = none in omega (arith, z));
  since_base = (let z = none in omega (arith, z));
  earlier = record { made = λ class. 0; number = 0; few = λ class l. omega arith; only = λ class l e. refl };
  only = λ class l e. refl;
  total = (let z = none in let y = nothing in omega (arith, z, y));
}
  where
    none : words_since 0 (opening_season h.limits) ≡ 0
    none = words_none _ (λ class l. refl)

    nothing : words_of (λ class. 0) ≡ 0
    nothing = words_none _ (λ class l. refl)
