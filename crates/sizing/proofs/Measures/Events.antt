-- Events one after the other, and what is the least to which they keep.
use Rattle.std.proofs.Common.{◌≡◌, ℕ, ◌<◌, ◌≤◌, ◌↔◌, List, [], ◌∷◌, ◌++◌, max, length, arith, refl, sym, subst}
use Rattle.graph_heap.specs.declared.command.Limits.{Limits}
use Rattle.size_classes.specs.declared.class.TheConstants.{CLASSES}
use Rattle.heap_model.specs.Event.{Event, Command_done, Cycle_begun, Begin_refused, Quantum_done, Quantum_refused, HaveBudgets}
use Rattle.space.specs.Pace.{Pace, Beat, opening_beat, next_beat, AllKeepPace}
use Rattle.sizing.specs.Meter.{beat_after, AreQuanta}
use Rattle.sizing.specs.Measured.{IsPaceWithin, IsLeastPace}

pub beat_append : (b : Beat) (es fs : List Event) → beat_after b (es ++ fs) ≡ beat_after (beat_after b es) fs
beat_append b [] fs = refl
beat_append b (e ∷ es) fs = beat_append (next_beat b e) es fs

pub pace_append : (p : Pace) (k : ℕ) (b : Beat) (es fs : List Event) → AllKeepPace p k b (es ++ fs) ↔ (AllKeepPace p k b es × AllKeepPace p k (beat_after b es) fs)
pace_append p k b [] fs = (λ w. (tt, w), λ w. w.1)
pace_append p k b (e ∷ es) fs =
    let r = pace_append p k (next_beat b e) es fs in
    (λ w. (let s = r.0 w.1 in ((w.0, s.0), s.1)), λ w. (w.0.0, r.1 (w.0.1, w.1)))

pub budgets_append : (k : ℕ) (es fs : List Event) → HaveBudgets k (es ++ fs) ↔ (HaveBudgets k es × HaveBudgets k fs)
budgets_append k [] fs = (λ w. (tt, w), λ w. w.1)
budgets_append k (Quantum_done budget units phase ∷ es) fs =
    let r = budgets_append k es fs in
    (λ w. (let s = r.0 w.1 in ((w.0, s.0), s.1)), λ w. (w.0.0, r.1 (w.0.1, w.1)))
budgets_append k (Command_done m c reply ∷ es) fs = budgets_append k es fs
budgets_append k (Cycle_begun ∷ es) fs = budgets_append k es fs
budgets_append k (Begin_refused ∷ es) fs = budgets_append k es fs
budgets_append k (Quantum_refused budget ∷ es) fs = budgets_append k es fs

-- the least pace of more events
pub pace_more : (l : Limits) (es fs : List Event) (p new : Pace) (More : Pace → Type 0) → IsLeastPace l es p → ((q : Pace) (k : ℕ) → AllKeepPace q k (beat_after (opening_beat l) es) fs ↔ (More q × HaveBudgets k fs))
    → ((q : Pace) → (IsPaceWithin p q × More q) ↔ IsPaceWithin new q) → IsLeastPace l (es ++ fs) new
pace_more l es fs p new More least more both = λ q k.
    let a = pace_append q k (opening_beat l) es fs in
    let c = budgets_append k es fs in (
      (λ w. (let u = (least q k).0 (a.0 w).0 in let v = (more q k).0 (a.0 w).1 in ((both q).0 (u.0, v.0), c.1 (u.1, v.1)))),
      (λ w. (let v = (both q).1 w.0 in let n = c.0 w.1 in a.1 ((least q k).1 (v.0, n.0), (more q k).1 (v.1, n.1)))),
    )

-- to be within at least as much of one kind
abbrev pub Least : (ℕ → ℕ) → (ℕ → ℕ) → Type 0
Least w most = (class : ℕ) → class < CLASSES → w class ≤ most class

most_two : (a b c : ℕ) → max a b ≤ c ↔ ((a ≤ c) × (b ≤ c))
most_two a b c = (λ h. (omega (arith, h), omega (arith, h)), λ h. omega (arith, h))

pub pace_live : (p : Pace) (w : ℕ → ℕ) (q : Pace) → (IsPaceWithin p q × Least w q.live) ↔ IsPaceWithin (record { live = λ class. max (p.live class) (w class); busy = p.busy; idle = p.idle }) q
pace_live p w q = (
  λ h class l. ((most_two (p.live class) (w class) (q.live class)).1 ((h.0 class l).0, h.1 class l), (h.0 class l).1, (h.0 class l).2),
  λ h. (λ class l. (((most_two (p.live class) (w class) (q.live class)).0 (h class l).0).0, (h class l).1, (h class l).2), λ class l. ((most_two (p.live class) (w class) (q.live class)).0 (h class l).0).1),
)

pub pace_busy : (p : Pace) (w : ℕ → ℕ) (q : Pace) → (IsPaceWithin p q × Least w q.busy) ↔ IsPaceWithin (record { live = p.live; busy = λ class. max (p.busy class) (w class); idle = p.idle }) q
pace_busy p w q = (
  λ h class l. ((h.0 class l).0, (most_two (p.busy class) (w class) (q.busy class)).1 ((h.0 class l).1, h.1 class l), (h.0 class l).2),
  λ h. (λ class l. ((h class l).0, ((most_two (p.busy class) (w class) (q.busy class)).0 (h class l).1).0, (h class l).2), λ class l. ((most_two (p.busy class) (w class) (q.busy class)).0 (h class l).1).1),
)

pub pace_idle : (p : Pace) (w : ℕ → ℕ) (q : Pace) → (IsPaceWithin p q × Least w q.idle) ↔ IsPaceWithin (record { live = p.live; busy = p.busy; idle = λ class. max (p.idle class) (w class) }) q
pace_idle p w q = (
  λ h class l. ((h.0 class l).0, (h.0 class l).1, (most_two (p.idle class) (w class) (q.idle class)).1 ((h.0 class l).2, h.1 class l)),
  λ h. (λ class l. ((h class l).0, (h class l).1, ((most_two (p.idle class) (w class) (q.idle class)).0 (h class l).2).0), λ class l. ((most_two (p.idle class) (w class) (q.idle class)).0 (h class l).2).1),
)

pub pace_same : (p q : Pace) → (IsPaceWithin p q × Unit {0}) ↔ IsPaceWithin p q
pace_same p q = (λ h. h.0, λ h. (h, tt))

-- quanta keep to each pace if their budget is great enough
pub quanta_pace : (p : Pace) (k : ℕ) (b : Beat) (budget : ℕ) (qs : List Event) → AreQuanta budget qs → AllKeepPace p k b qs ↔ HaveBudgets k qs
quanta_pace p k b budget [] each = (λ w. w, λ w. w)
quanta_pace p k b budget (Quantum_done given units phase ∷ qs) each =
    let r = quanta_pace p k (next_beat b (Quantum_done given units phase)) budget qs each.1 in (λ w. (w.0, r.0 w.1), λ w. (w.0, r.1 w.1))
quanta_pace p k b budget (Command_done m c reply ∷ qs) each = elim each [ ]
quanta_pace p k b budget (Cycle_begun ∷ qs) each = elim each [ ]
quanta_pace p k b budget (Begin_refused ∷ qs) each = elim each [ ]
quanta_pace p k b budget (Quantum_refused given ∷ qs) each = elim each [ ]

all_budgets : (k budget : ℕ) (qs : List Event) → AreQuanta budget qs → k ≤ budget → HaveBudgets k qs
all_budgets k budget [] each w = tt
all_budgets k budget (Quantum_done given units phase ∷ qs) each w = (subst (λ n. k ≤ n) (sym each.0) w, all_budgets k budget qs each.1 w)
all_budgets k budget (Command_done m c reply ∷ qs) each w = elim each [ ]
all_budgets k budget (Cycle_begun ∷ qs) each w = elim each [ ]
all_budgets k budget (Begin_refused ∷ qs) each w = elim each [ ]
all_budgets k budget (Quantum_refused given ∷ qs) each w = elim each [ ]

one_budget : (k budget : ℕ) (qs : List Event) → AreQuanta budget qs → 0 < length qs → HaveBudgets k qs → k ≤ budget
one_budget k budget [] each some w = absurd (omega (arith, some))
one_budget k budget (Quantum_done given units phase ∷ qs) each some w = subst (λ n. k ≤ n) each.0 w.0
one_budget k budget (Command_done m c reply ∷ qs) each some w = elim each [ ]
one_budget k budget (Cycle_begun ∷ qs) each some w = elim each [ ]
one_budget k budget (Begin_refused ∷ qs) each some w = elim each [ ]
one_budget k budget (Quantum_refused given ∷ qs) each some w = elim each [ ]

pub quanta_budgets : (k budget : ℕ) (qs : List Event) → AreQuanta budget qs → 0 < length qs → HaveBudgets k qs ↔ (k ≤ budget)
quanta_budgets k budget qs each some = (one_budget k budget qs each some, all_budgets k budget qs each)
