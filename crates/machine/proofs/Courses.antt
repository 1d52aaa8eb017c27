-- Events done, on a heap with its history.
use Rattle.std.proofs.Common.{◌≡◌, ℕ, ◌+◌, ◌<◌, ◌≤◌, ◌∷◌, ◌++◌, [], List, Ok, Err, length, get_or, arith, refl, sym, ap, ◌∙◌, subst}
use Rattle.std.specs.Prelude.{Result, map, IsErr, false, true, take, drop}
use Rattle.std.proofs.lemmas.List.{take_more, map-append, append_assoc, take-append-drop}
use Rattle.graph_heap.specs.declared.command.Command.{Command}
use Rattle.graph_heap.specs.declared.no_memory.NoMemory.{NoMemory}
use Rattle.heap_model.specs.State.{HeapState}
use Rattle.heap_model.specs.Event as done
use Rattle.heap_model.specs.Event.{Course, Cycle_begun, Begins, IsCourse, Does, Runs}
use Rattle.heap_model.specs.declared.phase.Phase.TheVariants as phases
use Rattle.heap_model.specs.Spent.{cycle_limit}
use Rattle.heap_model.proofs.Event.Kept.{does_course, runs_end}
use Rattle.machine.specs.declared.event.Event.{Event}
use Rattle.machine.specs.declared.event.Event.TheVariants as events
use Rattle.machine.specs.declared.collector.BudgetOutOfRange.{BudgetOutOfRange}
use Rattle.machine.specs.declared.collector.Busy.{Busy}
use Rattle.machine.specs.declared.collector.Spent.{Spent}
use Rattle.machine.specs.Collecting.{Spends}
use Rattle.machine.specs.Recorded.{RecordedHeap, asked, begin_done, quantum_done, RunsFront, commands_in, EndsSoon}

pub quantum_does : (r : Course) (budget : ℕ) (after : HeapState) (result : Result Spent BudgetOutOfRange) → Spends r.heap budget after result → Does r (quantum_done budget result) (record r { heap = after })
quantum_does r budget after (Ok s) w = record { allowed = w.0; turn = w.1; ends = sym w.2; history = refl; place = refl }
quantum_does r budget after (Err e) w = (w.0, ap (λ (h : HeapState). record r { heap = h }) w.1)

-- one event
pub one_done : (r new : Course) (e : done.Event) (a : Event) → Does r e new → a ≡ asked e → (es : List done.Event) × Runs r es new × ((a ∷ []) ≡ map asked es)
one_done r new e a d is = (e ∷ [], (new, d, refl), ap (λ x. x ∷ []) is)

-- events, and then others
pub runs_then : (es fs : List done.Event) (r s new : Course) → Runs r es s → Runs s fs new → Runs r (es ++ fs) new
runs_then [] fs r s new w v = subst (λ (x : Course). Runs x fs new) w v
runs_then (e ∷ es) fs r s new w v = (w.0, w.1, runs_then es fs w.0 s new w.2 v)

-- each event has its request
pub begin_asked : (a : Event) (result : Result (Unit {0}) Busy) → a ≡ events.Begin → a ≡ asked (begin_done result)
begin_asked a (Ok done) e = e
begin_asked a (Err busy) e = e

pub quantum_asked : (a : Event) (budget : ℕ) (result : Result Spent BudgetOutOfRange) → a ≡ events.Quantum budget → a ≡ asked (quantum_done budget result)
quantum_asked a budget (Ok spent) e = e
quantum_asked a budget (Err refused) e = e

-- memory was refused
pub refused_front : (r new : Course) (es : List Event) (result : Result (Unit {0}) NoMemory) → IsErr result
    → ((front : List done.Event) × (m : ℕ) × (c : Command) × (rest : List Event) × Runs r front new × (es ≡ map asked front ++ events.Command m c ∷ rest)) → RunsFront r es new result
refused_front r new es (Ok all) w f = absurd (let z : false ≡ true = w in cc)
refused_front r new es (Err e) w f = f

pub refused_one : (r new : Course) (m : ℕ) (c : Command) (a : Event) → a ≡ events.Command m c → new ≡ r → (result : Result (Unit {0}) NoMemory) → IsErr result → RunsFront r (a ∷ []) new result
refused_one r new m c a is same result w = refused_front r new (a ∷ []) result w ([], m, c, [], same, ap (λ x. x ∷ []) is)

-- the first events of a list are done, and there is memory for at least as many of the commands after them
pub record SoFar (old new : RecordedHeap) (es : List Event) : Type 0 where
  pub front : List done.Event
  pub runs : Runs old.course front new.course
  pub asks : es ≡ map asked front
  pub left : old.room ≤ new.room + commands_in es

commands_append : (xs ys : List Event) → commands_in (xs ++ ys) ≡ commands_in xs + commands_in ys
commands_append [] ys = omega arith
commands_append (events.Command m c ∷ xs) ys = let e = commands_append xs ys in omega arith
commands_append (events.Begin ∷ xs) ys = commands_append xs ys
commands_append (events.Quantum budget ∷ xs) ys = commands_append xs ys

-- the next event of a list is done, or memory was refused for it
module _ (old mid new : RecordedHeap) (xs : List Event) (i : ℕ) (d : Event) (below : i < length xs) (so : SoFar old mid (take i xs)) where
  abbrev e : Event
  e = get_or xs i d

  next_is : take (i + 1) xs ≡ take i xs ++ e ∷ []
  next_is = take_more xs i d below

  pub more_done : (es : List done.Event) × Runs mid.course es new.course × ((e ∷ []) ≡ map asked es) → mid.room ≤ new.room + commands_in (e ∷ []) → SoFar old new (take (i + 1) xs)
  more_done w l = record {
    front = so.front ++ w.0;
    runs = runs_then so.front w.0 old.course mid.course new.course so.runs w.1;
    asks = next_is ∙ ap (λ ys. ys ++ e ∷ []) so.asks ∙ ap (λ ys. map asked so.front ++ ys) w.2 ∙ sym (map-append asked so.front w.0);
    left = (let a = so.left in let b = ap commands_in next_is ∙ commands_append (take i xs) (e ∷ []) in omega (arith, l));
  }

  whole : xs ≡ take i xs ++ (e ∷ [] ++ drop (i + 1) xs)
  whole = sym (take-append-drop (i + 1) xs) ∙ ap (λ ys. ys ++ drop (i + 1) xs) next_is ∙ append_assoc (take i xs) (e ∷ []) (drop (i + 1) xs)

  pub more_refused : ((es : List done.Event) × (m : ℕ) × (c : Command) × (rest : List Event) × Runs mid.course es new.course × ((e ∷ []) ≡ map asked es ++ events.Command m c ∷ rest))
      → (result : Result (Unit {0}) NoMemory) → IsErr result → RunsFront old.course xs new.course result
  more_refused w result err = refused_front old.course new.course xs result err (
    so.front ++ w.0,
    w.1,
    w.2,
    w.3 ++ drop (i + 1) xs,
    runs_then so.front w.0 old.course mid.course new.course so.runs w.4,
    whole ∙ ap (λ ys. ys ++ (e ∷ [] ++ drop (i + 1) xs)) so.asks ∙ ap (λ ys. map asked so.front ++ (ys ++ drop (i + 1) xs)) w.5
        ∙ ap (λ ys. map asked so.front ++ ys) (append_assoc (map asked w.0) (events.Command w.1 w.2 ∷ w.3) (drop (i + 1) xs))
        ∙ sym (append_assoc (map asked so.front) (map asked w.0) (events.Command w.1 w.2 ∷ (w.3 ++ drop (i + 1) xs))) ∙ ap (λ ys. ys ++ events.Command w.1 w.2 ∷ (w.3 ++ drop (i + 1) xs)) (sym (map-append asked so.front w.0)),
  )

  -- memory isn't refused if there is enough
  pub more_room : (commands_in (e ∷ []) ≤ mid.room → ⊥) → commands_in xs ≤ old.room → ⊥
  more_room none enough =
      none (let a = so.left in let b = ap commands_in whole ∙ commands_append (take i xs) (e ∷ [] ++ drop (i + 1) xs) in let c = commands_append (e ∷ []) (drop (i + 1) xs) in omega arith)

-- after a cycle has begun, quanta suffice
pub ends_soon : (old start : Course) → IsCourse old → Begins old start → EndsSoon start
ends_soon old start w b k es new great d budgets m =
    let phase : start.heap.phase ≡ phases.Roots 0 = ap (λ (z : HeapState). z.phase) b.heap in
    runs_end k (cycle_limit start.heap) great es start new 0 (does_course old Cycle_begun start w b) (λ i. let z : phases.Roots 0 ≡ phases.Idle = sym phase ∙ i in cc) refl (omega arith) d budgets (omega (arith, m))
