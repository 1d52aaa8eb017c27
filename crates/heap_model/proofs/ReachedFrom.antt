-- One event more.
use Rattle.std.proofs.Common.{◌≡◌, ℕ, ◌+◌, ◌<◌, List, [], ◌∷◌, ◌++◌, length, refl, subst, arith}
use Rattle.heap_model.specs.State.{HeapState}
use Rattle.heap_model.specs.Opening.{IsOpening}
use Rattle.heap_model.specs.Event.{Course, Event, Command_done, Cycle_begun, Begin_refused, Quantum_done, Quantum_refused, Does, Runs, IsCourse, quanta_in}
use Rattle.heap_model.specs.ReachedFrom.{cycles_in, units_in, opened, IsReachedFrom}
use Rattle.heap_model.proofs.Event.Kept.{opening_course, runs_course}

pub reached_opening : (h : HeapState) → IsOpening h → 0 < length h.store.pages → IsReachedFrom (opened h) 0 0 0
reached_opening h o l = record { first = h; events = []; opening = o; pages = l; runs = refl; begun = refl; done = refl; spent = refl }

runs_more : (es : List Event) (r s new : Course) (e : Event) → Runs r es s → Does s e new → Runs r (es ++ e ∷ []) new
runs_more [] r s new e w d = (new, subst (λ z. Does z e new) w d, refl)
runs_more (f ∷ es) r s new e w d = (w.0, w.1, runs_more es w.0 s new e w.2 d)

-- an event more adds to each count what it counts alone
counts_more : (es : List Event) (e : Event) → (cycles_in (es ++ e ∷ []) ≡ cycles_in es + cycles_in (e ∷ [])) × (quanta_in (es ++ e ∷ []) ≡ quanta_in es + quanta_in (e ∷ [])) × (units_in (es ++ e ∷ []) ≡ units_in es + units_in (e ∷ []))
counts_more [] e = (omega arith, omega arith, omega arith)
counts_more (Command_done m c reply ∷ es) e = counts_more es e
counts_more (Cycle_begun ∷ es) e = let i = counts_more es e in (omega (arith, i.0), i.1, i.2)
counts_more (Begin_refused ∷ es) e = counts_more es e
counts_more (Quantum_done budget units phase ∷ es) e = let i = counts_more es e in (i.0, omega (arith, i.1), omega (arith, i.2))
counts_more (Quantum_refused budget ∷ es) e = counts_more es e

pub reached_more : (r new : Course) (e : Event) (cycles quanta units : ℕ) → IsReachedFrom r cycles quanta units → Does r e new → IsReachedFrom new (cycles + cycles_in (e ∷ [])) (quanta + quanta_in (e ∷ [])) (units + units_in (e ∷ []))
reached_more r new e cycles quanta units w d = record {
  first = w.first;
  events = w.events ++ e ∷ [];
  opening = w.opening;
  pages = w.pages;
  runs = runs_more w.events (opened w.first) r new e w.runs d;
  begun = omega (arith, (counts_more w.events e).0, w.begun);
  done = omega (arith, (counts_more w.events e).1, w.done);
  spent = omega (arith, (counts_more w.events e).2, w.spent);
}

pub reached_course : (r : Course) (cycles quanta units : ℕ) → IsReachedFrom r cycles quanta units → IsCourse r
reached_course r cycles quanta units w = runs_course w.events (opened w.first) r (opening_course w.first w.opening w.pages) w.runs
