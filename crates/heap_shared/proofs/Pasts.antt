-- Events that lead to a heap with its history.
use Rattle.std.proofs.Common.{◌≡◌, ℕ, List, [], ◌∷◌, ◌++◌, length, drop, refl, sym, ap, ◌∙◌, subst, append-nil, append_assoc, Ok}
use Rattle.std.specs.Prelude.{Option}
use Rattle.std.proofs.lemmas.List.{length-map, map-append}
use Rattle.std.proofs.Math.Seq.{drop-append_seam}
use Rattle.graph_heap.specs.declared.command.Entry.{Entry}
use Rattle.heap_model.specs.State.{HeapState}
use Rattle.heap_model.specs.ReachedFrom.{opened}
use Rattle.heap_model.specs.Event.{Course, Event, Command_done, Cycle_begun, Begin_refused, Quantum_done, Quantum_refused, Does, Runs, IsCourse, present_of, snapshot_of}
use Rattle.heap_model.proofs.Agreements.Implied.{consistent_agrees}
use Rattle.heap_model.proofs.Event.Kept.{opening_course, does_course, runs_course}
use Rattle.machine.proofs.Courses.{quantum_does, runs_then}
use Rattle.machine.proofs.Replying.{enters}
use Rattle.paced.specs.declared.cycles.Cycles.{Cycles}
use Rattle.paced.specs.Cycles.{DoesOn, cycles_after, CountsCycles}
use Rattle.paced.specs.Pacing.{PacerView}
use Rattle.heap_shared.specs.declared.deed.Deed.{Deed}
use Rattle.heap_shared.specs.Past.{PastView, course_of, history_of, with_event, with_events, touched_heap, touched_all, IsTouched, IsLed}
use Rattle.heap_shared.specs.Accounts.{events_of, signed}
use Rattle.heap_shared.specs.Ring.{Ringed, Goes, KeepsBy}

-- the history of events and of others behind them
pub history_append : (es fs : List Event) → history_of (es ++ fs) ≡ history_of es ++ history_of fs
history_append [] fs = refl
history_append (Command_done m c reply ∷ es) fs = ap (λ (hs : List Entry). (record { mutator = m; command = c; reply = reply }) ∷ hs) (history_append es fs)
history_append (Cycle_begun ∷ es) fs = history_append es fs
history_append (Begin_refused ∷ es) fs = history_append es fs
history_append (Quantum_done budget units phase ∷ es) fs = history_append es fs
history_append (Quantum_refused budget ∷ es) fs = history_append es fs

pub led_course : (es : List Event) (r : Course) → IsLed es r → IsCourse r
led_course es r led = runs_course es (opened led.first) r (opening_course led.first led.opening led.pages) led.runs

-- more events
pub led_more : (es fs : List Event) (r new : Course) → IsLed es r → Runs r fs new → IsLed (es ++ fs) new
led_more es fs r new led w = record { first = led.first; opening = led.opening; pages = led.pages; runs = runs_then es fs (opened led.first) r new led.runs w }

-- A change of a heap is an event of the heap with its past.
module _ (h : HeapState) (p : PastView) where
  -- an event that is no command leaves the history as it is
  quiet : (e : Event) → history_of (e ∷ []) ≡ [] → history_of (p.events ++ e ∷ []) ≡ history_of p.events
  quiet e none = history_append p.events (e ∷ []) ∙ (ap (λ (hs : List Entry). history_of p.events ++ hs) none ∙ append-nil (history_of p.events))

  on_does : (e : Event) (after : HeapState) → IsCourse (course_of h p) → DoesOn h e after → Does (course_of h p) e (course_of after (with_event p e))
  on_does (Command_done m c told) after is s =
      let r = course_of h p in
      let agrees = consistent_agrees r.heap (present_of r) (snapshot_of r) is.represents.consistent in
      enters r m c told after (history_of (p.events ++ (Command_done m c told) ∷ [])) s.reply s.does agrees (history_append p.events ((Command_done m c told) ∷ []))
  on_does Cycle_begun after is b = record { idle = b.0; heap = b.1; history = quiet Cycle_begun refl; place = refl }
  on_does Begin_refused after is b = (b.0, λ i. record { heap = b.1 i; history = quiet Begin_refused refl i; place = p.place })
  on_does (Quantum_done budget units phase) after is w =
      let e = Quantum_done budget units phase in
      subst (λ (hs : List Entry). Does (course_of h p) e (record { heap = after; history = hs; place = p.place })) (sym (quiet e refl)) (quantum_does (course_of h p) budget after (Ok (record { units = units; phase = phase })) w)
  on_does (Quantum_refused budget) after is w = (w.0, λ i. record { heap = w.1 i; history = quiet (Quantum_refused budget) refl i; place = p.place })

-- each event is the next of the past's
pub next_event : (p : PastView) (e : Event) → (with_event p e).events ≡ p.events ++ e ∷ []
next_event p (Command_done m c reply) = refl
next_event p Cycle_begun = refl
next_event p Begin_refused = refl
next_event p (Quantum_done budget units phase) = refl
next_event p (Quantum_refused budget) = refl

next_events : (es : List Event) (p : PastView) → (with_events p es).events ≡ p.events ++ es
next_events [] p = sym (append-nil p.events)
next_events (e ∷ es) p = next_events es (with_event p e) ∙ (ap (λ (xs : List Event). xs ++ es) (next_event p e) ∙ append_assoc p.events (e ∷ []) es)

runs_on : (es : List Event) (h k : HeapState) (p : PastView) (c d : Cycles) → IsCourse (course_of h p) → CountsCycles h c es k d → Runs (course_of h p) es (course_of k (with_events p es))
runs_on [] h k p c d is x = ap (λ (z : HeapState). course_of z p) x.0
runs_on (e ∷ es) h k p c d is x =
    let does = on_does h p e x.0 is x.1 in
    (course_of x.0 (with_event p e), does, runs_on es x.0 k (with_event p e) (cycles_after e h x.0 c) d (does_course (course_of h p) e (course_of x.0 (with_event p e)) is does) x.2)

-- so the heap goes by them, and was led to by more
module _ (es : List Event) (h k : HeapState) (p q : PastView) (c d : Cycles) (at : q ≡ with_events p es) (led : IsLed p.events (course_of h p)) (counts : CountsCycles h c es k d) where
  runs : Runs (course_of h p) es (course_of k q)
  runs = subst (λ (x : PastView). Runs (course_of h p) es (course_of k x)) (sym at) (runs_on es h k p c d (led_course p.events (course_of h p) led) counts)

  events_now : q.events ≡ p.events ++ es
  events_now = ap (λ (x : PastView). x.events) at ∙ next_events es p

  pub led_now : IsLed q.events (course_of k q)
  led_now = subst (λ (xs : List Event). IsLed xs (course_of k q)) (sym events_now) (led_more p.events es (course_of h p) (course_of k q) led runs)

  pub goes_now : (old : Ringed) (ring kept : ℕ) (a b : Option PacerView) → record { course = course_of h p; events = p.events; ring = ring; cycles = c; pacer = a } ≡ old → kept ≡ ring → KeepsBy a h es b k
      → Goes old es (record { course = course_of k q; events = q.events; ring = kept; cycles = d; pacer = b })
  goes_now old ring kept a b shows same keeps =
      subst (λ (x : Ringed). Goes x es (record { course = course_of k q; events = q.events; ring = kept; cycles = d; pacer = b })) shows
      (record { runs = runs; events = events_now; ring = same; cycles = counts; keeps = keeps })

-- the deeds are the events that led to the heap and weren't seen
pub events_signed : (n : ℕ) (es : List Event) → events_of (signed n es) ≡ es
events_signed n [] = refl
events_signed n (e ∷ es) = ap (λ (xs : List Event). e ∷ xs) (events_signed n es)

pub done_is : (seen : List Deed) (did es : List Event) → events_of seen ++ did ≡ es → drop (length seen) es ≡ did
done_is seen did es is =
    ap (drop (length seen)) (sym is) ∙ (ap (λ (n : ℕ). drop n (events_of seen ++ did)) (sym (length-map seen (λ (d : Deed). d.event))) ∙ drop-append_seam (events_of seen) did)

pub events_then : (seen : List Deed) (n : ℕ) (did : List Event) → events_of (seen ++ signed n did) ≡ events_of seen ++ did
events_then seen n did = map-append (λ (d : Deed). d.event) seen (signed n did) ∙ ap (λ (es : List Event). events_of seen ++ es) (events_signed n did)

-- pages are touched one time after the other
touched_append : (h : HeapState) (xs ys : List ℕ) → touched_all h (xs ++ ys) ≡ touched_all (touched_all h xs) ys
touched_append h [] ys = refl
touched_append h (x ∷ xs) ys = touched_append (touched_heap h x) xs ys

pub touched_then : (a b c : Course) → IsTouched a b → IsTouched b c → IsTouched a c
touched_then a b c p q = (
  p.0 ++ q.0,
  q.1 ∙ (ap (λ (x : Course). record x { heap = touched_all x.heap q.0 }) p.1 ∙ ap (λ (h : HeapState). record a { heap = h }) (sym (touched_append a.heap p.0 q.0))),
)

-- a heap that was just made is as one, once pages were touched
pub touched_led : (es : List Event) (r : Course) (pages : ℕ) → es ≡ [] → IsLed es r → IsLed es (record r { heap = touched_heap r.heap pages })
touched_led es r pages none led =
    let o = led.opening in record {
      first = touched_heap led.first pages;
      opening = record { pages = o.pages; roots = o.roots; live = o.live; next = o.next; phase = o.phase; units = o.units; grey = o.grey };
      pages = led.pages;
      runs = subst (λ (xs : List Event). Runs (opened (touched_heap led.first pages)) xs (record r { heap = touched_heap r.heap pages })) (sym none)
          (ap (λ (x : Course). record x { heap = touched_heap x.heap pages }) (subst (λ (xs : List Event). Runs (opened led.first) xs r) none led.runs));
    }
