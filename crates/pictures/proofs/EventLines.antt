-- Events of quanta, one after the other.
use Rattle.std.proofs.Common.{◌≡◌, ℕ, ◌+◌, ◌<◌, ◌≤◌, List, [], ◌∷◌, ◌++◌, length, map, drop, get_or, ap, ◌∙◌, sym, subst, refl}
use Rattle.std.specs.List.{flat_map, zip}
use Rattle.std.proofs.lemmas.List.{drop_more}
use Rattle.trace.specs.Streams.{GrowsByPart}
use Rattle.quanta.specs.declared.interval.Interval.{Interval}
use Rattle.quanta.specs.Intervals.{IsRisingFrom}
use Rattle.trace.specs.declared.player.start.QuantumStart.{QuantumStart}
use Rattle.trace.specs.Player.{PlayerState}
use Rattle.pictures.specs.declared.events.TraceEvent.{TraceEvent}
use Rattle.pictures.specs.CycleSpans.{cycles_on, cycle_events}
use Rattle.pictures.specs.Events.{event_line, json_text, quantum_events, quanta_events, cycles_events, pages_event, pages_events, events_head, events_tail, events_of}
use Rattle.pictures.proofs.Parts.{IsText, SoFar, none_yet, further, cut_short, to_last, in_last}
use Rattle.pictures.proofs.Lines.{lines_are}

pub json_is : IsText json_text
json_is = lines_are event_line

module _ (from : ℕ) (quanta : List Interval) (d : Interval) (k : ℕ) (l : k < length quanta) where
  -- the next quantum, and those behind it
  on : drop k quanta ≡ get_or quanta k d ∷ drop (k + 1) quanta
  on = drop_more quanta k d l

  -- their events
  pub events_on : (here : List TraceEvent) → here ≡ quantum_events from (get_or quanta k d)
      → quanta_events from (drop k quanta) ≡ here ++ quanta_events (get_or quanta k d).end (drop (k + 1) quanta)
  events_on here draws =
      ap (quanta_events from) on ∙ ap (λ xs. xs ++ quanta_events (get_or quanta k d).end (drop (k + 1) quanta)) (sym draws)

  module _ (rises : IsRisingFrom from (drop k quanta)) where
    next : IsRisingFrom from (get_or quanta k d ∷ drop (k + 1) quanta)
    next = subst (IsRisingFrom from) on rises

    -- it begins no sooner
    pub rising_here : (from ≤ (get_or quanta k d).start) × ((get_or quanta k d).start ≤ (get_or quanta k d).end)
    rising_here = (next.0, next.1)

    -- and the others behind it
    pub rising_behind : IsRisingFrom (get_or quanta k d).end (drop (k + 1) quanta)
    rising_behind = next.2

-- the cycles' events, by the slices that are gone through
abbrev pub cycles_by : List Interval → List QuantumStart → List TraceEvent
cycles_by quanta starts = flat_map cycle_events (cycles_on [] (zip quanta starts))

-- and the pages' events
abbrev pub pages_by : ℕ → List Interval → List QuantumStart → List TraceEvent
pages_by pages quanta starts = map (pages_event pages) (zip quanta starts)

-- slices that are those of a player
module _ (p : PlayerState) (quanta : List Interval) (starts : List QuantumStart) (q : quanta ≡ p.timetable.intervals) (s : starts ≡ p.starts) where
  pub cycles_are : cycles_by quanta starts ≡ cycles_events p
  cycles_are = rw (q, s) refl

  pub pages_are : (pages : ℕ) → pages ≡ length p.course.heap.store.pages → pages_by pages quanta starts ≡ pages_events p
  pages_are pages e = rw (e, q, s) refl

-- all events of a player, in parts
pub events_are : (p : PlayerState) (head quanta cycles pages tail : List TraceEvent) → head ≡ events_head → quanta ≡ quanta_events 0 p.timetable.intervals → cycles ≡ cycles_events p
    → pages ≡ pages_events p → tail ≡ events_tail p → events_of p ≡ head ++ (quanta ++ (cycles ++ (pages ++ tail)))
events_are p head quanta cycles pages tail h q c s e = rw (h, q, c, s, e) refl

-- parts that are written
module _ (p : PlayerState) (head quanta cycles pages tail : List TraceEvent) (is : events_of p ≡ head ++ (quanta ++ (cycles ++ (pages ++ tail)))) (t0 t1 : List ℕ) where
  pub head_cut : GrowsByPart t0 t1 (json_text head) → GrowsByPart t0 t1 (json_text (events_of p))
  head_cut g = cut_short json_is t0 t0 _ _ (none_yet json_is t0 (events_of p)) head (quanta ++ (cycles ++ (pages ++ tail))) is t1 g

  module _ (one : t1 ≡ t0 ++ json_text head) (t2 : List ℕ) where
    head_written : SoFar json_text t0 t1 (events_of p) (quanta ++ (cycles ++ (pages ++ tail)))
    head_written = further json_is t0 t0 _ _ (none_yet json_is t0 (events_of p)) head (quanta ++ (cycles ++ (pages ++ tail))) is t1 one

    pub quanta_cut : GrowsByPart t1 t2 (json_text quanta) → GrowsByPart t0 t2 (json_text (events_of p))
    quanta_cut g = cut_short json_is t0 t1 _ _ head_written quanta (cycles ++ (pages ++ tail)) refl t2 g

    module _ (two : t2 ≡ t1 ++ json_text quanta) (t3 : List ℕ) where
      quanta_written : SoFar json_text t0 t2 (events_of p) (cycles ++ (pages ++ tail))
      quanta_written = further json_is t0 t1 _ _ head_written quanta (cycles ++ (pages ++ tail)) refl t2 two

      pub cycles_cut : GrowsByPart t2 t3 (json_text cycles) → GrowsByPart t0 t3 (json_text (events_of p))
      cycles_cut g = cut_short json_is t0 t2 _ _ quanta_written cycles (pages ++ tail) refl t3 g

      module _ (three : t3 ≡ t2 ++ json_text cycles) (t4 : List ℕ) where
        cycles_written : SoFar json_text t0 t3 (events_of p) (pages ++ tail)
        cycles_written = further json_is t0 t2 _ _ quanta_written cycles (pages ++ tail) refl t3 three

        pub pages_cut : GrowsByPart t3 t4 (json_text pages) → GrowsByPart t0 t4 (json_text (events_of p))
        pages_cut g = cut_short json_is t0 t3 _ _ cycles_written pages tail refl t4 g

        module _ (four : t4 ≡ t3 ++ json_text pages) (t5 : List ℕ) where
          pages_written : SoFar json_text t0 t4 (events_of p) tail
          pages_written = further json_is t0 t3 _ _ cycles_written pages tail refl t4 four

          pub all_cut : GrowsByPart t4 t5 (json_text tail) → GrowsByPart t0 t5 (json_text (events_of p))
          all_cut g = in_last json_is t0 t4 _ tail pages_written t5 g

          pub all_written : t5 ≡ t4 ++ json_text tail → t5 ≡ t0 ++ json_text (events_of p)
          all_written e = to_last json_is t0 t4 _ tail pages_written t5 e
