-- Cycles and their phases, quantum by quantum.
use Rattle.std.proofs.Common.{◌≡◌, ◌⊎◌, inl, inr, ℕ, Bool, true, false, List, [], ◌∷◌, ◌++◌, refl, ap, ap₂, ◌∙◌, sym, subst, append-nil}
use Rattle.std.specs.Prelude.{Option, Some, if◌then◌else◌}
use Rattle.std.specs.List.{flat_map, zip}
use Rattle.std.proofs.lemmas.List.Elements.{filter-append}
use Rattle.trace.specs.Streams.{GrowsByPart}
use Rattle.std.proofs.lemmas.Option.{same_Some}
use Rattle.quanta.specs.declared.interval.Interval.{Interval}
use Rattle.trace.specs.declared.player.start.PhaseName.{PhaseName}
use Rattle.trace.specs.declared.player.start.QuantumStart.{QuantumStart}
use Rattle.pictures.specs.declared.cycle_spans.CycleSpans.{CycleSpans}
use Rattle.pictures.specs.declared.events.TraceEvent.{TraceEvent}
use Rattle.pictures.specs.CycleSpans.{Turn, cycles_on, end_of, stretch, is_name, found_in, spans_of, span_events, cycle_events}
use Rattle.pictures.specs.Events.{json_text}
use Rattle.pictures.specs.Lines.{present}
use Rattle.pictures.proofs.EventLines.{json_is}
use Rattle.pictures.proofs.Parts.{SoFar, none_yet, further, cut_short, to_last, in_last}

-- where the last of them ends
end_more : (q last : Turn) (later : List Turn) → end_of q (later ++ last ∷ []) ≡ last.0.end
end_more q last [] = refl
end_more q last (next ∷ later) = end_more next last later

-- A stretch goes on by one quantum.
pub stretch_longer : (these : List Turn) (q : Turn) (s : Interval) → stretch these ≡ Some s → Some (record { start = s.start; end = q.0.end }) ≡ stretch (these ++ q ∷ [])
stretch_longer [] q s e = absurd (cc)
stretch_longer (x ∷ later) q s e =
    let same : record { start = x.0.start; end = end_of x later } ≡ s = same_Some _ _ e in
    ap (λ (i : Interval). Some (record { start = i.start; end = q.0.end })) (sym same) ∙ ap (λ n. Some (record { start = x.0.start; end = n })) (sym (end_more x q later))

module _ (phase : PhaseName) (these : List Turn) (q : Turn) where
  abbrev found : Bool → List Turn
  found b = if b then q ∷ [] else []

  found_more : found_in phase (these ++ q ∷ []) ≡ found_in phase these ++ found (is_name phase q.1.phase)
  found_more = filter-append (λ (x : Turn). is_name phase x.1.phase) these (q ∷ [])

  -- The next quantum found the collector in the phase.
  pub found_there : true ≡ is_name phase q.1.phase → found_in phase (these ++ q ∷ []) ≡ found_in phase these ++ q ∷ []
  found_there e = found_more ∙ ap (λ b. found_in phase these ++ found b) (sym e)

  -- The next quantum didn't find the collector in the phase.
  pub found_elsewhere : false ≡ is_name phase q.1.phase → found_in phase (these ++ q ∷ []) ≡ found_in phase these
  found_elsewhere e = found_more ∙ ap (λ b. found_in phase these ++ found b) (sym e) ∙ append-nil (found_in phase these)

-- spans are the same if each is
pub same_spans : (a b : CycleSpans) → a.whole ≡ b.whole → a.roots ≡ b.roots → a.marking ≡ b.marking → a.sweeping ≡ b.sweeping → a.moving ≡ b.moving → a ≡ b
same_spans a b w r m s v = rw (w, r, m, s, v) refl

-- the events of cycles
abbrev pub events_in : List Turn → List Turn → List TraceEvent
events_in these later = flat_map cycle_events (cycles_on these later)

module _ (these : List Turn) (q : Turn) (later : List Turn) where
  abbrev step : Bool → List (List Turn)
  step b = if b then these ∷ cycles_on (q ∷ []) later else cycles_on (these ++ q ∷ []) later

  -- the next quantum opens a cycle
  opened_on : (events : List TraceEvent) → events ≡ cycle_events these → q.1.opens_cycle ≡ true → events_in these (q ∷ later) ≡ events ++ events_in (q ∷ []) later
  opened_on events e opens = ap (λ b. flat_map cycle_events (step b)) opens ∙ ap (λ es. es ++ events_in (q ∷ []) later) (sym e)

  -- or it goes on with one
  gone_on : q.1.opens_cycle ≡ false → events_in these (q ∷ later) ≡ events_in (these ++ q ∷ []) later
  gone_on opens = ap (λ b. flat_map cycle_events (step b)) opens

-- what two slices have left, pair by pair: one more, if each of them has one more
pub next_turn : {quanta later : List Interval} {starts behind : List QuantumStart} (q : Turn) → (quanta ≡ q.0 ∷ later) × (starts ≡ q.1 ∷ behind) → zip quanta starts ≡ q ∷ zip later behind
next_turn q more = ap₂ (λ (a : List Interval) (b : List QuantumStart). zip a b) more.0 more.1

-- or none, if one of them has none
pub no_turn : (quanta : List Interval) (starts : List QuantumStart) → (quanta ≡ []) ⊎ (starts ≡ []) → zip quanta starts ≡ []
no_turn [] starts none = refl
no_turn (i ∷ later) starts (inl e) = absurd (cc)
no_turn (i ∷ later) starts (inr e) = ap (λ (b : List QuantumStart). zip (i ∷ later) b) e

-- The events of the cycles before one are written; it has these quanta so far, and the others are left.
pub record IsOn (old new : List ℕ) (all left : List Turn) (cycle : CycleSpans) : Type 0 where
  pub these : List Turn
  pub has : cycle ≡ spans_of these
  pub written : SoFar json_text old new (events_in [] all) (events_in these left)

-- a cycle's events
its_events : (these : List Turn) (cycle : CycleSpans) (events : List (Option TraceEvent)) → cycle ≡ spans_of these → events ≡ span_events cycle → present events ≡ cycle_events these
its_events these cycle events has draws = ap present draws ∙ ap (λ c. present (span_events c)) has

-- The spans begin before the first turn.
pub first_on : (old : List ℕ) {quanta quanta' : List Interval} {starts starts' : List QuantumStart} (cycle : CycleSpans) → quanta' ≡ quanta → starts' ≡ starts → cycle ≡ spans_of [] → IsOn old old (zip quanta starts) (zip quanta' starts') cycle
first_on old {quanta} {quanta'} {starts} {starts'} cycle q s has =
    let left : zip quanta' starts' ≡ zip quanta starts = ap₂ (λ (a : List Interval) (b : List QuantumStart). zip a b) q s in
    record {
      these = [];
      has = has;
      written = subst (λ (turns : List Turn). SoFar json_text old old (events_in [] turns) (events_in [] (zip quanta' starts'))) left (none_yet json_is old (events_in [] (zip quanta' starts')));
    }

module _ {old mid : List ℕ} {all left : List Turn} {cycle : CycleSpans} (on : IsOn old mid all left cycle) where
  module _ {q : Turn} {later : List Turn} (next : left ≡ q ∷ later) (new : List ℕ) where
    -- the next quantum goes on with the cycle
    pub goes_on : (longer : CycleSpans) → q.1.opens_cycle ≡ false → ((these : List Turn) → cycle ≡ spans_of these → longer ≡ spans_of (these ++ q ∷ [])) → new ≡ mid → IsOn old new all later longer
    goes_on longer opens with_it same =
        let behind : events_in on.these left ≡ events_in (on.these ++ q ∷ []) later = ap (events_in on.these) next ∙ gone_on on.these q later opens in
        let here : SoFar json_text old mid (events_in [] all) (events_in (on.these ++ q ∷ []) later) = subst (SoFar json_text old mid (events_in [] all)) behind on.written in
        record {
          these = on.these ++ q ∷ [];
          has = with_it on.these on.has;
          written = subst (λ (t : List ℕ). SoFar json_text old t (events_in [] all) (events_in (on.these ++ q ∷ []) later)) (sym same) here;
        }

    -- or it opens the next one
    module _ (opens : q.1.opens_cycle ≡ true) (events : List (Option TraceEvent)) (draws : events ≡ span_events cycle) where
      behind : events_in on.these left ≡ present events ++ events_in (q ∷ []) later
      behind = ap (events_in on.these) next ∙ opened_on on.these q later (present events) (its_events on.these cycle events on.has draws) opens

      pub opens_next : (first : CycleSpans) → first ≡ spans_of (q ∷ []) → new ≡ mid ++ json_text (present events) → IsOn old new all later first
      opens_next first has written =
          record { these = q ∷ []; has = has; written = further json_is old mid _ _ on.written (present events) (events_in (q ∷ []) later) behind new written }

      pub opening_cut : GrowsByPart mid new (json_text (present events)) → GrowsByPart old new (json_text (events_in [] all))
      opening_cut g = cut_short json_is old mid _ _ on.written (present events) (events_in (q ∷ []) later) behind new g

  -- none is left: that was the last cycle
  module _ (none : left ≡ []) (new : List ℕ) (events : List (Option TraceEvent)) (draws : events ≡ span_events cycle) where
    at_last : SoFar json_text old mid (events_in [] all) (present events)
    at_last =
        let rest : events_in on.these left ≡ present events = ap (events_in on.these) none ∙ append-nil (cycle_events on.these) ∙ sym (its_events on.these cycle events on.has draws) in
        subst (SoFar json_text old mid (events_in [] all)) rest on.written

    pub last_written : new ≡ mid ++ json_text (present events) → new ≡ old ++ json_text (events_in [] all)
    last_written e = to_last json_is old mid (events_in [] all) (present events) at_last new e

    pub last_cut : GrowsByPart mid new (json_text (present events)) → GrowsByPart old new (json_text (events_in [] all))
    last_cut g = in_last json_is old mid (events_in [] all) (present events) at_last new g
