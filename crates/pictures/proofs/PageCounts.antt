-- The pages at the start of each quantum, quantum by quantum.
use Rattle.std.proofs.Common.{◌≡◌, ℕ, List, [], ◌∷◌, ◌++◌, map, ap, ap₂, ◌∙◌, sym, subst}
use Rattle.std.specs.List.{zip}
use Rattle.quanta.specs.declared.interval.Interval.{Interval}
use Rattle.trace.specs.declared.player.start.QuantumStart.{QuantumStart}
use Rattle.pictures.specs.declared.events.TraceEvent.{TraceEvent}
use Rattle.pictures.specs.CycleSpans.{Turn}
use Rattle.pictures.specs.Events.{json_text, pages_event}
use Rattle.pictures.proofs.CycleSpans.{next_turn}
use Rattle.pictures.proofs.EventLines.{json_is}
use Rattle.pictures.proofs.Parts.{SoFar, none_yet}

module _ (pages : ℕ) where
  -- the events of some quanta
  abbrev pub counts_of : List Turn → List TraceEvent
  counts_of turns = map (pages_event pages) turns

  -- None is written before the first turn.
  pub first_counts : (old : List ℕ) {quanta quanta' : List Interval} {starts starts' : List QuantumStart} → quanta' ≡ quanta → starts' ≡ starts → SoFar json_text old old (counts_of (zip quanta starts)) (counts_of (zip quanta' starts'))
  first_counts old {quanta} {quanta'} {starts} {starts'} q s =
      let left : zip quanta' starts' ≡ zip quanta starts = ap₂ (λ (a : List Interval) (b : List QuantumStart). zip a b) q s in
      subst (λ (turns : List Turn). SoFar json_text old old (counts_of turns) (counts_of (zip quanta' starts'))) left (none_yet json_is old (counts_of (zip quanta' starts')))

  -- The next quantum's event comes next.
  pub counts_on : {quanta later : List Interval} {starts behind : List QuantumStart} (q : Turn) (event : TraceEvent) → (quanta ≡ q.0 ∷ later) × (starts ≡ q.1 ∷ behind) → event ≡ pages_event pages q
      → counts_of (zip quanta starts) ≡ (event ∷ []) ++ counts_of (zip later behind)
  counts_on {later = later} {behind = behind} q event more is = ap counts_of (next_turn q more) ∙ ap (λ e. e ∷ counts_of (zip later behind)) (sym is)
