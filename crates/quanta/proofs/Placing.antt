-- A timetable with one interval more.
use Rattle.std.proofs.Common.{◌≡◌, ℕ, ◌+◌, ◌<◌, List, [], ◌∷◌, ◌++◌, Option, Some, None, sym, subst, arith, refl}
use Rattle.std.specs.List.{last_or}
use Rattle.std.specs.Option.{IsSomeAnd}
use Rattle.quanta.specs.declared.schedule.TheConstants.{CLOCK_LIMIT}
use Rattle.quanta.specs.declared.interval.Interval.{Interval}
use Rattle.quanta.specs.Intervals.{IsSpaced}
use Rattle.quanta.specs.Timetable.{Timetable, IsTimetable, start_after}
use Rattle.quanta.proofs.Lasts.{last_or-append}
use Rattle.quanta.proofs.Spacing.{IsSpacedFrom-append}

due_is : (o : Option ℕ) (start : ℕ) (P : ℕ → Type 0) → o ≡ Some start → IsSomeAnd o P → P start
due_is o start P e h = subst (λ x. IsSomeAnd x P) e h

-- with the interval of the quantum that was due at start, and the next one due behind it
pub IsTimetable-placed : (t : Timetable) (start reserved : ℕ) (items : List Interval)
    → IsTimetable t → t.due ≡ Some start → IsSomeAnd t.due (λ due. due < CLOCK_LIMIT)
    → items ≡ t.intervals ++ (record { start = start; end = start + t.collector_ticks }) ∷ []
    → IsTimetable (record t { intervals = items; due = Some (start + t.collector_ticks + t.mutator_ticks); reserved = reserved })
IsTimetable-placed t start reserved items h due below e =
    let i : Interval = record { start = start; end = start + t.collector_ticks } in
    let early : start < CLOCK_LIMIT = due_is t.due start (λ x. x < CLOCK_LIMIT) due below in
    let behind = h.due start due in
    let end : start_after t.mutator_ticks (last_or None items) ≡ start + t.collector_ticks + t.mutator_ticks =
    subst (λ is. start_after t.mutator_ticks (last_or None is) ≡ start + t.collector_ticks + t.mutator_ticks) (sym e)
    (subst (λ o. start_after t.mutator_ticks o ≡ start + t.collector_ticks + t.mutator_ticks) (sym (last_or-append None t.intervals i)) refl) in
    record {
      spaced = subst (IsSpaced t.collector_ticks t.mutator_ticks) (sym e) (IsSpacedFrom-append t.collector_ticks t.mutator_ticks None t.intervals i h.spaced behind.0 refl);
      clock = h.clock;
      behind = omega arith;
      due = λ x is. (let same : start + t.collector_ticks + t.mutator_ticks ≡ x = cc in (omega arith, omega arith));
      collector_ticks = h.collector_ticks;
      mutator_ticks = h.mutator_ticks;
    }
