-- Minimum mutator utilisation.
use Rattle.std.specs.Prelude.{◌≡◌, ℕ, zero, suc, ◌+◌, ◌-◌, ◌*◌, ◌/◌, ◌≤◌, nat_le, nat_lt, Bool, ◌&&◌, if◌then◌else◌, List}
use Rattle.std.specs.List.{list_any}
use Rattle.quanta.specs.declared.interval.Interval.{Interval}

-- whether a tick lies in an interval
abbrev pub has_tick : ℕ → Interval → Bool
has_tick tick i = nat_le i.start tick && nat_lt tick i.end

-- how many of the ticks of a window, from its start on, lie in no interval
unfoldable pub mutator_ticks : List Interval → ℕ → ℕ → ℕ
mutator_ticks intervals start zero = 0
mutator_ticks intervals start (suc window) =
    mutator_ticks intervals start window + (if list_any (has_tick (start + window)) intervals then 0 else 1)

-- the least of these, over all windows of this many ticks within the span
pub record IsLeast (intervals : List Interval) (span window least : ℕ) : Type 0 where
  pub attained : (start : ℕ) × (start + window ≤ span) × (least ≡ mutator_ticks intervals start window)
  pub below : (start : ℕ) → start + window ≤ span → least ≤ mutator_ticks intervals start window

-- the least that the mutators have of a window, if quanta of c ticks have q ticks between them: q of each whole period,
-- and of the rest those that a quantum leaves
abbrev pub bound_of : ℕ → ℕ → ℕ → ℕ
bound_of c q window = q * (window / (q + c)) + (window - (q + c) * (window / (q + c)) - c)
