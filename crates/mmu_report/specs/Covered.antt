-- Ticks that lie in intervals, counted interval by interval.
use Rattle.std.specs.Prelude.{ℕ, ◌+◌, ◌-◌, min, List, [], ◌∷◌}
use Rattle.quanta.specs.declared.interval.Interval.{Interval}

-- the ticks below a place that intervals have
abbrev pub covered : List Interval → ℕ → ℕ
covered [] place = 0
covered (i ∷ is) place = (min i.end place - i.start) + covered is place
