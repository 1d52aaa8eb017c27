-- The mutators' shares of windows of some lengths.
use Rattle.std.specs.Prelude.{◌≡◌, ℕ, zero, suc, ◌*◌, ◌/◌, ◌<◌, max, List, [], ◌∷◌, length, take, slice_index}
use Rattle.std.specs.List.{AllZip}
use Rattle.size_classes.specs.declared.config.Config.{Config}
use Rattle.quanta.specs.Timetable.{Timetable, last_end}
use Rattle.mmu_report.specs.Utilisation.{IsLeast, bound_of}
use Rattle.pictures.specs.declared.share.Share.{Share}
use Rattle.pictures.specs.declared.share.TheConstants.{WINDOWS}

-- this many powers of ten from one on, each with two and five times as much
abbrev pub round_numbers : ℕ → ℕ → List ℕ
round_numbers power zero = []
round_numbers power (suc more) = power ∷ 2 * power ∷ 5 * power ∷ round_numbers (10 * power) more

-- the ticks that a timetable covers
abbrev pub span_of : Timetable → ℕ
span_of t = max t.clock (last_end t.intervals)

-- A window's shares in thousandths, rounded down: the least that the mutators had of it, and the least that the
-- schedule promises.
pub record IsShare (config : Config) (t : Timetable) (window : ℕ) (share : Share) : Type 0 where
  pub window_is : share.window ≡ window
  pub measured_is : (least : ℕ) × IsLeast t.intervals (span_of t) window least
      × (share.measured ≡ 1000 * least / window)
  pub promised_is : share.promised ≡ 1000 * bound_of config.collector_ticks config.mutator_ticks window / window

-- The shares of the first windows: the next window, if there is one, is longer than the span.
pub record AreShares (config : Config) (t : Timetable) (shares : List Share) : Type 0 where
  pub each : AllZip (IsShare config t) (take (length shares) WINDOWS) shares
  pub next : length shares < length WINDOWS → span_of t < slice_index WINDOWS (length shares)
