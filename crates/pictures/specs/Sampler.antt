-- The fields of a sampler along a run.
use Rattle.std.specs.Prelude.{◌≡◌, ℕ, ◌+◌, ◌*◌, ◌/◌, ◌^◌, ◌<◌, ◌≤◌, List, ◌++◌, length, get_or}
use Rattle.pictures.specs.declared.sample.Sample.{Sample}
use Rattle.pictures.specs.declared.sample.TheConstants.{MOST_SAMPLES}
use Rattle.pictures.specs.declared.sampler.Sampler.{Sampler}
use Rattle.trace.specs.Observing.{Moment}
use Rattle.pictures.specs.Samples.{joined, IsSampleOf, AreSamples}

-- each sample is of the moments of two
pub record ArePairs (old new : List Sample) : Type 0 where
  pub length_is : length new ≡ length old / 2
  pub each : (i : ℕ) (d : Sample) → i < length new
      → get_or new i d ≡ joined (get_or old (2 * i) d) (get_or old (2 * i + 1) d)

-- These are the samples of moments, and behind them the last one, of `since` moments. No smaller power of two would do
-- as the stride of this many moments.
pub record AreTaken (moments : List Moment) (samples : List Sample) (last : Sample) (stride since : ℕ) : Type 0 where
  pub before : List Moment
  pub latest : List Moment
  pub moments_are : moments ≡ before ++ latest
  pub each : AreSamples before stride samples
  pub long : length before ≡ length samples * stride
  pub last_is : IsSampleOf latest last
  pub count : length latest ≡ since
  pub short : since ≤ stride
  pub few : length samples < MOST_SAMPLES
  pub exponent : ℕ
  pub power : stride ≡ 2 ^ exponent
  pub least : (k : ℕ) → k < exponent → MOST_SAMPLES * 2 ^ k < length moments

-- a sampler along these moments
abbrev pub IsAlong : List Moment → Sampler → Type 0
IsAlong moments s = AreTaken moments s.samples.items.items s.last s.samples.stride s.since
