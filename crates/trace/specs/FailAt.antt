-- A source or sink that fails on purpose: the stream to which it passes calls on, the number of calls up to the one
-- that fails (0 if none will), and how often it failed itself.
use Rattle.std.specs.Prelude.{ℕ, if◌then◌else◌}
use Rattle.trace.specs.declared.streams.fail_at.FailAt.{FailAt}

module _ {T : Type 0} where
  -- the stream to which calls are passed on
  abbrev pub passes_to : FailAt T → T
  passes_to s = s.inner

  -- the number of calls up to the one that fails; 0 if none will
  abbrev pub calls_left : FailAt T → ℕ
  calls_left s = s.left

  -- how many calls it has failed itself
  abbrev pub own_failures : FailAt T → ℕ
  own_failures s = if s.failed then 1 else 0
