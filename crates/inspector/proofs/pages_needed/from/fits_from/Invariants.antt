use Rattle.space.specs.Fitting.{pace_in, FitsIn}
use Rattle.inspector.proofs.pages_needed.Onward.{HoldsFrom}
use Rattle.inspector.proofs.pages_needed.from.fits_from.Given as goal

-- the number from which on each of those so far fits
abbrev pub invariant-loop-pages : goal.invariant-loop-pages
invariant-loop-pages l = HoldsFrom (FitsIn l.config (pace_in l.pace)) l.pages l.from
