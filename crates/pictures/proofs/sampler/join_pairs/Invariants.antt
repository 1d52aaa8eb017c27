use Rattle.std.proofs.Common.{◌≡◌, ℕ, ◌+◌, ◌*◌, ◌<◌, ◌≤◌, length, get_or}
use Rattle.pictures.specs.declared.sample.Sample.{Sample}
use Rattle.pictures.specs.Samples.{joined}
use Rattle.pictures.proofs.sampler.join_pairs.Given as goal

-- the places so far have a sample of each two, and those from here on have their own
abbrev pub invariant-loop-place : goal.invariant-loop-place
invariant-loop-place l = record {
  length : length l.items.items ≡ length l.fn.items.items;
  done : (k : ℕ) (d : Sample) → k < l.place → get_or l.items.items k d ≡ joined (get_or l.fn.items.items (2 * k) d) (get_or l.fn.items.items (2 * k + 1) d);
  rest : (k : ℕ) (d : Sample) → l.place ≤ k → get_or l.items.items k d ≡ get_or l.fn.items.items k d;
}
