use Rattle.std.specs.Prelude.{◌≡◌, ◌*◌, ◌≤◌, slice_index}
use Rattle.size_classes.specs.Sizes.{size_of}
use Rattle.space.specs.Space.{class_sum}
use Rattle.paced.proofs.asking.words_of_parts.Given as goal

-- a class adds fewer than 2 ^ 40 words: 256 for each of fewer than 2 ^ 32 blocks
abbrev pub invariant-loop-number : goal.invariant-loop-number
invariant-loop-number l = (l.words ≡ class_sum (λ k. size_of k * slice_index l.need k) l.number) × (l.words ≤ l.number * 1099511627776)
