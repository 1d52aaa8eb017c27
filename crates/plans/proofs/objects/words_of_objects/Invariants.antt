use Rattle.std.proofs.Common.{◌≡◌, take}
use Rattle.paced.specs.Cycles.{saturated}
use Rattle.plans.specs.Objects.{all_words}
use Rattle.plans.proofs.objects.words_of_objects.Given as goal

-- the words of the groups so far
abbrev pub invariant-loop-group : goal.invariant-loop-group
invariant-loop-group l = l.words ≡ saturated (all_words (take l.group-index l.groups))
