use Rattle.std.proofs.Common.{◌≡◌, take}
use Rattle.paced.specs.Cycles.{saturated}
use Rattle.plans.specs.LiveMeter.{words_by}
use Rattle.plans.proofs.live.LiveMeter.reached.Given as goal

-- the words of the objects so far
abbrev pub invariant-loop-id : goal.invariant-loop-id
invariant-loop-id l = l.words ≡ saturated (words_by l.self.graph (take l.id-index l.id-items))
