use Rattle.std.proofs.Common.{take}
use Rattle.space.specs.Demand.{blocks_of}
use Rattle.sizing.specs.Counts.{AreBlocks}
use Rattle.sizing.specs.Meter.{AllFit}
use Rattle.plans.proofs.live.LiveMeter.made_blocks.Given as goal

-- the blocks of the objects so far
abbrev pub invariant-loop-at : goal.invariant-loop-at
invariant-loop-at l = AllFit l.self.graph → AreBlocks l.blocks (blocks_of (take l.at l.self.graph.objects))
