use Rattle.std.proofs.Common.{take}
use Rattle.space.specs.Demand.{blocks_by}
use Rattle.sizing.specs.Counts.{AreBlocks}
use Rattle.sizing.specs.Meter.{AllFit}
use Rattle.sizing.proofs.meter.Meter.reached.Given as goal

-- what the objects so far need
abbrev pub invariant-loop-id : goal.invariant-loop-id
invariant-loop-id l = record { sum : AllFit l.self.graph → AreBlocks l.blocks (blocks_by l.self.graph (take l.id-index l.id-items)) }
