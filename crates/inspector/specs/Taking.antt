-- The outcome of taking the cycles of a run.
use Rattle.std.specs.Prelude.{Result}
use Rattle.size_classes.specs.declared.config.Config.{Config}
use Rattle.trace.specs.declared.fault.PlayFault.{PlayFault}
use Rattle.trace.specs.Streams.{Given}
use Rattle.trace.specs.Observing.{brought}
use Rattle.trace.specs.Steps.{steps_in}
use Rattle.trace.specs.Surveying.{NewRun, Surveyed}
use Rattle.inspector.specs.declared.cycles.cycle.Cycles.{Cycles}
use Rattle.inspector.specs.Cycles.{AreCycles}

-- these are the cycles of a run
abbrev pub TellsCycles : (config : Config) (given : Given) → NewRun config given → Cycles → Type 0
TellsCycles config given run cycles = AreCycles (brought steps_in run.played.over.done) cycles.items.items

-- the lines of an input are played on a new player, and these are the cycles of the run; or it ends with a fault
abbrev pub CyclesTaken : Config → Given → Result Cycles PlayFault → Type 0
CyclesTaken = Surveyed TellsCycles
