-- The outcome of measuring a trace.
use Rattle.std.specs.Prelude.{◌<◌, Result, length}
use Rattle.size_classes.specs.declared.config.Config.{Config}
use Rattle.heap_model.specs.Opening.{IsOpening}
use Rattle.heap_model.specs.ReachedFrom.{opened}
use Rattle.heap_model.specs.Event.{Runs}
use Rattle.trace.specs.declared.fault.PlayFault.{PlayFault}
use Rattle.trace.specs.Streams.{Given}
use Rattle.trace.specs.Observing.{Run}
use Rattle.trace.specs.Steps.{events_of}
use Rattle.trace.specs.Surveying.{NewRun, Surveyed}
use Rattle.sizing.specs.declared.measured.Measured.{Measured}
use Rattle.sizing.specs.declared.meter.Meter.{Meter}
use Rattle.sizing.specs.Measured.{IsMeasured}
use Rattle.sizing.specs.Promises.{Promises}
use Rattle.sizing.specs.Meter.{Measures}

-- These measurements are those of the events of a run, and their promises hold of it.
pub record RunMeasured (config : Config) (given : Given) (run : NewRun config given) (m : Measured) : Type 0 where
  pub is : IsMeasured run.old.course.heap.limits run.played.over.events m
  pub promises : Promises config run.played.over.events m

-- the lines of an input are played on a new player, and their needs are returned; or it ends with a fault
abbrev pub TraceMeasured : Config → Given → Result Measured PlayFault → Type 0
TraceMeasured = Surveyed RunMeasured

-- a run from a new heap, and the meter holds the sums over its events
pub record HasMeasured (run : Run) (m : Meter) : Type 0 where
  pub opening : IsOpening run.first.heap
  pub pages : 0 < length run.first.heap.store.pages
  pub runs : Runs (opened run.first.heap) (events_of run.steps) run.now
  pub measures : Measures run.first.heap.limits (events_of run.steps) run.now m
