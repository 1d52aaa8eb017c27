-- A player before its first line.
use Rattle.std.specs.Prelude.{◌≡◌, ◌*◌, false, List, []}
use Rattle.size_classes.specs.declared.config.Config.{Config}
use Rattle.heap_model.specs.Event.{Course, Event, Runs}
use Rattle.heap_model.specs.Opening.{IsOpening}
use Rattle.heap_model.specs.Settings.{settings_of, settings_by}
use Rattle.machine.specs.Space.{SpaceSuffices}
use Rattle.quanta.specs.Timetable as timetables
use Rattle.trace.specs.Player.{PlayerState}

-- a player of a configuration at time 0, with the heap of the start, no history, and no cycle begun
pub record IsNew (config : Config) (p : PlayerState) : Type 0 where
  pub heap : IsOpening p.course.heap
  pub settings : settings_of p.course.heap ≡ settings_by config
  pub history : p.course.history ≡ []
  pub place : p.course.place ≡ 0
  pub timetable : p.timetable ≡ timetables.opening config.collector_ticks config.mutator_ticks
  pub budget : p.budget ≡ config.collector_ticks * config.rate
  pub starts : p.starts ≡ []
  pub begun : p.begun ≡ false

-- if the player is a new one of a configuration, space suffices for whatever events are done
abbrev pub StartsWithSpace : PlayerState → Type 0
StartsWithSpace p = (config : Config) (es : List Event) (new : Course)
    → IsNew config p → Runs p.course es new → SpaceSuffices config es
