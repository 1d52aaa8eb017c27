-- The invariant under the lock.
use Rattle.std.specs.Prelude.{ℕ, ◌≡◌, ◌+◌, ◌<◌, length}
use Rattle.heap_model.specs.declared.phase.Phase.{Phase}
use Rattle.heap_model.specs.declared.phase.Phase.TheVariants as phases
use Rattle.heap_model.specs.Event.{Course}
use Rattle.heap_model.specs.ReachedFrom.{IsReachedFrom}
use Rattle.heap_model.specs.Settings.{HeapSettings, settings_of}
use Rattle.machine.specs.Headline.{Holds}
use Rattle.machine.specs.Space.{FoundSpace}
use Rattle.heap_server.specs.Views.{LockedView}

-- A heap has these settings and all promises of a heap with its history; and space sufficed for the events that led to
-- it.
pub record IsSound (settings : HeapSettings) (r : Course) : Type 0 where
  pub settings_are : settings_of r.heap ≡ settings
  pub holds : Holds r
  pub space : FoundSpace r

-- how many cycles are running: none in idle, else one
abbrev pub cycles_on : Phase → ℕ
cycles_on phases.Idle = 0
cycles_on _ = 1

-- The invariant under the lock. There is a mutator, and the heap is sound. Each entry of the history was counted as a
-- call. A chain of events, with the cycles begun, the quanta done and the units spent, leads to the heap. Each cycle that
-- was begun has ended or is running.
pub record IsKept (settings : HeapSettings) (v : LockedView) : Type 0 where
  pub some : 0 < settings.limits.mutators
  pub sound : IsSound settings v.course
  pub counted : length v.course.history ≡ v.calls
  pub reached_from : IsReachedFrom v.course v.begun v.quanta v.spent
  pub cycles : v.ended + cycles_on v.course.heap.phase ≡ v.begun
