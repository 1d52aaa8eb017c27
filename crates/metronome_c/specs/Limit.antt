-- The most that a cycle takes.
use Rattle.std.specs.Prelude.{◌≡◌, ℕ, ◌*◌, Option, Some, None}
use Rattle.size_classes.specs.declared.settings.Settings.{Settings}
use Rattle.size_classes.specs.declared.config.Config.{Config}
use Rattle.size_classes.specs.declared.fault.ConfigFault.{ConfigFault}
use Rattle.size_classes.specs.declared.ranges.Ranges.TheVariants.{Library}
use Rattle.size_classes.specs.Config.{fault_of, IsOf, cycle_limit_of}
use Rattle.size_classes.specs.Cycle.{quanta_for}
use Rattle.metronome_c.specs.declared.limit.CycleLimit.{CycleLimit}
use Rattle.metronome_c.specs.declared.status.Status.TheVariants.{Done}
use Rattle.metronome_c.specs.Status.{status_number, fault_status}

-- the quanta of a configuration's schedule that a cycle takes at most
abbrev pub quanta_of : Config → ℕ
quanta_of c = quanta_for (cycle_limit_of c) (c.collector_ticks * c.rate)

-- the units that a cycle takes at most in a heap of a configuration, and the quanta of its schedule
abbrev pub limit_of : Config → CycleLimit
limit_of c = record { units = cycle_limit_of c; quanta = quanta_of c }

-- C is told them if the settings have no fault
abbrev pub LimitsUnless : Option ConfigFault → Settings → CycleLimit → CycleLimit → ℕ → Type 0
LimitsUnless (Some fault) s before after status = (after ≡ before) × (status ≡ status_number (fault_status fault))
LimitsUnless None s before after status =
    (c : Config) × IsOf s c × (after ≡ limit_of c) × (status ≡ status_number Done)

-- the limit of the settings that C gives, or their first fault
abbrev pub TellsLimit : Settings → CycleLimit → CycleLimit → ℕ → Type 0
TellsLimit s before after status = LimitsUnless (fault_of Library s) s before after status
