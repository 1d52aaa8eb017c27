-- Heaps are made, and what a handle holds is given back.
use Rattle.std.specs.Prelude.{◌≡◌, ℕ, Option, Some, None, Result, Ok, Err}
use Rattle.size_classes.specs.declared.settings.Settings.{Settings}
use Rattle.size_classes.specs.declared.fault.ConfigFault.{ConfigFault}
use Rattle.size_classes.specs.declared.ranges.Ranges.TheVariants.{Library}
use Rattle.size_classes.specs.Config.{fault_of, IsOf}
use Rattle.heap_model.specs.Opening.{IsOpening}
use Rattle.heap_model.specs.Settings.{settings_of, settings_by}
use Rattle.paced.specs.Cycles.{no_cycles}
use Rattle.metronome_c.specs.declared.held.Held.{Held}
use Rattle.metronome_c.specs.declared.held.Held.TheVariants as holds
use Rattle.metronome_c.specs.declared.own_heap.OwnHeap.{OwnHeap}
use Rattle.metronome_c.specs.declared.status.Status.{Status}
use Rattle.metronome_c.specs.declared.status.Status.TheVariants.{Done, NoMemory, Open, Closed}
use Rattle.metronome_c.specs.Status.{status_number, fault_status}

-- a heap from which histories start, of a configuration with the numbers of these settings; no plan is kept, and no cycle has
-- begun
abbrev pub IsMadeOf : Settings → OwnHeap → Type 0
IsMadeOf s h = IsOpening h.heap × IsOf s h.config × (settings_of h.heap ≡ settings_by h.config) × (h.pacer ≡ None)
    × (h.cycles ≡ no_cycles)

-- a handle holds such a heap of its own
abbrev pub IsOwnOf : Settings → Held → Type 0
IsOwnOf s (holds.Own h) = IsMadeOf s h
IsOwnOf s (holds.Shared m) = ⊥

-- such a thing is made; or there was no memory for it, and the handle is closed
abbrev pub IsMade : {S : Type 0} → (S → Type 0) → Result S Status → ℕ → Type 0
IsMade Such (Ok made) status = (status ≡ status_number Done) × Such made
IsMade Such (Err why) status = (why ≡ Closed) × (status ≡ status_number NoMemory)

-- it is made if the settings have no fault
abbrev pub MakesUnless : {S : Type 0} → Option ConfigFault → (S → Type 0) → Result S Status → ℕ → Type 0
MakesUnless (Some fault) Such new status = (new ≡ Err Closed) × (status ≡ status_number (fault_status fault))
MakesUnless None Such new status = IsMade Such new status

-- Something that is so of these settings is made, if the settings have no fault and the handle is closed. Another handle stays
-- as it is.
abbrev pub Creates : {S : Type 0} → (Settings → S → Type 0) → Result S Status → Settings → Result S Status → ℕ → Type 0
Creates IsSo (Ok held) s new status = (new ≡ Ok held) × (status ≡ status_number Open)
Creates IsSo (Err Closed) s new status = MakesUnless (fault_of Library s) (IsSo s) new status
Creates IsSo (Err why) s new status = (new ≡ Err why) × (status ≡ status_number why)

-- a handle that holds something is closed, and another stays as it is
abbrev pub Destroys : {S : Type 0} → Result S Status → Result S Status → Type 0
Destroys (Ok held) new = new ≡ Err Closed
Destroys (Err why) new = new ≡ Err why
