-- The content of a handle, if it has any.
use Rattle.std.specs.Prelude.{ℕ, ◌==◌, Bool, true, false, Option, Some, None, Result, Ok, Err}
use Rattle.metronome_c.specs.declared.held.Held.{Held}
use Rattle.metronome_c.specs.declared.metronome.Metronome.{Metronome}
use Rattle.metronome_c.specs.declared.status.Status.{Status}
use Rattle.metronome_c.specs.declared.status.Status.TheVariants.{Closed, BadHandle}

-- why a handle holds nothing: it is closed, if its check word is 0, or it is none
abbrev pub absence : Bool → Status
absence true = Closed
absence false = BadHandle

-- what a handle holds, if there is something; else the check word tells why there is nothing
abbrev pub held_by : {S : Type 0} → ℕ → Option S → Result S Status
held_by check (Some s) = Ok s
held_by check None = Err (absence (check == 0))

-- what a handle holds: a heap of its own or a member of a shared one, or the status that says why it holds neither
abbrev pub held_in : Metronome → Result Held Status
held_in m = held_by m.check m.handle.value
