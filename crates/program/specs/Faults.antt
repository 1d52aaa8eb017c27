-- The faults of the crates below, as faults of a run.
use Rattle.std.specs.Prelude.{ℕ, Bool, IsTrue, Result, Err}
use Rattle.size_classes.specs.declared.fault.ConfigFault.{ConfigFault}
use Rattle.documents.specs.declared.toml_table.ReadFault.{ReadFault}
use Rattle.documents.specs.declared.toml_table.ReadFault.TheVariants as settings
use Rattle.trace.specs.declared.fault.PlayFault.TheVariants.{Read, NoMemory}
use Rattle.trace.specs.LinesProcessed.{reads_failed, writes_failed}
use Rattle.program.specs.declared.fault.RunFault.{RunFault}
use Rattle.program.specs.declared.fault.RunFault.TheVariants.{Words, Config, Text}

-- the fault of a run whose configuration can't be read
abbrev pub of_settings : ReadFault ConfigFault → RunFault
of_settings (settings.Refused why) = Config why
of_settings settings.NoMemory = Text NoMemory

-- Words that ask for no job end a run in this fault.
abbrev pub IsOfWords : RunFault → Type 0
IsOfWords (Words text) = Unit {0}
IsOfWords (Text NoMemory) = Unit {0}
IsOfWords fault = ⊥

-- A file that can't be read into memory ends a run in this fault: in a failed read only if opening or reading the file
-- failed.
abbrev pub IsUnreadable : Bool → RunFault → Type 0
IsUnreadable failed (Text Read) = IsTrue failed
IsUnreadable failed (Text NoMemory) = Unit {0}
IsUnreadable failed fault = ⊥

-- the number of failed reads in a run that ends so: it ends at the first
abbrev pub failed_reads : {A : Type 0} → Result A RunFault → ℕ
failed_reads (Err (Text why)) = reads_failed {A = Unit {0}} (Err why)
failed_reads _ = 0

-- the number of failed writes in a run that ends so: it ends at the first
abbrev pub failed_writes : {A : Type 0} → Result A RunFault → ℕ
failed_writes (Err (Text why)) = writes_failed {A = Unit {0}} (Err why)
failed_writes _ = 0
