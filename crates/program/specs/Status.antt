-- The exit status of a run.
use Rattle.std.specs.Prelude.{ℕ, Result, Ok, Err}
use Rattle.trace.specs.declared.fault.PlayFault.TheVariants as texts
use Rattle.program.specs.declared.fault.Ending.{Ending}
use Rattle.program.specs.declared.fault.Ending.TheVariants as endings
use Rattle.program.specs.declared.fault.RunFault.{RunFault}
use Rattle.program.specs.declared.fault.RunFault.TheVariants as faults

-- the exit status of a run that meets no fault
abbrev pub ending_status : Ending → ℕ
ending_status endings.Done = 0
ending_status endings.WrongReply = 7

-- the exit status of a run that ends in a fault
abbrev pub fault_status : RunFault → ℕ
fault_status (faults.Words text) = 2
fault_status (faults.Config why) = 3
fault_status (faults.Text (texts.Line number why)) = 4
fault_status (faults.Text texts.Read) = 5
fault_status (faults.Text texts.Write) = 5
fault_status (faults.Text texts.NoMemory) = 6
fault_status faults.NotComplete = 8

-- the exit status of a run
abbrev pub status_of : Result Ending RunFault → ℕ
status_of (Ok ending) = ending_status ending
status_of (Err fault) = fault_status fault
