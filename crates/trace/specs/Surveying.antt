-- The survey of a run.
use Rattle.std.specs.Prelude.{[], Result, Ok, Err}
use Rattle.size_classes.specs.declared.config.Config.{Config}
use Rattle.trace.specs.declared.fault.PlayFault.{PlayFault}
use Rattle.trace.specs.Streams.{Given}
use Rattle.trace.specs.declared.player.style.Style.TheVariants.{Nothing}
use Rattle.trace.specs.New.{IsNew}
use Rattle.trace.specs.Player.{PlayerState}
use Rattle.trace.specs.Playing.{Session, session, Played}
use Rattle.trace.specs.Observing.{StopsNew}

-- A run that played an input to its end, on a new player of a configuration.
pub record NewRun (config : Config) (given : Given) : Type 0 where
  pub old : PlayerState
  pub new : Session
  pub played : Played Nothing given (session old []) new (Ok tt)
  pub is_new : IsNew config old

-- Tells config given run findings: the meaning of the findings for a run.
module _ {Findings : Type 0} (Tells : (config : Config) (given : Given) → NewRun config given → Findings → Type 0) where
  -- The lines of an input are played on a new player, with these findings; or the fault is one with which playing
  -- them ends; or memory was refused.
  abbrev pub Surveyed : Config → Given → Result Findings PlayFault → Type 0
  Surveyed config given (Ok findings) = (run : NewRun config given) × Tells config given run findings
  Surveyed config given (Err fault) = StopsNew config given fault
