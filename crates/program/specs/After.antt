-- A play before something is reported of the player.
use Rattle.std.specs.Prelude.{◌≡◌, ℕ, ◌⊎◌, List, Option, Result, Ok, Err}
use Rattle.size_classes.specs.declared.config.Config.{Config}
use Rattle.trace.specs.declared.fault.PlayFault.{PlayFault}
use Rattle.trace.specs.declared.fault.PlayFault.TheVariants.{NoMemory}
use Rattle.trace.specs.Streams.{Given, Taken}
use Rattle.trace.specs.declared.player.style.Style.TheVariants.{Nothing}
use Rattle.trace.specs.New.{IsNew}
use Rattle.trace.specs.Player.{PlayerState}
use Rattle.trace.specs.Playing.{session, PlayedUpTo}
use Rattle.program.specs.declared.fault.Ending.{Ending}
use Rattle.program.specs.declared.fault.RunFault.{RunFault}
use Rattle.program.specs.declared.fault.RunFault.TheVariants.{Text}

-- A new player played a trace, or its first event lines, and wrote no line: to the end, or until a fault ended the play.
-- Or memory was refused before anything was read or written.
abbrev pub PlayerAfter : Option ℕ → Config → Given → Taken → Result PlayerState RunFault → Type 0
PlayerAfter after config given taken (Ok new) = (old : PlayerState) × IsNew config old
    × PlayedUpTo after Nothing given (session old taken.before) (session new taken.after) (Ok tt)
PlayerAfter after config given taken (Err fault) =
    ((given.after ≡ given.before) × (taken.after ≡ taken.before) × (fault ≡ Text NoMemory))
    ⊎ ((old : PlayerState) × (new : PlayerState) × (why : PlayFault) × IsNew config old
    × PlayedUpTo after Nothing given (session old taken.before) (session new taken.after) (Err why) × (fault ≡ Text why))

-- A new player played a trace, or its first event lines, to the end, and then `Tells` holds of the player. Or the play
-- ended in a fault, and nothing was reported.
abbrev pub AfterPlay : (PlayerState → Taken → Result Ending RunFault → Type 0) → Option ℕ → Config → Given → Taken
    → Result Ending RunFault → Type 0
AfterPlay Tells after config given taken result =
    ((new : PlayerState) × (mid : List ℕ) × PlayerAfter after config given (record taken { after = mid }) (Ok new)
    × Tells new (record taken { before = mid }) result)
    ⊎ ((fault : RunFault) × (result ≡ Err fault) × PlayerAfter after config given taken (Err fault))
