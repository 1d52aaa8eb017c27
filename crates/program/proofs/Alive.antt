-- A play that writes nothing.
use Rattle.std.proofs.Common.{inl, inr, refl}
use Rattle.std.specs.Prelude.{Result}
use Rattle.trace.specs.declared.fault.PlayFault.{PlayFault}
use Rattle.trace.specs.Streams.{Taken}
use Rattle.trace.specs.declared.player.style.Style.TheVariants.{Nothing}
use Rattle.trace.specs.Playing.{OrHeld}

-- If nothing is written, no sink is flushed.
pub not_held : (taken : Taken) (result : Result (Unit {0}) PlayFault) (EndsSo : Result (Unit {0}) PlayFault → Type 0) → OrHeld Nothing taken result EndsSo → EndsSo result
not_held taken result EndsSo (inl ends) = ends
not_held taken result EndsSo (inr held) = absurd (held.1 refl)
