-- The end of a play in which a line can't be asked for.
use Rattle.std.proofs.Common.{◌≡◌, ◌≢◌, ◌<◌, inl, inr, Bool, length, refl}
use Rattle.std.specs.Prelude.{Result, Err}
use Rattle.trace.specs.declared.fault.PlayFault.{PlayFault}
use Rattle.trace.specs.declared.fault.PlayFault.TheVariants.{Line as At_line, Read, Write, NoMemory}
use Rattle.trace.specs.LineReader.{unflushed_as_unread}
use Rattle.trace.specs.Streams.{Taken}
use Rattle.trace.specs.declared.player.style.Style.{Style}
use Rattle.trace.specs.declared.player.style.Style.TheVariants.{Nothing}
use Rattle.trace.specs.Playing.{OrHeld}

module _ (Reads : Result Bool PlayFault → Type 0) where
  -- a fault ends it, or a flush that failed, as a failed read would
  pub as_unread : (X : Type 0) (fault : PlayFault) → Reads (unflushed_as_unread (Err fault)) → ((f : PlayFault) → Reads (Err f) → X) → X
  as_unread X (At_line k why) h ends = ends (At_line k why) h
  as_unread X Read h ends = ends Read h
  as_unread X Write h ends = ends Read h
  as_unread X NoMemory h ends = ends NoMemory h

  pub or_held : (style : Style) (taken : Taken) (EndsSo : Result (Unit {0}) PlayFault → Type 0) (fault : PlayFault) → Reads (unflushed_as_unread (Err fault)) → (◌≡◌ {A = Result Bool PlayFault} (Err fault) (Err Write) → (style ≢ Nothing) × (taken.sent < length taken.after))
      → ((f : PlayFault) → Reads (Err f) → EndsSo (Err f)) → OrHeld style taken (Err fault) EndsSo
  or_held style taken EndsSo (At_line k why) h held ends = inl (ends (At_line k why) h)
  or_held style taken EndsSo Read h held ends = inl (ends Read h)
  or_held style taken EndsSo Write h held ends = let w = held refl in inr (refl, w.0, w.1, ends Read h)
  or_held style taken EndsSo NoMemory h held ends = inl (ends NoMemory h)
