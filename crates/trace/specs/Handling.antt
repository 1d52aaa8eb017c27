-- A handler gets the lines of an input, one after the other.
use Rattle.std.specs.Prelude.{◌≡◌, List, [], length, Result, Ok, Err, IfOk}
use Rattle.trace.specs.declared.fault.PlayFault.{PlayFault}
use Rattle.trace.specs.declared.line_handler.InputEnd.{InputEnd}
use Rattle.trace.specs.LinesProcessed.{LinesProcessed, ProcessingEnds}
use Rattle.trace.specs.Streams.{Given}
use Rattle.trace.specs.TextLine.{Text}

-- Handles text old new result: the outcome of one line for the handler.
module _ {H : Type 0} (Handles : Text → H → H → Result (Unit {0}) PlayFault → Type 0) where
  -- the handler does a line; it has no events
  abbrev pub HandlesLine : Text → H → List (Unit {0}) → H → Type 0
  HandlesLine text old events new = (events ≡ []) × Handles text old new (Ok tt)

  -- it stops at a line, with a fault
  abbrev pub HandlerStops : PlayFault → Text → H → H → Type 0
  HandlerStops fault text old new = Handles text old new (Err fault)

  -- The handler got the lines of an input, to its end or to a fault. At the end the result has the number of lines,
  -- and the version that a next line would have.
  pub record LinesHandled (given : Given) (old new : H) (result : Result InputEnd PlayFault) : Type 0 where
    pub over : LinesProcessed HandlesLine given old
        (λ reached. ProcessingEnds HandlerStops reached given.ended new result)
    pub tells : IfOk result (λ end. (end.lines ≡ length over.lines) × (end.version ≡ over.version))
