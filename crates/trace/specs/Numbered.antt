-- The outcome of reading a line of a trace.
use Rattle.std.specs.Prelude.{◌≡◌, Option, Some, None, Result, Ok, Err}
use Rattle.trace.specs.declared.fault.LineFault.TheVariants.{NotAnEvent}
use Rattle.trace.specs.declared.fault.PlayFault.{PlayFault}
use Rattle.trace.specs.declared.fault.PlayFault.TheVariants.{Line as At_line}
use Rattle.trace.specs.declared.line.Line.{Line}
use Rattle.trace.specs.Spelling.{Spells}
use Rattle.trace.specs.TextLine.{Text, IsVersionLine}

-- a fault at a line: no line of a trace is spelled so, and it doesn't tell the version
abbrev pub IsNoEvent : PlayFault → Text → Type 0
IsNoEvent fault text = (fault ≡ At_line text.number NotAnEvent)
    × ((x : Line) → Spells text.version text.bytes x → ⊥) × (¬ IsVersionLine text)

-- The result for a line: it tells the version of the lines after it; or it is the one line that is spelled so; or no
-- line is.
abbrev pub LineRead : Text → Result (Option Line) PlayFault → Type 0
LineRead text (Ok None) = IsVersionLine text
LineRead text (Ok (Some line)) = (¬ IsVersionLine text) × Spells text.version text.bytes line
    × ((x : Line) → Spells text.version text.bytes x → line ≡ x)
LineRead text (Err fault) = IsNoEvent fault text
