-- A trace that is read into memory, and measured there.
use Rattle.std.specs.Prelude.{◌≡◌, ℕ, IsTrue, List, [], ◌++◌, Result}
use Rattle.size_classes.specs.declared.config.Config.{Config}
use Rattle.trace.specs.declared.fault.PlayFault.{PlayFault}
use Rattle.trace.specs.Streams.{Given, Begins}
use Rattle.sizing.specs.declared.measured.Measured.{Measured}
use Rattle.sizing.specs.Measuring.{TraceMeasured}

-- This text is all that a source had still to give.
abbrev pub IsRest : Given → List ℕ → Type 0
IsRest given text = (given.after ≡ given.before ++ text) × IsTrue given.ended

-- A text, or a beginning of it, was given from its first byte.
abbrev pub ReadsText : List ℕ → Given → Type 0
ReadsText text given = (given.before ≡ []) × Begins given.after given.ended text

-- A trace of this text was measured on a new heap.
abbrev pub TextMeasured : Config → List ℕ → Result Measured PlayFault → Type 0
TextMeasured config text how = (given : Given) × ReadsText text given × TraceMeasured config given how
