-- A line of an input as text, with its number and its version, and the version of the line after it.
use Rattle.std.specs.Prelude.{◌≡◌, ℕ, ◌+◌, ◌⊎◌, List, length}
use Rattle.trace.specs.declared.text_line.TextLine.{TextLine}
use Rattle.trace.specs.declared.version.Version.{Version}
use Rattle.trace.specs.declared.version.Version.TheVariants.{Second}
use Rattle.trace.specs.Spelling.{TellsVersion}

-- a line of an input: its bytes without LF, its number from 1, and its version
pub record Text : Type 0 where
  pub bytes : List ℕ
  pub number : ℕ
  pub version : Version

-- a line that the program has: its bytes, number and version
abbrev pub text_in : TextLine → Text
text_in line = record { bytes = line.bytes.now; number = line.number; version = line.version }

-- the line after these lines, in a version
abbrev pub text_after : List (List ℕ) → Version → List ℕ → Text
text_after lines version line = record { bytes = line; number = length lines + 1; version = version }

-- the line tells the version of the lines after it
abbrev pub IsVersionLine : Text → Type 0
IsVersionLine text = TellsVersion text.number text.bytes

-- the version of the line after a line
abbrev pub IsNextVersion : Text → Version → Type 0
IsNextVersion text next = (IsVersionLine text × (next ≡ Second))
    ⊎ ((¬ IsVersionLine text) × (next ≡ text.version))
