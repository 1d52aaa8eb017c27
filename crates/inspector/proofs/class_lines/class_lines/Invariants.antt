use Rattle.std.proofs.Common.{◌≡◌, ℕ, ◌<◌, List, Result, IfOk, String, Global, string_bytes}
use Rattle.std.specs.declared.alloc.AllocError.{AllocError}
use Rattle.size_classes.specs.declared.class.TheConstants.{CLASSES}
use Rattle.inspector.specs.ClassLines.{class_lines}
use Rattle.inspector.proofs.class_lines.class_lines.Given as goal

-- the lines of the classes so far
abbrev pub invariant-loop-number : goal.invariant-loop-number
invariant-loop-number g l = (lines : ℕ → List ℕ)
    → ((class : ℕ) (told : Result (String Global) AllocError) → class < CLASSES → goal.F-post g l.line class told → IfOk told (λ text. string_bytes text ≡ lines class))
    → string_bytes l.text ≡ class_lines lines l.number
