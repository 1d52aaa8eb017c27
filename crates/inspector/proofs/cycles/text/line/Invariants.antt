use Rattle.std.proofs.Common.{◌≡◌, ◌++◌, take, Some, string_bytes}
use Rattle.std.specs.List.{flat_map}
use Rattle.inspector.specs.CyclesText.{figure, figures, separator}
use Rattle.inspector.proofs.cycles.text.line.Given as goal

-- the figures so far
abbrev pub invariant-loop-cell : goal.invariant-loop-cell
invariant-loop-cell l =
    string_bytes l.text ≡ figure l.layout (Some l.cycle.line) ++ flat_map (λ f. separator l.layout ++ figure l.layout f) (take l.cell-index (figures l.cycle))
