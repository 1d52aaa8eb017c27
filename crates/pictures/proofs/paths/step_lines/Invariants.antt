use Rattle.std.proofs.Common.{◌≡◌, take, string_bytes}
use Rattle.std.specs.List.{flat_map}
use Rattle.pictures.specs.PathText.{step_line}
use Rattle.pictures.proofs.paths.step_lines.Given as goal

-- the lines so far
abbrev pub invariant-loop-step : goal.invariant-loop-step
invariant-loop-step l = string_bytes l.text ≡ flat_map step_line (take l.step-index l.steps)
