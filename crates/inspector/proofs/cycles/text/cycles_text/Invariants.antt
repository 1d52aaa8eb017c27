use Rattle.std.proofs.Common.{◌≡◌, ◌++◌, take, string_bytes}
use Rattle.std.specs.List.{flat_map}
use Rattle.inspector.specs.CyclesText.{header, cycle_line}
use Rattle.inspector.proofs.cycles.text.cycles_text.Given as goal

-- the lines of the cycles so far
abbrev pub invariant-loop-cycle : goal.invariant-loop-cycle
invariant-loop-cycle l = string_bytes l.text ≡ header l.layout ++ flat_map (cycle_line l.layout) (take l.cycle-index l.cycles)
