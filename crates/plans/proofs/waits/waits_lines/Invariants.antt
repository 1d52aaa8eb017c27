use Rattle.std.proofs.Common.{◌≡◌, map, take}
use Rattle.std.specs.List.{concat}
use Rattle.std.specs.Prelude.{string_bytes}
use Rattle.plans.specs.Waits.{waits_line}
use Rattle.plans.proofs.waits.waits_lines.Given as goal

-- the lines so far
abbrev pub invariant-loop-asked : goal.invariant-loop-asked
invariant-loop-asked l = string_bytes l.text ≡ concat (map (waits_line l.config l.live_words l.plan) (take l.asked-index l.asks))
