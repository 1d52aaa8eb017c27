use Rattle.std.proofs.Common.{◌≡◌, ℕ, ◌+◌, ◌-◌, ◌<◌, ◌≤◌, get_or}
use Rattle.heap_model.specs.Store.{record_of}
use Rattle.marker.proofs.scan.nulls_from.Given as goal

-- the cells so far are null
abbrev pub invariant-loop-nulls : goal.invariant-loop-nulls
invariant-loop-nulls l = (l.nulls ≤ l.most) × ((k : ℕ) → l.from ≤ k → k < l.from + l.nulls → get_or (record_of l.nodes l.block).cells k 0 ≡ 0)

abbrev pub decreases-loop-nulls : goal.decreases-loop-nulls
decreases-loop-nulls l = l.most - l.nulls
