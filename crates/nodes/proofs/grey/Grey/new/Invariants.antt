use Rattle.std.proofs.Common.{◌≡◌, [], replicate}
use Rattle.nodes.proofs.grey.Grey.new.Given as goal

abbrev pub invariant-loop : goal.invariant-loop
invariant-loop l = l.buffers.items ≡ replicate l.counter (record { items = [] })
