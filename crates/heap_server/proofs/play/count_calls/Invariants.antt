use Rattle.std.proofs.Common.{◌≡◌, ◌≤◌, vec_len, vec_capacity, map, take}
use Rattle.heap_server.proofs.play.count_calls.Given as goal

abbrev pub invariant-loop-i : goal.invariant-loop-i
invariant-loop-i g l = (l.done.items ≡ map (λ s. s.calls) (take l.i l.seats)) × (vec_len l.done ≡ l.i) × (l.count ≤ vec_capacity l.done)
