use Rattle.std.proofs.Common.{◌≡◌, ◌+◌}
use Rattle.heap_server.specs.Seats.{new_seats}
use Rattle.heap_server.proofs.server.seated.Given as goal

-- the shares that are left, and the seats so far
abbrev pub invariant-loop-mutator : goal.invariant-loop-mutator
invariant-loop-mutator g l = record { parts : l.shares.parts + l.mutator ≡ l.config.mutators; amount : l.shares.amount ≡ 0; seats : l.seats.items ≡ new_seats l.mutator }
