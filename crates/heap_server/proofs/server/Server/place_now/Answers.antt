use Rattle.std.proofs.Common.{arith}
use Rattle.graph_heap.proofs.Merge.{mine_grows}
use Rattle.heap_server.proofs.server.Server.place_now.Goals as goal

pub invariant_of-seat : goal.invariant_of-seat
invariant_of-seat g c = (c.seat.invariant.0, c.seat.invariant.1, omega (arith, c.seat.invariant.2, mine_grows c.seat.inside.front c.observe.new.self c.seat.inside.mutator c.observe.ensures.grows))

pub returns-clause-found : goal.returns-clause-found
returns-clause-found g c = c.observe.ensures.found
