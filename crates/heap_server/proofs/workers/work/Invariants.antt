use Rattle.std.proofs.Common.{◌≡◌, take}
use Rattle.graph_heap.specs.Merge.{mine, commands_of}
use Rattle.heap_server.specs.Played.{IsPart}
use Rattle.heap_server.proofs.workers.work.Given as goal

-- the commands so far were called, and the seat has seen their entries
abbrev pub invariant-loop-command : goal.invariant-loop-command
invariant-loop-command g l = record {
  mutator : l.seat.mutator ≡ l.fn.seat.mutator;
  calls : l.seat.calls ≡ l.command-index;
  told : IsPart (take l.command-index l.script) (commands_of (mine l.seat.seen l.seat.mutator));
}
