use Rattle.std.proofs.Common.{◌≡◌, ◌+◌, ◌++◌, List, vec_len}
use Rattle.std.specs.List.{sum_by}
use mathlib.Core.List.{IsPrefix}
use Rattle.heap_server.specs.Views.{SeatView}
use Rattle.heap_server.specs.Seen.{EachKnown}
use Rattle.heap_server.proofs.server.gathered.Given as goal

-- what is gathered and what the seats that are left have; and the front knows what the others have seen
abbrev pub invariant-loop-seat : goal.invariant-loop-seat
invariant-loop-seat g l = record {
  parts : l.calls.parts + vec_len l.seats ≡ vec_len l.fn.seats;
  amount : l.calls.amount + sum_by (λ s. s.calls) l.seats.items ≡ sum_by (λ s. s.calls) l.fn.seats.items;
  grows : IsPrefix l.fn.front l.front;
  known : (popped : List SeatView) × (l.fn.seats.items ≡ l.seats.items ++ popped) × EachKnown l.front popped;
}

abbrev pub decreases-loop-seat : goal.decreases-loop-seat
decreases-loop-seat g l = vec_len l.seats
