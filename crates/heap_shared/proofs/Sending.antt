-- A member may go to another thread: for proofs of the crates above, which can't name those of the table's own parts.
use denote.RattleType.{RattleType}
use denote.Struct.Struct.{Struct}
use denote.Struct.Owning.{shape}
use denote.Param.Send.{IsSend, IsSync, sendable, part_keyless}
use Rattle.std.proofs.Crossing as crossing
use Rattle.std.specs.contracts.alloc.Global as global
use Rattle.std.specs.contracts.impls.GlobalAllocator.TheImpl.{ghosts}
use Rattle.atomic_table.specs.declared.shared.TableRule.{Ghosts}
use Rattle.atomic_table.specs.contracts.send_lease.SendLease as lease
use Rattle.atomic_table.specs.contracts.shared.Seat as seat
use Rattle.atomic_table.specs.contracts.shared.Shared as table
use Rattle.atomic_table.proofs.Rights.{right_send}
use Rattle.atomic_table.proofs.Sent.{seat_keyless, owns_keyless, shares_keyless}
use Rattle.circular_buffer.specs.contracts.cells.Deed as deed
use Rattle.circular_buffer.specs.contracts.heap.HeapCircularBuffer as buffer
use Rattle.circular_buffer.proofs.Crosses.{Cells-send, Deed-send}
use Rattle.ghosts.proofs.Sent.{ghost_sends}
use Rattle.heap_shared.specs.contracts.log.HeapLog as log
use Rattle.heap_shared.specs.contracts.member.Member.{the_row}
use Rattle.heap_shared.specs.contracts.rule.Known as known
use Rattle.heap_shared.specs.contracts.shared_heap.SharedHeap as heap

-- each as in `atomic_table`
seat_send : (S V : RattleType) → IsSend S → IsSend (seat.the_row S V)
seat_send S V s = record { owned = λ d vs. ((λ vss. (tt, ((λ uss. (tt, tt)), tt))), seat_keyless S s V.coded.code d.table_id d.id d.me); leaving = λ k f vs. tt }

table_send : (S V K P : RattleType) (g : Ghosts P.Denot S.Denot V.Denot K.Denot) → IsSend S → IsSend (table.the_row S V K P g)
table_send S V K P g s = record { owned = λ d vs. ((λ vss. (tt, (tt, (tt, ((λ uss. (tt, tt)), tt))))), owns_keyless S s V.coded.code d.table_id (g.holds d.key) d.words d.slots); leaving = λ k f vs. tt }

table_sync : (S V K P : RattleType) (g : Ghosts P.Denot S.Denot V.Denot K.Denot) → IsSend S → IsSync (table.the_row S V K P g)
table_sync S V K P g s = let fields : IsSync (Struct (shape (table.the_type S V K P g))) = search sendable depth 20 in
    record { shared = λ d b o ν. (fields.shared (d.words, (d.slots, (tt, tt))) b o ν, shares_keyless S s V.coded.code d.table_id (g.holds d.key) d.words d.slots ν) }

lease_sync : (T : RattleType) → IsSync (lease.the_row T global.the_row ghosts)
lease_sync T = record { shared = λ d b o ν q. part_keyless (lease.the_row T global.the_row ghosts) (right_send T global.the_row ghosts crossing.frees) q d b o }

lease_send : (T : RattleType) → IsSend (lease.the_row T global.the_row ghosts)
lease_send T = right_send T global.the_row ghosts crossing.frees

-- a ring of entries
deed_send : (T : RattleType) → IsSend (deed.the_row T global.the_row ghosts)
deed_send T = Deed-send T global.the_row ghosts crossing.frees

buffer_send : (T : RattleType) → IsSend T → IsSend (buffer.the_row T global.the_row ghosts)
buffer_send T s = search (sendable, crossing.crosses, Cells-send, deed_send) depth 40 fits 20000

-- a heap with its log
log_sends : IsSend log.the_row
log_sends = search (sendable, crossing.crosses, ghost_sends, buffer_send) depth 40 fits 20000

heap_sends : IsSend heap.the_row
heap_sends = search (sendable, crossing.crosses, log_sends) depth 40 fits 20000

seat_sends : IsSend (seat.the_row heap.the_row known.the_row)
seat_sends = seat_send heap.the_row known.the_row heap_sends

ruleset parts = (crossing.crosses, heap_sends, seat_sends, table_send, table_sync, lease_send, lease_sync)

pub member_sends : IsSend the_row
member_sends = search (sendable, parts) depth 60 fits 100000
