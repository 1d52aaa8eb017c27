-- A handle owns the box of what it holds, or nothing, so it may go to another thread.
use denote.Param.Send.{IsSend, owning_send, struct_send, recorded_send, enum_send, sendable}
use denote.Enum.Declared.{shape as choices}
use denote.Struct.Struct.{Struct, exits_of}
use denote.Struct.Declared.{shape as fields_of}
use denote.Struct.Owning.{shape, fields, to}
use Rattle.heap_shared.proofs.Sending.{member_sends}
use Rattle.metronome_c.specs.contracts.held.Held as held
use Rattle.metronome_c.specs.contracts.own_heap.OwnHeap as own
use Rattle.metronome_c.specs.contracts.seated.Seated as seated
use Rattle.std.proofs.Crossing as crossing
use Rattle.metronome_c.specs.contracts.handle.Handle.{the_row, the_type}
use Rattle.metronome_c.proofs.Crossing.{quiet, global_sends, pointer_sends, box_crosses}

own_sends : IsSend (Struct (fields_of own.the_type))
own_sends = search (sendable, crossing.crosses) depth 40 fits 20000

seated_sends : IsSend seated.the_row
seated_sends = search (sendable, crossing.crosses, member_sends) depth 40 fits 20000

held_sends : IsSend held.the_row
held_sends = recorded_send _ _ _ (held.the_type).to_one (enum_send (choices held.the_type) ((own_sends, tt), ((seated_sends, tt), tt)))

pub send : IsSend the_row
send = let O = the_type in
    owning_send O (pointer_sends, (global_sends, tt)) (λ d. box_crosses held.the_row held_sends d.alloc d.at d.value)
    (λ k. quiet (to O) (exits_of k (fields O)) ((struct_send (shape O) (pointer_sends, (global_sends, tt))).leaving k))
