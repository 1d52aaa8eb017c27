-- A handle lends its content.
use Rattle.std.specs.Prelude.{Some}
use Rattle.std.specs.Borrow.{Fml, Lends, MutBor}
use Rattle.metronome_c.specs.contracts.held.Held as held
use Rattle.heap_shared.specs.contracts.member.Member as member
use Rattle.metronome_c.specs.declared.handle.Handle.{Handle}
use Rattle.metronome_c.specs.contracts.handle.Handle.{the_row}
use Rattle.metronome_c.specs.contracts.seated.Seated as seated

-- the handle with this heap where it had its own
abbrev pub with_heap : Handle → (held.the_row).Denot → Handle
with_heap h x = record { at = h.at; alloc = h.alloc; value = Some x }

-- once the borrow of the heap ends, the handle holds what was left behind it
abbrev pub LendsHeap : MutBor Handle → MutBor ((held.the_row).Denot) → Fml
LendsHeap h r = Lends the_row held.the_row h r (with_heap h.now)

-- once the borrow of the member ends, the box holds the member that was left behind it
abbrev pub LendsMember : MutBor ((seated.the_row).Denot) → MutBor ((member.the_row).Denot) → Fml
LendsMember s r = Lends seated.the_row member.the_row s r (λ x. x)
