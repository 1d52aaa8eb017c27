-- The box of a value that may go to another thread, or nothing, may too.
use mir.Raw.{raw}
use base.Shift.{Keyless}
use base.Fraction.{full_share}
use denote.Exit.{Exit, unchanged, leaves, hidden, under}
use denote.Memory.{lone}
use denote.RattleType.{RattleType}
use denote.RawPtr.{Ptr, block_ptr, null_ptr, lies_at}
use denote.Param.Send.{IsSend, Quiet, Frees, part_keyless, sendable}
use denote.Builtin.{RawPtr}
use Rattle.std.specs.Prelude.{Option, Some, None}
use Rattle.std.specs.declared.alloc.Global.{Global}
use Rattle.std.specs.contracts.impls.GlobalAllocator.TheImpl.{ghosts}
use Rattle.std.specs.contracts.alloc.Global as global
use Rattle.std.proofs.Crossing as crossing
use Rattle.metronome_c.specs.Kept.{box_kept}

pub quiet : {D X : Type 0} (to : D → X) (e : Exit X) → Quiet e → Quiet (hidden (under to e))
quiet to unchanged q = λ x w. tt
quiet to (leaves L l S s r₀) q = λ d. q (to d)

lies : (R : RattleType) → IsSend R → (p : Ptr) (x : R.Denot) → Keyless (lies_at R full_share p x)
lies R s (block_ptr b o) x = part_keyless R s full_share x b o
lies R s null_ptr x = tt

pub global_sends : IsSend (global.the_field).row
global_sends = search sendable

pub pointer_sends : IsSend RawPtr
pointer_sends = search sendable

frees : Frees ghosts (ghosts.dealloc_token)
frees = crossing.frees

pub box_crosses : (R : RattleType) → IsSend R → (a : Global) (p : Ptr) (k : Option R.Denot) → Keyless (box_kept R a p k)
box_crosses R s a p None = tt
box_crosses R s a p (Some x) = (lies R s p x, frees.frees a (raw (lone R.mir)) p)
