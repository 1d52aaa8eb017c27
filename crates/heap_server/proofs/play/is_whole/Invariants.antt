use Rattle.std.proofs.Common.{◌≡◌, ◌<◌, ℕ, vec_len, slice_index_or}
use Rattle.heap_server.proofs.play.is_whole.Given as goal

abbrev pub invariant-loop-i : goal.invariant-loop-i
invariant-loop-i l = (m : ℕ) (e : _) → m < l.i → slice_index_or l.done m 0 ≡ vec_len (slice_index_or l.scripts m e)
