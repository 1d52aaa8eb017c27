use Rattle.std.proofs.Common.{◌*◌}
use Rattle.pages.specs.FreeList.{AreFree}
use Rattle.pages.proofs.free_list.next_allocated.Given as goal

abbrev pub invariant-loop-i : goal.invariant-loop-i
invariant-loop-i l = AreFree l.words (2048 * l.page) l.fn.class l.fn.from l.i
