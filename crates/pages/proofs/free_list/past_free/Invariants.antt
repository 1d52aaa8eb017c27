use Rattle.std.proofs.Common.{◌*◌, ◌-◌, ◌≤◌}
use Rattle.pages.specs.FreeList.{AreFree}
use Rattle.pages.proofs.free_list.past_free.Given as goal

abbrev pub invariant-loop-place : goal.invariant-loop-place
invariant-loop-place l = (l.from ≤ l.place) × AreFree l.words (2048 * l.page) l.fn.class l.from l.place

abbrev pub decreases-loop-place : goal.decreases-loop-place
decreases-loop-place l = l.last - l.place
