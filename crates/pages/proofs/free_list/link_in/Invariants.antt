use Rattle.std.proofs.Common.{◌≡◌, ◌+◌, ◌*◌}
use Rattle.size_classes.specs.Sizes.{size_of, blocks_in}
use Rattle.pages.proofs.Threading.{Threads}
use Rattle.pages.proofs.free_list.link_in.Given as goal

abbrev pub invariant-loop-i : goal.invariant-loop-i
invariant-loop-i l = Threads l.fn.words l.words (2048 * l.page) (size_of l.fn.class) (blocks_in l.fn.class) l.i l.first × (l.block ≡ 2048 * l.page + l.i * l.size)

abbrev pub decreases-loop-i : goal.decreases-loop-i
decreases-loop-i l = l.i
