use Rattle.std.proofs.Common.{◌≡◌, ◌≤◌, ◌*◌}
use Rattle.pictures.specs.Allocated.{allocated_below}
use Rattle.pictures.proofs.allocated.blocks_of.Given as goal

-- the pages so far are summed
abbrev pub invariant-loop-number : goal.invariant-loop-number
invariant-loop-number l = record {
  sum : l.all ≡ allocated_below l.heap.store.pages l.number;
  blocks : l.all.blocks ≤ 131072 * l.number;
  words : l.all.words ≤ 131072 * l.number;
}
