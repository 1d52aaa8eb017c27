use Rattle.std.proofs.Common.{◌≡◌, ◌*◌}
use Rattle.inspector.specs.Filling.{IsWithin, filling_on, summed}
use Rattle.inspector.proofs.filling.filling_of.Given as goal

-- the pages so far are summed
abbrev pub invariant-loop-number : goal.invariant-loop-number
invariant-loop-number l = record {
  filling : l.all ≡ summed (filling_on l.heap.store l.class) l.number;
  within : IsWithin l.all (131072 * l.number);
}
