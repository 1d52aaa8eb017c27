use Rattle.std.proofs.Common.{◌≡◌, ◌*◌, ◌≤◌, take}
use Rattle.std.specs.Prelude.{count_by, sum_by}
use Rattle.inspector.specs.Made.{makes, blocks_made}
use Rattle.inspector.proofs.cycles.made.made_by.Given as goal

-- what the entries so far made
abbrev pub invariant-loop-entry : goal.invariant-loop-entry
invariant-loop-entry l = record {
  objects : l.made.objects ≡ count_by makes (take l.entry-index l.entries);
  few : l.made.objects ≤ l.entry-index;
  blocks : l.made.blocks ≡ sum_by blocks_made (take l.entry-index l.entries);
  most : l.made.blocks ≤ 15938 * l.entry-index;
}
