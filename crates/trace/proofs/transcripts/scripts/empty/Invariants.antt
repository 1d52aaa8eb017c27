use Rattle.std.proofs.Common.{◌≡◌, vec_len, replicate, []}
use Rattle.trace.specs.Scripts.{lists_in}
use Rattle.trace.proofs.transcripts.scripts.empty.Given as goal

-- the scripts so far are empty
abbrev pub invariant-loop : goal.invariant-loop
invariant-loop l = record {
  lists : lists_in l.scripts ≡ replicate l.counter [];
  len : vec_len l.scripts ≡ l.counter;
}
