use Rattle.std.proofs.Common.{◌≡◌, ◌-◌, ◌^◌, ◌≤◌, ◌++◌, length}
use Rattle.std.specs.Prelude.{IfSome}
use Rattle.trace.specs.Streams.{Stays}
use Rattle.program.proofs.files.read_bytes.Given as goal

-- The bytes are those that the source gave, at most as many as asked for. The known input stays known, and no read has
-- failed.
abbrev pub invariant-loop-count : goal.invariant-loop-count
invariant-loop-count g l = record {
  bytes : g.S.Source.given l.source ≡ g.S.Source.given l.fn.source ++ l.bytes.items;
  within : IfSome l.fn.most (λ n. length l.bytes.items ≤ n);
  input : Stays (g.S.Source.input l.fn.source) (g.S.Source.input l.source);
  failures : g.S.Source.failures l.source ≡ g.S.Source.failures l.fn.source;
}

abbrev pub decreases-loop-count : goal.decreases-loop-count
decreases-loop-count g l = 2 ^ 64 - length (g.S.Source.given l.source)
