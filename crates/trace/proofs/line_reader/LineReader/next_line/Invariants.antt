use Rattle.std.proofs.Common.{◌≡◌, ◌+◌, ◌-◌, ◌≤◌, length}
use Rattle.trace.specs.Streams.{Stays}
use Rattle.trace.specs.Lines.{Comes}
use Rattle.trace.proofs.line_reader.LineReader.next_line.Given as goal

-- what came is kept, no line was handed out, and no read has failed
abbrev pub invariant-loop-self : goal.invariant-loop-self
invariant-loop-self g l = record {
  text : Comes (g.S.Source.given l.fn.source) (g.S.Source.given l.source) l.fn.self.kept l.self.kept;
  number : l.self.text.number ≡ l.fn.self.text.number;
  next : l.self.next ≡ l.fn.self.next;
  behind : l.self.text.number + length l.self.kept ≤ length (g.S.Source.given l.source);
  input : Stays (g.S.Source.input l.fn.source) (g.S.Source.input l.source);
  failures : g.S.Source.failures l.source ≡ g.S.Source.failures l.fn.source;
}

abbrev pub decreases-loop-self : goal.decreases-loop-self
decreases-loop-self g l = 257 - length l.self.kept
