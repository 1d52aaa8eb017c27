use Rattle.std.proofs.Common.{◌≡◌, drop}
use Rattle.pictures.specs.Lines.{lines_text, present}
use Rattle.pictures.proofs.Parts.{SoFar}
use Rattle.pictures.proofs.writing.write_present.Given as goal

-- the lines so far are written, and no call has failed
abbrev pub invariant-loop-line : goal.invariant-loop-line
invariant-loop-line g l = record {
  written : SoFar (lines_text g.L.DocumentLine.line) (g.K.Sink.taken l.fn.sink) (g.K.Sink.taken l.sink) (present l.lines) (present (drop l.line-index l.lines));
  failures : g.K.Sink.failures l.sink ≡ g.K.Sink.failures l.fn.sink;
}
