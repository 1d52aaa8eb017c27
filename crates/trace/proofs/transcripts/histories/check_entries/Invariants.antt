use Rattle.std.proofs.Common.{◌≡◌, ◌-◌, ◌≤◌, ◌^◌, length}
use Rattle.trace.specs.Streams.{given_by}
use Rattle.trace.proofs.LinesProcessed.{SoFar}
use Rattle.trace.specs.LinesProcessed.{LineEffect}
use Rattle.trace.specs.Histories.{DoesNothing, DoesEntry}
use Rattle.trace.proofs.Reading.{IsReading}
use Rattle.trace.proofs.transcripts.histories.check_entries.Given as goal

-- the entries of the lines so far are done, and no read has failed
abbrev pub invariant-loop-reader : goal.invariant-loop-reader
invariant-loop-reader g l = record {
  done : SoFar (LineEffect DoesNothing DoesEntry) (given_by g.S.Source.given g.S.Source.ended l.fn.source l.source) l.fn.reference l.reference l.reader;
  good : l.good ≡ length done.events;
  few : l.good ≤ l.reader.text.number;
  reading : IsReading (g.S.Source.given l.source) (g.S.Source.failures l.fn.source) (g.S.Source.failures l.source) (g.S.Source.input l.fn.source) (g.S.Source.input l.source) l.reader;
}

abbrev pub decreases-loop-reader : goal.decreases-loop-reader
decreases-loop-reader g l = 2 ^ 64 - l.reader.text.number
