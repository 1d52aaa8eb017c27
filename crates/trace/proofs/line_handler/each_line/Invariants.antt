use Rattle.std.proofs.Common.{◌+◌, ◌-◌, ◌^◌}
use Rattle.trace.specs.Handling.{HandlesLine}
use Rattle.trace.specs.Streams.{given_by}
use Rattle.trace.proofs.LinesProcessed.{SoFar}
use Rattle.trace.proofs.Reading.{IsReading}
use Rattle.trace.proofs.line_handler.each_line.Given as goal

-- the handler did the lines so far and is ready for the next, and no read has failed
abbrev pub invariant-loop-handler : goal.invariant-loop-handler
invariant-loop-handler g l = record {
  done : SoFar (HandlesLine g.H.LineHandler.handles) (given_by g.S.Source.given g.S.Source.ended l.fn.source l.source) l.fn.handler l.handler l.reader;
  ready : g.H.LineHandler.is_ready (l.reader.text.number + 1) l.handler;
  reading : IsReading (g.S.Source.given l.source) (g.S.Source.failures l.fn.source) (g.S.Source.failures l.source) (g.S.Source.input l.fn.source) (g.S.Source.input l.source) l.reader;
}

abbrev pub decreases-loop-handler : goal.decreases-loop-handler
decreases-loop-handler g l = 2 ^ 64 - l.reader.text.number
