use Rattle.std.proofs.Common.{◌≡◌, ◌-◌, ◌^◌, Some}
use Rattle.std.specs.List.{count_by}
use Rattle.trace.specs.Streams.{given_by}
use Rattle.trace.proofs.LinesProcessed.{SoFar}
use Rattle.trace.proofs.Reading.{IsReading}
use Rattle.trace.specs.Playing.{session, PlaysLine, is_event, EndAtEvent}
use Rattle.trace.proofs.First.{AreLeft}
use Rattle.trace.proofs.Sent.{SentSoFar}
use Rattle.trace.proofs.player.playing.play_lines.Given as goal

-- the lines so far are done, none of them after the nth event; those behind what is sent on waited in the reader's buffer; and
-- no read or write has failed
abbrev pub invariant-loop-reader : goal.invariant-loop-reader
invariant-loop-reader g l = record {
  done : SoFar (PlaysLine l.style) (given_by g.S.Source.given g.S.Source.ended l.fn.source l.source) (session l.fn.player (g.K.Sink.taken l.fn.sink)) (session l.player (g.K.Sink.taken l.sink)) l.reader;
  sent : SentSoFar l.style (session l.fn.player (g.K.Sink.taken l.fn.sink)) done.lines done.events l.reader.kept (g.K.Sink.sent l.sink);
  few : AreLeft l.fn.n (count_by is_event done.lines) l.left;
  at_end : l.left ≡ Some 0 → EndAtEvent done.lines;
  none : l.fn.n ≡ Some 0 → l.source ≡ l.fn.source;
  reading : IsReading (g.S.Source.given l.source) (g.S.Source.failures l.fn.source) (g.S.Source.failures l.source) (g.S.Source.input l.fn.source) (g.S.Source.input l.source) l.reader;
  writes : g.K.Sink.failures l.sink ≡ g.K.Sink.failures l.fn.sink;
}

abbrev pub decreases-loop-reader : goal.decreases-loop-reader
decreases-loop-reader g l = 2 ^ 64 - l.reader.text.number
