use Rattle.std.proofs.Common.{◌++◌, ◌∷◌, inl, arith, sym, ap, ◌∙◌, refl, Ok, Err, true, false, subst}
use Rattle.std.proofs.lemmas.Result.{err_from_is_err_and}
use Rattle.std.specs.List.{count_by}
use Rattle.trace.specs.Streams.{Taken, given_by}
use Rattle.trace.specs.LineReader.{ReadsLine}
use Rattle.trace.specs.TextLine.{Text, text_in}
use Rattle.trace.proofs.LinesProcessed.{at_first, goes_on, ends_without, ends_over, ends_at}
use Rattle.trace.proofs.Reading.{reading_at_first, reading_on}
use Rattle.trace.specs.Playing.{session, PlaysLine, is_event, StopsText, PlayedUpTo, LinePlayed}
use Rattle.trace.proofs.Lines.{ends_so}
use Rattle.trace.proofs.First.{count_more, left_at_first, left_on, fewer, last_left, up_to, none_left}
use Rattle.trace.proofs.Held.{as_unread, or_held}
use Rattle.trace.proofs.Sent.{sent_first, still_sent, sent_on, asked_on, waited_or, handed, sent_at_end, sent_meanwhile}
use Rattle.trace.proofs.player.playing.play_lines.Goals as goal

pub loop-reader-init : goal.loop-reader-init
loop-reader-init g c = rw c.new-reader.ensures (record {
  done = at_first (PlaysLine c.args.style) (g.S.Source.given c.args.source.now) (g.S.Source.ended c.args.source.now) (session c.args.player.now (g.K.Sink.taken c.args.sink.now));
  sent = sent_first c.args.style (session c.args.player.now (g.K.Sink.taken c.args.sink.now)) (g.K.Sink.sent c.args.sink.now);
  few = left_at_first c.args.n;
  at_end = λ _. inl refl;
  none = λ _. refl;
  reading = reading_at_first (g.S.Source.given c.args.source.now) (g.S.Source.failures c.args.source.now) (g.S.Source.input c.args.source.now);
  writes = refl;
})

pub returns-in_err-next_line-clause-played : goal.returns-in_err-next_line-clause-played
returns-in_err-next_line-clause-played g c =
    let p = err_from_is_err_and c.from_residual.result c.from_residual.ensures.1 in
    let e = c.in_err-next_line.ensures in
    let i = c.loop-reader.invariant in
    let new = c.next_line.new in
    let few = fewer c.args.n c.loop-reader.left (count_by is_event i.done.lines) i.few (c.is_any_left.ensures.some c.loop-reader-test.true) in
    let old = session c.args.player.now (g.K.Sink.taken c.args.sink.now) in
    let mid = session c.loop-reader.player (g.K.Sink.taken c.loop-reader.sink) in
    let given = given_by g.S.Source.given g.S.Source.ended c.args.source.now new.source in
    let taken : Taken = record { before = g.K.Sink.taken c.args.sink.now; after = g.K.Sink.taken c.loop-reader.sink; sent = g.K.Sink.sent new.sink } in
    rw (p.1, p.2, e.taken)
    (or_held (ReadsLine (given_by g.S.Source.given g.S.Source.ended c.loop-reader.source new.source) c.loop-reader.reader new.reader) c.args.style taken (PlayedUpTo c.args.n c.args.style given old mid) c.in_err-next_line.field-0.0 e.hands e.held
    (λ f h. up_to c.args.n (ends_so (ends_without i.done new.reader _ _ (Unit {0}) (StopsText c.args.style) f h)) few))

pub returns-in_err-next_line-clause-sent : goal.returns-in_err-next_line-clause-sent
returns-in_err-next_line-clause-sent g c =
    let e = c.in_err-next_line.ensures in
    let i = c.loop-reader.invariant in
    let new = c.next_line.new in
    let old = session c.args.player.now (g.K.Sink.taken c.args.sink.now) in
    let mid = session c.loop-reader.player (g.K.Sink.taken c.loop-reader.sink) in
    let kept = c.loop-reader.reader.kept in
    let sent = g.K.Sink.sent c.loop-reader.sink in
    let sent' = g.K.Sink.sent new.sink in
    as_unread (ReadsLine (given_by g.S.Source.given g.S.Source.ended c.loop-reader.source new.source) c.loop-reader.reader new.reader) _ c.in_err-next_line.field-0.0 e.hands
    (λ f h. sent_at_end mid (Err f) sent' (ends_without i.done new.reader _ _ (Unit {0}) (StopsText c.args.style) f h)
    (asked_on c.args.style old i.done.lines i.done.events c.loop-reader.reader.next mid i.done.done kept new.reader.kept sent sent' i.sent e.sent h.small (waited_or g.S.Source.given c.loop-reader.source new.source kept new.reader.kept h.text e.asked)))

pub returns-in_err-is_event-clause-played : goal.returns-in_err-is_event-clause-played
returns-in_err-is_event-clause-played g c =
    let p = err_from_is_err_and c.from_residual-in_err-is_event.result c.from_residual-in_err-is_event.ensures.1 in
    let e = c.in_ok-next_line.ensures in
    let i = c.loop-reader.invariant in
    let new = c.next_line.new in
    let stops = subst (λ t. StopsText c.args.style c.in_err-is_event.field-0.0 (text_in c.text.result) (session c.loop-reader.player t) (session c.play_line.new.player (g.K.Sink.taken c.play_line.new.sink))) e.taken c.in_err-is_event.ensures.played in
    rw (p.1, p.2) (inl (up_to c.args.n (ends_so
    (ends_at i.done new.reader _ _ _ e.hands c.if-branch.true _ c.text.ensures (Unit {0}) (StopsText c.args.style) _ _ stops))
    (fewer c.args.n c.loop-reader.left (count_by is_event i.done.lines) i.few (c.is_any_left.ensures.some c.loop-reader-test.true))))

pub returns-in_err-is_event-clause-sent : goal.returns-in_err-is_event-clause-sent
returns-in_err-is_event-clause-sent g c =
    let e = c.in_ok-next_line.ensures in
    let i = c.loop-reader.invariant in
    let new = c.next_line.new in
    let old = session c.args.player.now (g.K.Sink.taken c.args.sink.now) in
    let mid = session c.loop-reader.player (g.K.Sink.taken c.loop-reader.sink) in
    let stops = subst (λ t. StopsText c.args.style c.in_err-is_event.field-0.0 (text_in c.text.result) (session c.loop-reader.player t) (session c.play_line.new.player (g.K.Sink.taken c.play_line.new.sink))) e.taken c.in_err-is_event.ensures.played in
    let h = handed _ _ _ _ true c.if-branch.true e.hands in
    let kept = c.loop-reader.reader.kept in
    let rest = new.reader.text.bytes ++ 10 ∷ new.reader.kept in
    let sent = g.K.Sink.sent new.sink in
    sent_at_end (session c.play_line.new.player (g.K.Sink.taken c.play_line.new.sink)) (Err c.in_err-is_event.field-0.0) (g.K.Sink.sent c.play_line.new.sink)
    (ends_at i.done new.reader _ _ _ e.hands c.if-branch.true _ c.text.ensures (Unit {0}) (StopsText c.args.style) _ _ stops)
    (still_sent c.args.style old i.done.lines i.done.events rest sent (g.K.Sink.sent c.play_line.new.sink) c.in_err-is_event.ensures.sent
    (asked_on c.args.style old i.done.lines i.done.events c.loop-reader.reader.next mid i.done.done kept rest (g.K.Sink.sent c.loop-reader.sink) sent i.sent e.sent h.small (waited_or g.S.Source.given c.loop-reader.source new.source kept rest h.text e.asked)))

pub loop-reader-preserved : goal.loop-reader-preserved
loop-reader-preserved g c =
    let e = c.in_ok-next_line.ensures in
    let i = c.loop-reader.invariant in
    let new = c.next_line.new in
    let old = session c.args.player.now (g.K.Sink.taken c.args.sink.now) in
    let mid = session c.loop-reader.player (g.K.Sink.taken c.loop-reader.sink) in
    let h = handed _ _ _ _ true c.if-branch.true e.hands in
    let done = c.in_ok-is_event.ensures in
    let played = subst (λ t. LinePlayed c.args.style (text_in c.text.result) (session c.loop-reader.player t) (session c.play_line.new.player (g.K.Sink.taken c.play_line.new.sink)) (Ok c.in_ok-is_event.is_event)) e.taken done.played in
    let event = played.2 ∙ ap (λ (t : Text). is_event t.bytes) c.text.ensures in
    let lines = i.done.lines in
    let some = c.is_any_left.ensures.some c.loop-reader-test.true in
    let text = new.reader.text.bytes in
    let kept = c.loop-reader.reader.kept in
    let rest = text ++ 10 ∷ new.reader.kept in
    let sent = g.K.Sink.sent new.sink in
    record {
      done = goes_on i.done new.reader _ _ _ e.hands c.if-branch.true _ c.text.ensures _ played.0 played.1;
      sent = sent_on c.args.style old lines i.done.events played.0 text new.reader.kept sent (g.K.Sink.sent c.play_line.new.sink) done.sent
          (asked_on c.args.style old lines i.done.events c.loop-reader.reader.next mid i.done.done kept rest (g.K.Sink.sent c.loop-reader.sink) sent i.sent e.sent h.small (waited_or g.S.Source.given c.loop-reader.source new.source kept rest h.text e.asked));
      few = rw (c.left_after-left.ensures, count_more lines text c.in_ok-is_event.is_event event) (left_on c.args.n c.loop-reader.left (count_by is_event lines) c.in_ok-is_event.is_event i.few some);
      at_end = λ none. last_left c.loop-reader.left c.in_ok-is_event.is_event lines text some event (sym c.left_after-left.ensures ∙ none);
      none = λ none. absurd (let few = fewer c.args.n c.loop-reader.left (count_by is_event lines) i.few some 0 none in omega (arith, few));
      reading = reading_on i.reading e.behind e.reads (e.input (refl {a = 0}));
      writes = omega (arith, e.writes, done.writes, i.writes);
    }

pub returns-else-branch-clause-played : goal.returns-else-branch-clause-played
returns-else-branch-clause-played g c =
    let e = c.in_ok-next_line.ensures in
    let i = c.loop-reader.invariant in
    let new = c.next_line.new in
    rw e.taken (inl (up_to c.args.n (ends_so (ends_over i.done new.reader _ _ _ e.hands c.if-branch.false _ (λ rest all. (all.0, all.1, refl))))
    (fewer c.args.n c.loop-reader.left (count_by is_event i.done.lines) i.few (c.is_any_left.ensures.some c.loop-reader-test.true))))

pub returns-else-branch-clause-sent : goal.returns-else-branch-clause-sent
returns-else-branch-clause-sent g c =
    let e = c.in_ok-next_line.ensures in
    let i = c.loop-reader.invariant in
    let new = c.next_line.new in
    let old = session c.args.player.now (g.K.Sink.taken c.args.sink.now) in
    let mid = session c.loop-reader.player (g.K.Sink.taken c.loop-reader.sink) in
    let h = handed _ _ _ _ false c.if-branch.false e.hands in
    let kept = c.loop-reader.reader.kept in
    sent_at_end mid (Ok tt) (g.K.Sink.sent new.sink) (ends_over i.done new.reader _ _ _ e.hands c.if-branch.false _ (λ rest all. (all.0, all.1, refl)))
    (asked_on c.args.style old i.done.lines i.done.events c.loop-reader.reader.next mid i.done.done kept new.reader.kept (g.K.Sink.sent c.loop-reader.sink) (g.K.Sink.sent new.sink) i.sent e.sent h.small (waited_or g.S.Source.given c.loop-reader.source new.source kept new.reader.kept h.text e.asked))

pub returns-after-loop-reader-clause-played : goal.returns-after-loop-reader-clause-played
returns-after-loop-reader-clause-played g c =
    let i = c.loop-reader.invariant in
    let none = c.is_any_left.ensures.none c.loop-reader-test.false in
    inl (none_left c.args.style i.done c.args.n c.loop-reader.left i.few none (i.at_end none))

pub returns-after-loop-reader-clause-sent : goal.returns-after-loop-reader-clause-sent
returns-after-loop-reader-clause-sent g c = sent_meanwhile (g.K.Sink.sent c.loop-reader.sink) c.loop-reader.invariant.done c.loop-reader.invariant.sent
