use Rattle.std.proofs.Common.{◌-◌, ◌++◌, length, take, drop, arith, length-take, length-drop, ap, ◌∙◌, append_assoc}
use Rattle.trace.proofs.Cuts.{goes_on}
use Rattle.trace.proofs.streams.sink.write_all.Goals as goal

pub loop-at-preserved : goal.loop-at-preserved
loop-at-preserved g c =
    let at = c.loop-at.at in
    let n = c.in_ok-at.field-0 in
    let bytes = c.args.bytes.now in
    let rest = take (length bytes - at) (drop at bytes) in
    record {
      within = omega (arith, c.in_ok-at.ensures.within, length-take (length bytes - at) (drop at bytes), length-drop at bytes);
      taken = c.in_ok-at.ensures.bytes ∙ ap (λ l. l ++ take n rest) c.loop-at.invariant.taken ∙ append_assoc (g.K.Sink.taken c.args.sink.now) (take at bytes) (take n rest) ∙ ap (λ l. g.K.Sink.taken c.args.sink.now ++ l) (goes_on at n bytes);
      sent = omega (arith, c.in_ok-at.ensures.sent, c.loop-at.invariant.sent);
      failures = omega (arith, c.in_ok-at.ensures.cause, c.loop-at.invariant.failures);
    }

pub returns-in_err-at-clause-sent : goal.returns-in_err-at-clause-sent
returns-in_err-at-clause-sent g c = omega (arith, c.in_err-at.ensures.sent, c.loop-at.invariant.sent)

pub returns-clause-sent : goal.returns-clause-sent
returns-clause-sent g c = c.loop-at.invariant.sent
