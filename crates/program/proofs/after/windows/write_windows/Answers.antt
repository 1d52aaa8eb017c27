use Rattle.std.proofs.Common.{◌≡◌, List, ℕ, ◌+◌, [], ◌∷◌, ◌++◌, get_or, take, drop, ap, ◌∙◌, sym, subst, append-nil, refl, arith}
use Rattle.std.proofs.lemmas.List.{take-append-drop, take_more, take_all}
use Rattle.trace.specs.Streams.{GrowsByPart}
use Rattle.program.specs.Windows.{AllTold}
use Rattle.program.proofs.Telling.{err_so, told_until, told_more, told_part}
use Rattle.program.proofs.Failing.{memory_unread, memory_unwritten, none_read, one_written}
use Rattle.program.proofs.after.windows.write_windows.Goals as goal

pub loop-window-init : goal.loop-window-init
loop-window-init g c = record { told = record { lines = []; each = tt; written = sym (append-nil (g.K.Sink.taken c.args.sink.now)) }; failures = refl }

pub returns-in_err-line-clause-err : goal.returns-in_err-line-clause-err
returns-in_err-line-clause-err g c =
    let ws = c.args.windows.now in
    let i = c.loop-window.window-index in
    err_so c.from_residual.result _ _
    (λ fault e. told_until c.args.config.now c.args.schedule.now (take i ws) (g.K.Sink.taken c.args.sink.now) (g.K.Sink.taken c.loop-window.sink) c.loop-window.invariant.told ws (drop i ws) fault (sym (take-append-drop i ws)) e)
    c.from_residual.ensures.1

pub returns-in_err-write_all-clause-err : goal.returns-in_err-write_all-clause-err
returns-in_err-write_all-clause-err g c =
    let ws = c.args.windows.now in
    let i = c.loop-window.window-index in
    let mid = g.K.Sink.taken c.loop-window.sink in
    let new = g.K.Sink.taken c.write_all.new.sink in
    let Part : List ℕ → Type 0 = λ line. GrowsByPart mid new line in
    let whole : ws ≡ (take i ws ++ get_or ws i 0 ∷ []) ++ drop (i + 1) ws = sym (take-append-drop (i + 1) ws) ∙ ap (λ t. t ++ drop (i + 1) ws) (take_more ws i 0 c.loop-window-test.true) in
    err_so c.from_residual-in_err-write_all.result _ _
    (λ fault e. told_part c.args.config.now c.args.schedule.now (take i ws) (g.K.Sink.taken c.args.sink.now) mid c.loop-window.invariant.told _ _ c.in_ok-line.ensures new ws (drop (i + 1) ws) fault whole e
    (subst Part c.as_bytes.ensures.value c.in_err-write_all.ensures.err))
    c.from_residual-in_err-write_all.ensures.1

pub loop-window-preserved : goal.loop-window-preserved
loop-window-preserved g c =
    let ws = c.args.windows.now in
    let i = c.loop-window.window-index in
    let old = g.K.Sink.taken c.args.sink.now in
    let mid = g.K.Sink.taken c.loop-window.sink in
    let new = g.K.Sink.taken c.write_all.new.sink in
    let Told : List ℕ → Type 0 = λ first. AllTold c.args.config.now c.args.schedule.now first old new in
    record {
      told = subst Told (sym (take_more ws i 0 c.loop-window-test.true))
          (told_more c.args.config.now c.args.schedule.now (take i ws) old mid c.loop-window.invariant.told _ _ c.in_ok-line.ensures new (c.in_ok-write_all.ensures.ok ∙ ap (λ t. mid ++ t) c.as_bytes.ensures.value));
      failures = omega (arith, c.in_ok-write_all.ensures.cause, c.loop-window.invariant.failures);
    }

pub returns-clause-ok : goal.returns-clause-ok
returns-clause-ok g c =
    let Told : List ℕ → Type 0 = λ first. AllTold c.args.config.now c.args.schedule.now first (g.K.Sink.taken c.args.sink.now) (g.K.Sink.taken c.loop-window.sink) in
    subst Told (take_all c.loop-window.window-index c.args.windows.now c.loop-window-test.false) c.loop-window.invariant.told

pub returns-in_err-line-clause-reads : goal.returns-in_err-line-clause-reads
returns-in_err-line-clause-reads g c = memory_unread c.from_residual.result c.from_residual.ensures.1

pub returns-in_err-line-clause-writes : goal.returns-in_err-line-clause-writes
returns-in_err-line-clause-writes g c = omega (arith, memory_unwritten c.from_residual.result c.from_residual.ensures.1, c.loop-window.invariant.failures)

pub returns-in_err-write_all-clause-reads : goal.returns-in_err-write_all-clause-reads
returns-in_err-write_all-clause-reads g c = none_read c.from_residual-in_err-write_all.result c.from_residual-in_err-write_all.ensures.1

pub returns-in_err-write_all-clause-writes : goal.returns-in_err-write_all-clause-writes
returns-in_err-write_all-clause-writes g c = omega (arith, one_written c.from_residual-in_err-write_all.result c.from_residual-in_err-write_all.ensures.1, c.in_err-write_all.ensures.cause, c.loop-window.invariant.failures)
