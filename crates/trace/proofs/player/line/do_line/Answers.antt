use Rattle.std.proofs.Common.{[], ◌∷◌, inl, inr, sym, subst, refl}
use Rattle.std.proofs.lemmas.Result.{err_from_is_err_and}
use Rattle.heap_model.specs.Event.{Command_done}
use Rattle.trace.specs.declared.line.Line.{Line}
use Rattle.trace.specs.Observing.{observed, LineSeen}
use Rattle.trace.specs.Player.{DoesLine}
use Rattle.trace.proofs.Seeing.{skip_seen, command_seen, quantum_seen, ticks_passed}
use Rattle.trace.proofs.player.line.do_line.Goals as goal

pub returns-in-Skip-clause-done : goal.returns-in-Skip-clause-done
returns-in-Skip-clause-done g c =
    let o = observed c.args.player.now c.args.observer.now in
    subst (λ (line : Line). LineSeen g.O.Observer.has_seen c.args.number line o o) (sym c.in-Skip.is) (skip_seen g.O.Observer.has_seen c.args.number o)

pub returns-in_ok-command_done-in-Command-clause-done : goal.returns-in_ok-command_done-in-Command-clause-done
returns-in_ok-command_done-in-Command-clause-done g c =
    let old = observed c.args.player.now c.args.observer.now in
    let new = observed c.call.new.self c.command_done.new.self in
    let call = c.in_ok-receipt-in-Command.ensures in
    subst (λ (line : Line). LineSeen g.O.Observer.has_seen c.args.number line old new) (sym c.in-Command.is)
    (command_seen g.O.Observer.has_seen c.args.number old new c.in-Command.mutator c.in-Command.command c.in_ok-receipt-in-Command.receipt.entry c.entry.result.now c.entry.ensures call.does call.entry.0 call.entry.1
    c.in_ok-command_done-in-Command.ensures.seen)

pub returns-in_err-command_done-in-Command-clause-done : goal.returns-in_err-command_done-in-Command-clause-done
returns-in_err-command_done-in-Command-clause-done g c =
    let p = err_from_is_err_and c.from_residual-in_err-command_done-in-Command.result c.from_residual-in_err-command_done-in-Command.ensures.1 in
    let call = c.in_ok-receipt-in-Command.ensures in
    let es = Command_done c.in-Command.mutator c.in-Command.command c.in_ok-receipt-in-Command.receipt.entry.reply ∷ [] in
    let does = subst (λ (line : Line). DoesLine c.args.player.now line es c.call.new.self) (sym c.in-Command.is) call.does in
    rw (p.1, p.2) (inr (refl, c.in_err-command_done-in-Command.ensures.err, inr (es, does)))

pub returns-in_err-begin-in-Begin-clause-done : goal.returns-in_err-begin-in-Begin-clause-done
returns-in_err-begin-in-Begin-clause-done g c =
    let p = err_from_is_err_and c.from_residual-in_err-begin-in-Begin.result c.from_residual-in_err-begin-in-Begin.ensures.1 in
    let begin = c.in_err-begin-in-Begin.ensures in
    rw (p.1, p.2) (inr (refl, begin.err, inl begin.same))

pub returns-in_ok-begin-in-Begin-clause-done : goal.returns-in_ok-begin-in-Begin-clause-done
returns-in_ok-begin-in-Begin-clause-done g c =
    subst (λ (line : Line). LineSeen g.O.Observer.has_seen c.args.number line (observed c.args.player.now c.args.observer.now) (observed c.begin.new.self c.begin.new.observer)) (sym c.in-Begin.is) c.in_ok-begin-in-Begin.ensures.begun

pub returns-in-Quantum-clause-done : goal.returns-in-Quantum-clause-done
returns-in-Quantum-clause-done g c =
    let old = observed c.args.player.now c.args.observer.now in
    let new = observed c.quantum.new.self c.quantum.new.observer in
    subst (λ (line : Line). LineSeen g.O.Observer.has_seen c.args.number line old new) (sym c.in-Quantum.is)
    (quantum_seen g.O.Observer.has_seen c.args.number c.in-Quantum.budget old new c.quantum.ensures.spent c.quantum.ensures.seen)

pub returns-in_default-clause-done : goal.returns-in_default-clause-done
returns-in_default-clause-done g c =
    let old = observed c.args.player.now c.args.observer.now in
    let new = observed c.tick.new.self c.tick.new.observer in
    subst (λ (line : Line). LineSeen g.O.Observer.has_seen c.args.number line old new) (sym c.in-Tick.is)
    (ticks_passed g.O.Observer.has_seen c.in-Tick.ticks old new c.tick.result c.tick.ensures (λ why. c.in_default.not-Err why) c.args.number)
