use Rattle.std.proofs.Common.{◌∙◌, sym, subst}
use Rattle.heap_model.proofs.Phases.{idle_is, busy_is}
use Rattle.quanta.specs.Timetable.{with_reserved}
use Rattle.trace.specs.Player.{PlayerState, player_of}
use Rattle.trace.specs.Ticking.{Spent}
use Rattle.trace.proofs.Doing.{quantum_line, ended, went_on}
use Rattle.trace.proofs.player.Player.spend.Goals as goal

pub returns-then-is_idle : goal.returns-then-is_idle
returns-then-is_idle c =
    let p = player_of c.self.inside in
    subst (λ (x : PlayerState). Spent x c.args.budget (record p { course = c.quantum.new.self.course; timetable = with_reserved c.end_cycle.new.self 0 })) c.self.view_is
    (quantum_line p c.args.budget c.quantum.new.self.course (with_reserved c.end_cycle.new.self 0) c.unwrap-spent.result c.quantum.result c.unwrap-spent.ensures c.quantum.ensures.does
    (ended c.unwrap-spent.result.phase c.self.inside.schedule c.end_cycle.new.self (idle_is _ (sym c.is_idle.ensures ∙ c.if-is_idle.true)) c.end_cycle.ensures))

pub returns-else-is_idle : goal.returns-else-is_idle
returns-else-is_idle c =
    let p = player_of c.self.inside in
    subst (λ (x : PlayerState). Spent x c.args.budget (record p { course = c.quantum.new.self.course })) c.self.view_is
    (quantum_line p c.args.budget c.quantum.new.self.course p.timetable c.unwrap-spent.result c.quantum.result c.unwrap-spent.ensures c.quantum.ensures.does
    (went_on c.unwrap-spent.result.phase c.self.inside.schedule (busy_is _ (sym c.is_idle.ensures ∙ c.if-is_idle.false))))
