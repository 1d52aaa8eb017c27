use Rattle.std.proofs.Common.{sym, subst}
use Rattle.trace.specs.Streams.{given_by, taken_by}
use Rattle.trace.specs.declared.player.style.Style.{Style}
use Rattle.command_line.specs.declared.job.Job.{Job}
use Rattle.program.specs.Done.{JobDone}
use Rattle.program.specs.Jobs.{TracePlayed}
use Rattle.program.proofs.run.work.Goals as goal

pub returns-in-Play-clause-done : goal.returns-in-Play-clause-done
returns-in-Play-clause-done g c =
    let configs = c.args.configs.now in
    let given = given_by g.S.Source.given g.S.Source.ended c.args.source.now c.play_job.new.source in
    let taken = taken_by g.K.Sink.taken g.K.Sink.sent c.args.sink.now c.play_job.new.sink in
    let Ends : Job → Type 0 = λ job. JobDone job configs given taken c.play_job.result in
    let Played : Style → Type 0 = λ style. TracePlayed style configs.config given taken c.play_job.result in
    subst Ends (sym c.in-Play.is) (subst Played c.style_of.ensures c.play_job.ensures.done)
