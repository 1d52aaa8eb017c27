use Rattle.trace.specs.Streams.{taken_by}
use Rattle.pictures.specs.Events.{events_picture}
use Rattle.program.proofs.MadeText.{ended_told}
use Rattle.program.proofs.after.events.tell_events.Goals as goal

pub returns-clause-told : goal.returns-clause-told
returns-clause-told g c =
    let taken = taken_by g.K.Sink.taken g.K.Sink.sent c.args.sink.now c.draw_events.new.sink in
    ended_told (events_picture c.args.player.now) taken c.draw_events.result c.ended.result c.draw_events.ensures.ok c.draw_events.ensures.err c.ended.ensures.ok c.ended.ensures.err
