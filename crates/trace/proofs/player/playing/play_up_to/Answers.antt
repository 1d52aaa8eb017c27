use Rattle.std.proofs.Common.{subst}
use Rattle.heap_model.specs.Event.{Course}
use Rattle.machine.specs.Headline.{AlwaysHolds}
use Rattle.trace.specs.Streams.{taken_by}
use Rattle.trace.specs.Playing.{session}
use Rattle.trace.proofs.Promised.{promised, starts_with_space}
use Rattle.trace.proofs.player.playing.play_up_to.Goals as goal

pub returns-clause-headline : goal.returns-clause-headline
returns-clause-headline g c =
    promised c.args.n c.args.style _ (session c.args.player.now (g.K.Sink.taken c.args.sink.now)) (session c.play_lines.new.player (g.K.Sink.taken c.play_lines.new.sink)) (taken_by g.K.Sink.taken g.K.Sink.sent c.args.sink.now c.play_lines.new.sink) c.play_lines.result
    c.play_lines.ensures.played
    (subst (λ (r : Course). AlwaysHolds r) c.recorded.ensures c.promise.ensures.headline)

pub returns-clause-space : goal.returns-clause-space
returns-clause-space g c = starts_with_space c.args.player.now
