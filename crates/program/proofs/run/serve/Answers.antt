use Rattle.trace.specs.Streams.{taken_by}
use Rattle.program.proofs.Below.{done_below, counts_below}
use Rattle.program.proofs.Obeying.{begins_on, stays_from}
use Rattle.program.proofs.run.serve.Goals as goal

pub returns-clause-done : goal.returns-clause-done
returns-clause-done g c =
    let told = c.new-told.result in
    let read = c.work-how.new.source in
    let after = read.source in
    let is = c.new-told.ensures.source in (
      after,
      done_below told read (λ t. t.source) c.args.source is g.S.Source.given g.S.Source.ended c.args.job.now c.args.configs.now (taken_by g.K.Sink.taken g.K.Sink.sent c.args.sink.now c.work-how.new.sink) c.work-how.result c.work-how.ensures.done,
      counts_below told read (λ t. t.source) c.args.source is g.S.Source.failures c.work-how.result c.work-how.ensures.reads,
      (λ none. begins_on (g.S.Source.input c.args.source) (g.S.Source.input after) (g.S.Source.given after) (g.S.Source.ended after)
          (stays_from (g.S.Source.input after) g.S.Source.input c.args.source told.source is (c.work-how.ensures.input none)) (g.met.S.Source.begins after)),
    )
