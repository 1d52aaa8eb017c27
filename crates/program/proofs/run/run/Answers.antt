use Rattle.std.proofs.Common.{map, arith}
use Rattle.program.specs.Files.{read_from}
use Rattle.program.proofs.Flushing.{run_flushed}
use Rattle.program.proofs.run.run.Goals as goal

pub returns : goal.returns
returns g c =
    let mid = c.perform.new.sink in
    let end = c.flushed-how.new.sink in (
      c.flushed-how.result,
      c.status_of.ensures,
      run_flushed (record { named = g.O.Opener.known c.args.opener.now; input = read_from (g.R.Read.remaining c.args.input) }) (map g.S.AsStr.text c.args.words.now) (g.K.Sink.taken c.args.sink.now) (g.K.Sink.taken mid) (g.K.Sink.taken end) (g.K.Sink.sent mid) (g.K.Sink.sent end) c.perform.result c.flushed-how.result c.flushed-how.ensures.taken c.perform.ensures.done c.flushed-how.ensures.ends,
      omega (arith, c.perform.ensures.writes, c.flushed-how.ensures.writes),
    )
