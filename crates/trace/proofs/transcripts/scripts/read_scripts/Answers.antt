use Rattle.std.proofs.lemmas.Result.{err_from_is_err_and}
use Rattle.trace.specs.Streams.{given_by}
use Rattle.trace.proofs.transcripts.Listing.{scripts_read, scripts_stopped}
use Rattle.trace.proofs.transcripts.scripts.read_scripts.Goals as goal

pub returns-in_err-end-clause-read : goal.returns-in_err-end-clause-read
returns-in_err-end-clause-read g c =
    let p = err_from_is_err_and c.from_residual-in_err-end.result c.from_residual-in_err-end.ensures.1 in
    let none = c.in_ok-empty.ensures in
    rw (p.1, p.2) (scripts_stopped _ c.args.config.now.mutators (record { lists = c.in_ok-empty.field-0 }) c.each_line.new.handler none.lists none.len c.in_err-end.field-0.0 c.in_err-end.ensures.handled)

pub returns-clause-read : goal.returns-clause-read
returns-clause-read g c =
    let none = c.in_ok-empty.ensures in
    (scripts_read _ c.args.config.now.mutators (record { lists = c.in_ok-empty.field-0 }) c.each_line.new.handler none.lists none.len c.in_ok-end.end c.in_ok-end.ensures.handled).0

pub returns-clause-len : goal.returns-clause-len
returns-clause-len g c =
    let none = c.in_ok-empty.ensures in
    let given = given_by g.S.Source.given g.S.Source.ended c.args.source.now c.each_line.new.source in
    (scripts_read given c.args.config.now.mutators (record { lists = c.in_ok-empty.field-0 }) c.each_line.new.handler none.lists none.len c.in_ok-end.end c.in_ok-end.ensures.handled).1
