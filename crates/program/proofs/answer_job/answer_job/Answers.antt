use Rattle.std.proofs.Common.{Err, arith}
use Rattle.trace.specs.Streams.{given_by}
use Rattle.program.proofs.Failing.{text_unwritten, answer_unwritten}
use Rattle.program.proofs.answer_job.answer_job.Goals as goal

pub returns-in_err-answer-clause-writes : goal.returns-in_err-answer-clause-writes
returns-in_err-answer-clause-writes g c =
    let given = given_by g.S.Source.given g.S.Source.ended c.args.source.now c.answer_to.new.source in
    let why = c.in_err-answer.field-0.0 in
    omega (arith, text_unwritten c.from_residual.result why c.from_residual.ensures.1 (answer_unwritten c.args.question c.args.config.now given (Err why) c.in_err-answer.ensures.answer))
