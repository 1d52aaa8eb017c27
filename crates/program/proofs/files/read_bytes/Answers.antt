use Rattle.trace.proofs.LinesProcessed.{stays_on}
use Rattle.program.proofs.files.read_bytes.Goals as goal

pub returns-then-count-eq0-clause-input : goal.returns-then-count-eq0-clause-input
returns-then-count-eq0-clause-input g c none =
    stays_on (g.S.Source.input c.args.source.now) (g.S.Source.input c.loop-count.source) (g.S.Source.input c.read.new.self) c.loop-count.invariant.input c.in-Ok.ensures.input

pub returns-then-is_err-clause-input : goal.returns-then-is_err-clause-input
returns-then-is_err-clause-input g c none =
    stays_on (g.S.Source.input c.args.source.now) (g.S.Source.input c.loop-count.source) (g.S.Source.input c.read.new.self) c.loop-count.invariant.input c.in-Ok.ensures.input
