use Rattle.trace.proofs.Fronts.{narrow_is, narrow_wide, narrow_gone}
use Rattle.trace.proofs.field.any_lead.Goals as goal

pub returns-in_err-w : goal.returns-in_err-w
returns-in_err-w c = rw c.from_residual.ensures (narrow_gone c.args.bytes.now c.in_err-w.ensures)

pub returns-then-w-lt4294967296 : goal.returns-then-w-lt4294967296
returns-then-w-lt4294967296 c = narrow_is c.args.bytes.now c.in_ok-w.rest.now c.in_ok-w.w c.in_ok-w.ensures c.if-w-lt4294967296.true

pub returns-else-w-lt4294967296 : goal.returns-else-w-lt4294967296
returns-else-w-lt4294967296 c = narrow_wide c.args.bytes.now c.in_ok-w.rest.now c.in_ok-w.w c.in_ok-w.ensures c.if-w-lt4294967296.false
