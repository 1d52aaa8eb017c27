use Rattle.std.proofs.Common.{inr}
use Rattle.program.specs.Configs.{AreNotRead}
use Rattle.program.proofs.Finishing.{fault_so}
use Rattle.program.proofs.configs.read_configs.Goals as goal

pub returns-in_err-other-clause-err : goal.returns-in_err-other-clause-err
returns-in_err-other-clause-err g c =
    let named = g.O.Opener.known c.args.opener.now in
    fault_so c.from_residual-in_err-other.result c.in_err-other.field-0.0 (AreNotRead named c.args.words) c.from_residual-in_err-other.ensures.1
    (inr (c.in_ok-config.config, c.in_ok-config.ensures.ok, c.in-Some.name, c.in-Some.is, c.in_err-other.ensures.err))
