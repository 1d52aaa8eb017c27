use Rattle.std.proofs.Common.{Ok, Err, inl, refl}
use Rattle.program.specs.Configs.{IsNotRead}
use Rattle.program.specs.Faults.{of_settings}
use Rattle.program.proofs.Finishing.{fault_so}
use Rattle.program.proofs.Obeying.{config_seen}
use Rattle.program.proofs.configs.read_one.Goals as goal

pub returns-in_err-config-clause-err : goal.returns-in_err-config-clause-err
returns-in_err-config-clause-err g c =
    let file = g.O.Opener.known c.args.opener.now c.args.name.now in
    let why = c.in_err-config.field-0.0 in
    let seen = config_seen file.bytes c.in_ok-bytes.bytes.items c.as_slice.result.now (Err why) c.in_ok-bytes.ensures.bytes c.as_slice.ensures.value c.in_err-config.ensures in
    fault_so c.from_residual-in_err-config.result (of_settings why) (IsNotRead file) c.from_residual-in_err-config.ensures.1 (inl (why, seen, refl))

pub returns-clause-ok : goal.returns-clause-ok
returns-clause-ok g c =
    let file = g.O.Opener.known c.args.opener.now c.args.name.now in
    config_seen file.bytes c.in_ok-bytes.bytes.items c.as_slice.result.now (Ok c.in_ok-config.config) c.in_ok-bytes.ensures.bytes c.as_slice.ensures.value c.in_ok-config.ensures
