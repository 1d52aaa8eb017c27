use Rattle.std.proofs.Common.{Err, refl}
use Rattle.trace.specs.declared.fault.PlayFault.TheVariants as texts
use Rattle.program.specs.declared.fault.RunFault.TheVariants as faults
use Rattle.program.proofs.Finishing.{failed_so}
use Rattle.program.proofs.after.tell.Goals as goal

pub returns-in_err-graph-in-Graph-clause-told : goal.returns-in_err-graph-in-Graph-clause-told
returns-in_err-graph-in-Graph-clause-told g c =
    rw c.in-Graph.is (Err texts.NoMemory, refl, failed_so c.from_residual.result (faults.Text texts.NoMemory) c.from_residual.ensures.1)
