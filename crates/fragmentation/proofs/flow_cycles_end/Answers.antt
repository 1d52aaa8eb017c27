use Rattle.std.proofs.Common.{arith}
use Rattle.fragmentation.proofs.Flows.Lasting.{sweeps_last, cycles_last, counted_few}
use Rattle.fragmentation.proofs.flow_cycles_end.Goals as goal

pub returns-clause-sweep : goal.returns-clause-sweep
returns-clause-sweep c = λ h es new f k great o some runs keeps enough traced. sweeps_last h es new f k great (omega (arith, great)) o some runs keeps traced enough

pub returns-clause-cycle : goal.returns-clause-cycle
returns-clause-cycle c = λ h es new f k great o some runs keeps enough traced. cycles_last h es new f k great (omega (arith, great)) o some runs keeps traced enough

pub returns-clause-counted : goal.returns-clause-counted
returns-clause-counted c = λ h es new f k great o some runs keeps traced. counted_few h es new f k great (omega (arith, great)) o some runs keeps traced
