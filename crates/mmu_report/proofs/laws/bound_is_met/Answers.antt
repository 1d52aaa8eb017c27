use Rattle.std.proofs.Common.{arith}
use Rattle.mmu_report.proofs.Periods.{bound_kept, bound_met}
use Rattle.mmu_report.proofs.laws.bound_is_met.Goals as goal

pub returns : goal.returns
returns _ c q span window least start intervals some spaced is_least within starts =
    omega (arith, is_least.below start within, is_least.attained.2, bound_kept c q is_least.attained.0 window intervals some spaced, bound_met c q start window intervals some spaced starts)
