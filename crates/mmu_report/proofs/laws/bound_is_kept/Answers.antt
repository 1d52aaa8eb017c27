use Rattle.std.proofs.Common.{◌≤◌, sym, subst}
use Rattle.mmu_report.specs.Utilisation.{bound_of}
use Rattle.mmu_report.proofs.Periods.{bound_kept}
use Rattle.mmu_report.proofs.laws.bound_is_kept.Goals as goal

pub returns : goal.returns
returns _ c q span window least intervals some spaced is_least =
    let start = is_least.attained.0 in
    subst (λ n. bound_of c q window ≤ n) (sym is_least.attained.2) (bound_kept c q start window intervals some spaced)
