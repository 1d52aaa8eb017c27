use Rattle.std.proofs.Common.{◌*◌, ◌/◌, refl, subst, ap, ◌∙◌}
use Rattle.mmu_report.specs.Utilisation.{IsLeast}
use Rattle.pictures.specs.Utilisation.{span_of}
use Rattle.pictures.proofs.measuring.share_of.Goals as goal

pub returns-clause-share : goal.returns-clause-share
returns-clause-share c =
    let least = subst (λ n. IsLeast c.intervals.result.now n c.args.window c.in_ok-least.least) c.span.ensures.span c.in_ok-least.ensures.least in
    record {
      window_is = refl;
      measured_is = (c.in_ok-least.least, subst (λ intervals. IsLeast intervals (span_of c.args.schedule.now) c.args.window c.in_ok-least.least) c.intervals.ensures.intervals least, c.permille.ensures.share);
      promised_is = c.permille-2.ensures.share ∙ ap (λ n. 1000 * n / c.args.window) c.bound-bound.ensures.bound;
    }
