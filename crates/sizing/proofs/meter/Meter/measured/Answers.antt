use Rattle.std.proofs.Common.{refl}
use Rattle.sizing.proofs.Measures.Summing.{needed_measured, pace_measured, budget_measured}
use Rattle.sizing.proofs.meter.Meter.measured.Goals as goal

pub returns : goal.returns
returns c = λ l es r v.
    let m = c.args.self.now in
    record {
      needed = needed_measured l es m v.shifts c.needed.result c.needed.ensures.some c.needed.ensures.none;
      pace = pace_measured l es m v.needs c.pace.result c.pace.ensures.some c.pace.ensures.none;
      budget = budget_measured l es m v.needs m.budget refl;
    }
