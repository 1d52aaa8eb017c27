use Rattle.std.proofs.Common.{refl}
use Rattle.sizing.proofs.Meters.Cycles.{begin_fits, begun_measures}
use Rattle.sizing.proofs.meter.Meter.begun.Goals as goal

pub returns : goal.returns
returns c = λ l es r new v w e.
    let old = c.args.self.now in
    let q = c.in_ok-live.ensures (begin_fits l es r new old old v w e) in
    begun_measures l es r new old _ v w e q.0 q.1 c.in_ok-live.live q.2 refl c.raise.ensures c.begin-2.ensures c.begin.ensures c.none-self.ensures
