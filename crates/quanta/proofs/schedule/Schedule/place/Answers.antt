use Rattle.std.proofs.Common.{◌<◌, sym, subst}
use Rattle.std.specs.Option.{IsSomeAnd}
use Rattle.quanta.specs.declared.schedule.TheConstants.{CLOCK_LIMIT}
use Rattle.quanta.specs.Timetable.{Timetable}
use Rattle.quanta.specs.Schedule.{timetable_of}
use Rattle.quanta.proofs.Placing.{IsTimetable-placed}
use Rattle.quanta.proofs.schedule.Schedule.place.Goals as goal

pub invariant_of-self : goal.invariant_of-self
invariant_of-self c =
    let below : IsSomeAnd c.self.inside.due (λ due. due < CLOCK_LIMIT) = subst (λ (t : Timetable). IsSomeAnd t.due (λ due. due < CLOCK_LIMIT)) (sym c.self.view_is) c.requires.due in
    IsTimetable-placed (timetable_of c.self.inside) c.unwrap-start.result _ _ c.self.invariant c.unwrap-start.ensures below (rw c.unwrap.ensures at c.push.ensures.items)
