-- The schedule's fields, as a timetable.
use Rattle.std.specs.Prelude.{◌-◌, length, vec_capacity}
use Rattle.quanta.specs.declared.schedule.Schedule.TheInside.{Inside}
use Rattle.quanta.specs.Timetable.{Timetable}

-- the fields of a schedule, as a timetable
abbrev pub timetable_of : Inside → Timetable
timetable_of a = record {
  collector_ticks = a.collector_ticks;
  mutator_ticks = a.mutator_ticks;
  clock = a.clock;
  due = a.due;
  intervals = a.intervals.items;
  reserved = vec_capacity a.intervals - length a.intervals.items;
}
