use Rattle.std.proofs.Common.{◌≡◌, ◌+◌, Some, None, ap, ◌∙◌, sym, arith}
use Rattle.std.specs.Prelude.{option_copied}
use Rattle.std.specs.List.{last_or}
use Rattle.quanta.specs.Timetable.{start_after}
use Rattle.quanta.proofs.Lasts.{slice_get-last}
use Rattle.pictures.proofs.events.last_end.Goals as goal

pub returns-in-Some : goal.returns-in-Some
returns-in-Some c =
    let last = c.in-Some.last.now in
    let is : last_or None c.args.intervals.now ≡ Some last = sym (slice_get-last c.args.intervals.now) ∙ sym c.last.ensures.value ∙ ap option_copied c.in-Some.is in
    let end : last.end ≡ last.end + 0 = omega arith in
    end ∙ ap (start_after 0) (sym is)
