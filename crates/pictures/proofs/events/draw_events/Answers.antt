use Rattle.std.proofs.Common.{length, refl, ap, ◌∙◌, arith}
use Rattle.std.proofs.lemmas.Result.{on_err_weaker, on_ok_weaker}
use Rattle.heap_model.specs.Event.{Course}
use Rattle.heap_model.specs.State.{HeapState}
use Rattle.quanta.specs.Timetable.{Timetable}
use Rattle.pictures.specs.Events.{quanta_events, cycles_events, pages_events, events_tail}
use Rattle.pictures.proofs.Parts.{at_err}
use Rattle.pictures.proofs.EventLines.{cycles_by, pages_by, cycles_are, pages_are, events_are, head_cut, quanta_cut, cycles_cut, pages_cut, all_cut, all_written}
use Rattle.pictures.proofs.events.draw_events.Goals as goal

pub returns-in_err-write_lines-clause-err : goal.returns-in_err-write_lines-clause-err
returns-in_err-write_lines-clause-err g c =
    let p = c.args.player.now in
    let quanta = quanta_events 0 p.timetable.intervals in
    let is = events_are p c.head.result quanta (cycles_events p) (pages_events p) (events_tail p) c.head.ensures refl refl refl refl in
    at_err c.from_residual.result _ (head_cut p c.head.result quanta (cycles_events p) (pages_events p) (events_tail p) is _ _ c.in_err-write_lines.ensures.err)

pub returns-in_err-write_quanta-clause-err : goal.returns-in_err-write_quanta-clause-err
returns-in_err-write_quanta-clause-err g c =
    let p = c.args.player.now in
    let times = ap (λ (t : Timetable). t.intervals) c.schedule-schedule.ensures in
    let quanta = quanta_events 0 c.intervals.result.now in
    let is = events_are p c.head.result quanta (cycles_events p) (pages_events p) (events_tail p) c.head.ensures (ap (quanta_events 0) (c.intervals.ensures.intervals ∙ times)) refl refl refl in
    at_err c.from_residual-in_err-write_quanta.result _ (quanta_cut p c.head.result quanta (cycles_events p) (pages_events p) (events_tail p) is _ _ c.in_ok-write_lines.ensures.ok _ c.in_err-write_quanta.ensures.err)

pub returns-in_err-write_cycles-clause-err : goal.returns-in_err-write_cycles-clause-err
returns-in_err-write_cycles-clause-err g c =
    let p = c.args.player.now in
    let times = ap (λ (t : Timetable). t.intervals) c.schedule-schedule.ensures in
    let quanta = quanta_events 0 c.intervals.result.now in
    let cycles = cycles_by c.intervals-2.result.now c.starts.result.now in
    let turns = cycles_are p c.intervals-2.result.now c.starts.result.now (c.intervals-2.ensures.intervals ∙ times) c.starts.ensures in
    let is = events_are p c.head.result quanta cycles (pages_events p) (events_tail p) c.head.ensures (ap (quanta_events 0) (c.intervals.ensures.intervals ∙ times)) turns refl refl in
    at_err c.from_residual-in_err-write_cycles.result _ (cycles_cut p c.head.result quanta cycles (pages_events p) (events_tail p) is _ _ c.in_ok-write_lines.ensures.ok _ c.in_ok-write_quanta.ensures.ok _ c.in_err-write_cycles.ensures.err)

pub returns-in_err-write_pages-clause-err : goal.returns-in_err-write_pages-clause-err
returns-in_err-write_pages-clause-err g c =
    let p = c.args.player.now in
    let times = ap (λ (t : Timetable). t.intervals) c.schedule-schedule.ensures in
    let count = c.pages-pages.ensures.pages ∙ ap (λ (h : HeapState). length h.store.pages) (c.heap.ensures.heap ∙ ap (λ (r : Course). r.heap) c.recorded.ensures) in
    let quanta = quanta_events 0 c.intervals.result.now in
    let cycles = cycles_by c.intervals-2.result.now c.starts.result.now in
    let pages = pages_by c.pages-pages.result c.intervals-3.result.now c.starts-2.result.now in
    let turns = cycles_are p c.intervals-2.result.now c.starts.result.now (c.intervals-2.ensures.intervals ∙ times) c.starts.ensures in
    let counts = pages_are p c.intervals-3.result.now c.starts-2.result.now (c.intervals-3.ensures.intervals ∙ times) c.starts-2.ensures c.pages-pages.result count in
    let is = events_are p c.head.result quanta cycles pages (events_tail p) c.head.ensures (ap (quanta_events 0) (c.intervals.ensures.intervals ∙ times)) turns counts refl in
    at_err c.from_residual-in_err-write_pages.result _
    (pages_cut p c.head.result quanta cycles pages (events_tail p) is _ _ c.in_ok-write_lines.ensures.ok _ c.in_ok-write_quanta.ensures.ok _ c.in_ok-write_cycles.ensures.ok _ c.in_err-write_pages.ensures.err)

pub returns : goal.returns
returns g c =
    let p = c.args.player.now in
    let times = ap (λ (t : Timetable). t.intervals) c.schedule-schedule.ensures in
    let count = c.pages-pages.ensures.pages ∙ ap (λ (h : HeapState). length h.store.pages) (c.heap.ensures.heap ∙ ap (λ (r : Course). r.heap) c.recorded.ensures) in
    let quanta = quanta_events 0 c.intervals.result.now in
    let cycles = cycles_by c.intervals-2.result.now c.starts.result.now in
    let pages = pages_by c.pages-pages.result c.intervals-3.result.now c.starts-2.result.now in
    let turns = cycles_are p c.intervals-2.result.now c.starts.result.now (c.intervals-2.ensures.intervals ∙ times) c.starts.ensures in
    let counts = pages_are p c.intervals-3.result.now c.starts-2.result.now (c.intervals-3.ensures.intervals ∙ times) c.starts-2.ensures c.pages-pages.result count in
    let is = events_are p c.head.result quanta cycles pages c.tail.result c.head.ensures (ap (quanta_events 0) (c.intervals.ensures.intervals ∙ times)) turns counts c.tail.ensures in
    let all = all_written p c.head.result quanta cycles pages c.tail.result is _ _ c.in_ok-write_lines.ensures.ok _ c.in_ok-write_quanta.ensures.ok _ c.in_ok-write_cycles.ensures.ok _ c.in_ok-write_pages.ensures.ok _ in
    let part = all_cut p c.head.result quanta cycles pages c.tail.result is _ _ c.in_ok-write_lines.ensures.ok _ c.in_ok-write_quanta.ensures.ok _ c.in_ok-write_cycles.ensures.ok _ c.in_ok-write_pages.ensures.ok _ in
    record {
      ok = on_ok_weaker c.write_lines-2.result all c.write_lines-2.ensures.ok;
      err = on_err_weaker c.write_lines-2.result part c.write_lines-2.ensures.err;
      cause = omega (arith, c.in_ok-write_lines.ensures.cause, c.in_ok-write_quanta.ensures.cause, c.in_ok-write_cycles.ensures.cause, c.in_ok-write_pages.ensures.cause, c.write_lines-2.ensures.cause);
    }
