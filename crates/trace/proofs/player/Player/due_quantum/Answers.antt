use Rattle.std.proofs.Common.{[], ◌∷◌, ◌++◌, ap, ap₂, ◌∙◌, subst, refl, Ok, true}
use Rattle.heap_model.specs.Pages.{free_pages}
use Rattle.heap_model.specs.State.{HeapState}
use Rattle.quanta.specs.Timetable.{Timetable, with_reserved}
use Rattle.trace.specs.Observing.{observed, SeesDue}
use Rattle.trace.specs.Player.{PlayerState, player_of}
use Rattle.trace.specs.Starts.{name_of}
use Rattle.trace.specs.Ticking.{DueDone}
use Rattle.trace.proofs.Doing.{due_placed, due_done, due_refused}
use Rattle.trace.proofs.player.Player.due_quantum.Goals as goal

pub returns-in_err-reserve-clause-done : goal.returns-in_err-reserve-clause-done
returns-in_err-reserve-clause-done g c =
    let p = player_of c.self.inside in
    let f = c.in-Some.ensures.found in
    subst (λ (x : PlayerState). DueDone c.args.until x (record p { timetable = with_reserved c.reserve.new.self 0 }) c.from_residual.result) c.self.view_is
    (due_refused p c.args.until c.in-Some._due (with_reserved c.reserve.new.self 0) p.starts c.from_residual.result c.from_residual.ensures.0 f.0 f.1 (ap (λ (t : Timetable). with_reserved t 0) c.reserve.ensures.kept) refl)

pub returns-in_err-push-clause-done : goal.returns-in_err-push-clause-done
returns-in_err-push-clause-done g c =
    let p = player_of c.self.inside in
    let f = c.in-Some.ensures.found in
    let starts = c.push.new.self.items in
    subst (λ (x : PlayerState). DueDone c.args.until x (record p { timetable = with_reserved c.reserve.new.self 0; starts = starts }) c.from_residual-in_err-push.result) c.self.view_is
    (due_refused p c.args.until c.in-Some._due (with_reserved c.reserve.new.self 0) starts c.from_residual-in_err-push.result c.from_residual-in_err-push.ensures.0 f.0 f.1 (ap (λ (t : Timetable). with_reserved t 0) c.reserve.ensures.kept) c.in_err-push.ensures.items)

pub returns-clause-done : goal.returns-clause-done
returns-clause-done g c =
    let p = player_of c.self.inside in
    let f = c.in-Some.ensures.found in
    let e = due_placed c.self.inside.schedule c.reserve.new.self c.place.new.self c.in-Some._due c.reserve.ensures.kept f.0 c.place.ensures.placed in
    let name = c.of.ensures ∙ ap name_of (c.phase.ensures.phase ∙ ap (λ (h : HeapState). h.phase) c.heap-heap.ensures.heap) in
    let free = c.free_pages.ensures.free ∙ ap (λ (h : HeapState). free_pages h.store.pages) c.heap-heap.ensures.heap in
    let more = c.in_ok-push.ensures.items ∙ ap₂ (λ n pages. p.starts ++ (record { phase = n; opens_cycle = p.begun; free_pages = pages }) ∷ []) name free in
    subst (λ (x : PlayerState). DueDone c.args.until x c.quantum.new.self (Ok true)) c.self.view_is
    (due_done p c.quantum.new.self c.args.until c.in-Some._due (with_reserved c.place.new.self 0) c.push.new.self.items f.0 f.1 e more c.quantum.ensures.spent)

pub returns-clause-seen : goal.returns-clause-seen
returns-clause-seen g c =
    subst (λ (x : PlayerState). SeesDue g.O.Observer.has_seen (observed x c.args.observer.now) (observed c.quantum.new.self c.quantum.new.observer) (Ok true)) c.self.view_is c.quantum.ensures.seen
