-- A list of commands that were done in order is a list of events.
use Rattle.std.proofs.Common.{◌≡◌, ◌∙◌, ℕ, List, [], ◌∷◌, refl, sym, subst}
use Rattle.std.specs.Prelude.{Option, Some, None}
use Rattle.graph_heap.specs.declared.command.Command.{Command}
use Rattle.graph_heap.specs.declared.command.Refusal.{Refusal}
use Rattle.graph_heap.specs.declared.command.Reply.{Reply}
use Rattle.graph_heap.specs.declared.command.Reply.TheVariants as replies
use Rattle.heap_model.specs.State.{HeapState}
use Rattle.heap_model.specs.Event.{Course, Event, Command_done, Does, IsCourse, Runs}
use Rattle.heap_model.proofs.Event.Kept.{does_course}
use Rattle.machine.specs.Plan.{Steps}
use Rattle.machine.proofs.Events.{command_event}
use Rattle.bulk.specs.InOrder.{InOrder, with_refusal, events_of}

-- No event is left, if no reply is.
none_left : (m : ℕ) (cs : List Command) → events_of m cs [] ≡ []
none_left m [] = refl
none_left m (c ∷ cs) = refl

-- A step of the heap to which a course led is an event of the course.
step_event : (r : Course) (m : ℕ) (c : Command) (told : Reply) (h after : HeapState) → IsCourse r → r.heap ≡ h → Steps h m c told after
    → (new : Course) × (new.heap ≡ after) × Does r (Command_done m c told) new
step_event r m c told h after w e s = command_event r m c told after w (subst (λ (x : HeapState). Steps x m c told after) (sym e) s)

pub are_events : (m : ℕ) (cs : List Command) (rs : List Reply) (refused : Option Refusal) (r : Course) (h after : HeapState) → IsCourse r → r.heap ≡ h → InOrder m h cs rs refused after
    → (new : Course) × (new.heap ≡ after) × Runs r (events_of m cs (with_refusal rs refused)) new
are_events m [] [] None r h after w e i = (r, e ∙ sym i, refl)
are_events m [] [] (Some why) r h after w e i = absurd i
are_events m [] (q ∷ qs) refused r h after w e i = absurd i
are_events m (c ∷ cs) [] None r h after w e i = absurd i
are_events m (c ∷ cs) [] (Some why) r h after w e i =
    let one = step_event r m c (replies.Refused why) h after w e i in
    (one.0, one.1, (one.0, one.2, subst (λ (es : List Event). Runs one.0 es one.0) (sym (none_left m cs)) refl))
are_events m (c ∷ cs) (q ∷ qs) None r h after w e i =
    let one = step_event r m c q h i.0 w e i.1 in
    let rest = are_events m cs qs None one.0 i.0 after (does_course r (Command_done m c q) one.0 w one.2) one.1 i.3 in
    (rest.0, rest.1, (one.0, one.2, rest.2))
are_events m (c ∷ cs) (q ∷ qs) (Some why) r h after w e i =
    let one = step_event r m c q h i.0 w e i.1 in
    let rest = are_events m cs qs (Some why) one.0 i.0 after (does_course r (Command_done m c q) one.0 w one.2) one.1 i.3 in
    (rest.0, rest.1, (one.0, one.2, rest.2))
