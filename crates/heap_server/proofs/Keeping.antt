-- Each event keeps what the lock keeps.
use Rattle.std.proofs.Common.{◌≡◌, ℕ, ◌+◌, ◌-◌, ◌<◌, List, [], ◌∷◌, length, sym, ap, ◌∙◌, subst, arith, length-append}
use Rattle.graph_heap.specs.declared.command.Command.{Command}
use Rattle.graph_heap.specs.declared.command.Reply.{Reply}
use Rattle.graph_heap.specs.declared.command.Entry.{Entry}
use Rattle.heap_model.specs.declared.phase.Phase.{Phase}
use Rattle.heap_model.specs.State.{HeapState}
use Rattle.heap_model.specs.Opening.{IsOpening}
use Rattle.heap_model.specs.Event.{Course, Event, Command_done, Cycle_begun, Quantum_done, present_of, room_for, change_by, Enters, Begins, Collects, Does, quanta_in}
use Rattle.heap_model.specs.ReachedFrom.{IsReachedFrom, cycles_in, units_in, opened}
use Rattle.heap_model.specs.Settings.{HeapSettings, settings_of}
use Rattle.heap_model.proofs.Left.{change_left}
use Rattle.heap_model.proofs.ReachedFrom.{reached_opening, reached_more, reached_course}
use Rattle.heap_model.proofs.Settings.{does_settings}
use Rattle.machine.proofs.Headline.{course_holds}
use Rattle.machine.proofs.Space.{found_space}
use Rattle.heap_server.specs.Views.{LockedView}
use Rattle.heap_server.specs.Kept.{IsKept, cycles_on}
use Rattle.heap_server.proofs.Turning.{cycles_fall}

-- an event is done, and the books count it
event_kept : (settings : HeapSettings) (v new : LockedView) (e : Event) → IsKept settings v → Does v.course e new.course → length new.course.history ≡ new.calls
    → v.begun + cycles_in (e ∷ []) ≡ new.begun → v.quanta + quanta_in (e ∷ []) ≡ new.quanta → v.spent + units_in (e ∷ []) ≡ new.spent → new.ended + cycles_on new.course.heap.phase ≡ new.begun → IsKept settings new
event_kept settings v new e k d counted begun quanta spent cycles =
    let more = reached_more v.course new.course e v.begun v.quanta v.spent k.reached_from d in
    let reached_from = subst (λ (n : ℕ). IsReachedFrom new.course n new.quanta new.spent) begun
    (subst (λ (q : ℕ). IsReachedFrom new.course (v.begun + cycles_in (e ∷ [])) q new.spent) quanta
    (subst (λ (u : ℕ). IsReachedFrom new.course (v.begun + cycles_in (e ∷ [])) (v.quanta + quanta_in (e ∷ [])) u) spent more)) in
    record {
      some = k.some;
      sound = record { settings_are = does_settings v.course e new.course d ∙ k.sound.settings_are; holds = course_holds new.course (reached_course new.course new.begun new.quanta new.spent reached_from); space = found_space new.course };
      counted = counted;
      reached_from = reached_from;
      cycles = cycles;
    }

pub call_kept : (settings : HeapSettings) (v new : LockedView) (m : ℕ) (c : Command) (reply : Reply) → IsKept settings v → Enters v.course m c reply new.course
    → new.calls ≡ v.calls + 1 → new.begun ≡ v.begun → new.ended ≡ v.ended → new.quanta ≡ v.quanta → new.spent ≡ v.spent → IsKept settings new
call_kept settings v new m c reply k d calls begun ended quanta spent =
    let one : length new.course.history ≡ length v.course.history + 1 = ap length d.history ∙ length-append v.course.history (record { mutator = m; command = c; reply = reply } ∷ []) in
    let phase = ap cycles_on (change_left v.course.heap new.course.heap (present_of v.course) (change_by (room_for v.course.heap c) (present_of v.course) m c) d.change).phase in
    let counted = k.counted in
    let cycles = k.cycles in
    event_kept settings v new (Command_done m c reply) k d (omega arith) (omega arith) (omega arith) (omega arith) (omega arith)

pub begin_kept : (settings : HeapSettings) (v new : LockedView) → IsKept settings v → Begins v.course new.course
    → new.calls ≡ v.calls → new.begun ≡ v.begun + 1 → new.ended ≡ v.ended → new.quanta ≡ v.quanta → new.spent ≡ v.spent → IsKept settings new
begin_kept settings v new k d calls begun ended quanta spent =
    let was : cycles_on v.course.heap.phase ≡ 0 = ap cycles_on d.idle in
    let is : cycles_on new.course.heap.phase ≡ 1 = ap (λ (h : HeapState). cycles_on h.phase) d.heap in
    let counted = ap length d.history ∙ k.counted in
    let cycles = k.cycles in
    event_kept settings v new Cycle_begun k d (omega arith) (omega arith) (omega arith) (omega arith) (omega arith)

pub quantum_kept : (settings : HeapSettings) (v new : LockedView) (budget units : ℕ) (phase : Phase) → IsKept settings v → Collects v.course budget units phase new.course
    → new.calls ≡ v.calls → new.begun ≡ v.begun → new.ended ≡ v.ended + (cycles_on v.course.heap.phase - cycles_on phase) → new.quanta ≡ v.quanta + 1 → new.spent ≡ v.spent + units → IsKept settings new
quantum_kept settings v new budget units phase k d calls begun ended quanta spent =
    let less = cycles_fall v.course new.course budget units phase (reached_course v.course v.begun v.quanta v.spent k.reached_from) d in
    let is : cycles_on new.course.heap.phase ≡ cycles_on phase = ap cycles_on d.ends in
    let counted = ap length d.history ∙ k.counted in
    let cycles = k.cycles in
    event_kept settings v new (Quantum_done budget units phase) k d (omega arith) (omega arith) (omega arith) (omega arith) (omega arith)

pub opening_kept : (settings : HeapSettings) (v : LockedView) → 0 < settings.limits.mutators → IsOpening v.course.heap → 0 < length v.course.heap.store.pages → v.course.history ≡ [] → v.course.place ≡ 0 → settings_of v.course.heap ≡ settings
    → v.calls ≡ 0 → v.begun ≡ 0 → v.ended ≡ 0 → v.quanta ≡ 0 → v.spent ≡ 0 → IsKept settings v
opening_kept settings v mutators o some history place is calls begun ended quanta spent =
    let at : List Entry → ℕ → Course = λ entries n. record { heap = v.course.heap; history = entries; place = n } in
    let same : opened v.course.heap ≡ v.course = ap (λ (entries : List Entry). at entries 0) (sym history) ∙ ap (at v.course.history) (sym place) in
    let first = reached_opening v.course.heap o some in
    let reached_from = subst (λ (r : Course). IsReachedFrom r v.begun v.quanta v.spent) same
    (subst (λ (n : ℕ). IsReachedFrom (opened v.course.heap) n v.quanta v.spent) (sym begun)
    (subst (λ (q : ℕ). IsReachedFrom (opened v.course.heap) 0 q v.spent) (sym quanta)
    (subst (λ (u : ℕ). IsReachedFrom (opened v.course.heap) 0 0 u) (sym spent) first))) in
    let idle : cycles_on v.course.heap.phase ≡ 0 = ap cycles_on o.phase in
    record {
      some = mutators;
      sound = record { settings_are = is; holds = course_holds v.course (reached_course v.course v.begun v.quanta v.spent reached_from); space = found_space v.course };
      counted = ap length history ∙ sym calls;
      reached_from = reached_from;
      cycles = omega arith;
    }

-- making room leaves what is kept
pub reserve_kept : (settings : HeapSettings) (v : LockedView) (course : Course) (room : ℕ) → IsKept settings v → course ≡ v.course → IsKept settings (record v { course = course; room = room })
reserve_kept settings v course room k same =
    subst (λ (r : Course). IsKept settings (record v { course = r; room = room })) (sym same) (record { some = k.some; sound = k.sound; counted = k.counted; reached_from = k.reached_from; cycles = k.cycles })
