-- A call of a heap does one event.
use Rattle.std.proofs.Common.{◌≡◌, ℕ, ◌∷◌, ◌++◌, [], Ok, Err, length, refl, sym}
use Rattle.std.specs.Prelude.{Result}
use Rattle.graph_heap.specs.declared.command.Command.{Command}
use Rattle.graph_heap.specs.declared.command.Entry.{Entry}
use Rattle.graph_heap.specs.declared.command.Reply.{Reply}
use Rattle.heap_model.specs.State.{HeapState}
use Rattle.heap_model.specs.Event.{Course, Command_done, Does, IsCourse, present_of, snapshot_of}
use Rattle.heap_model.proofs.Agreements.Implied.{consistent_agrees}
use Rattle.machine.specs.declared.collector.BudgetOutOfRange.{BudgetOutOfRange}
use Rattle.machine.specs.declared.collector.Busy.{Busy}
use Rattle.machine.specs.declared.collector.Spent.{Spent}
use Rattle.machine.specs.Collecting.{Begins, Spends}
use Rattle.machine.specs.Plan.{Steps}
use Rattle.machine.specs.Recorded.{begin_done, quantum_done}
use Rattle.machine.proofs.Courses.{quantum_does}
use Rattle.machine.proofs.Replying.{enters}

pub command_event : (r : Course) (m : ℕ) (c : Command) (told : Reply) (after : HeapState) → IsCourse r → Steps r.heap m c told after → (new : Course) × (new.heap ≡ after) × Does r (Command_done m c told) new
command_event r m c told after w s =
    let entry : Entry = record { mutator = m; command = c; reply = told } in
    let agrees = consistent_agrees r.heap (present_of r) (snapshot_of r) w.represents.consistent in
    (record r { heap = after; history = r.history ++ entry ∷ [] }, refl, enters r m c told after (r.history ++ entry ∷ []) s.reply s.does agrees refl)

pub begin_event : (r : Course) (after : HeapState) (result : Result (Unit {0}) Busy) → Begins r.heap after result → (new : Course) × (new.heap ≡ after) × Does r (begin_done result) new
begin_event r after (Ok done) w = (record r { heap = after; place = length r.history }, refl, record { idle = w.0; heap = w.1; history = refl; place = refl })
begin_event r after (Err busy) w = (r, sym w.1, (w.0, refl))

pub quantum_event : (r : Course) (budget : ℕ) (after : HeapState) (result : Result Spent BudgetOutOfRange) → Spends r.heap budget after result → (new : Course) × (new.heap ≡ after) × Does r (quantum_done budget result) new
quantum_event r budget after result w = (record r { heap = after }, refl, quantum_does r budget after result w)
