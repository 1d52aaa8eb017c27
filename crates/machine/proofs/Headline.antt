-- The promises of a heap with its history hold, whatever events are done.
use Rattle.std.proofs.Common.{◌≡◌, List, [], ◌∷◌, ◌++◌, ap, sym, ◌∙◌}
use Rattle.std.proofs.lemmas.List.{append_assoc, append-nil}
use Rattle.graph_heap.specs.declared.command.Entry.{Entry}
use Rattle.heap_model.specs.Event.{Course, Event, Command_done, Cycle_begun, Begin_refused, Quantum_done, Quantum_refused, IsCourse, Does, Runs, present_of, snapshot_of}
use Rattle.heap_model.proofs.Agreements.Implied.{consistent_agrees}
use Rattle.heap_model.proofs.Event.Kept.{runs_course}
use Rattle.heap_model.proofs.Event.Freed.{reached_allocated, runs_back}
use Rattle.heap_model.proofs.Grey.Relinked.{represents_relinked}
use Rattle.heap_model.proofs.Swept.{allocated_is_kept}
use Rattle.heap_model.proofs.Represents.{represents_chain, represents_limit, sweep_change}
use Rattle.machine.specs.Recorded.{EachSweepEnds}
use Rattle.machine.specs.Headline.{Holds, AlwaysHolds}
use Rattle.machine.proofs.Courses.{ends_soon}

pub sweeps_end : (r : Course) → IsCourse r → EachSweepEnds r
sweeps_end r w spent cost h after linked chain links action from to =
    let before = represents_chain r.heap h spent (present_of r) (snapshot_of r) w.represents chain in
    sweep_change (record h { store = linked }) after cost (present_of r) (snapshot_of r) (represents_relinked h linked links (present_of r) (snapshot_of r) before) action from to

pub course_holds : (r : Course) → IsCourse r → Holds r
course_holds r w = record {
  legal = w.legal;
  agrees = λ spent h chain. consistent_agrees h (present_of r) (snapshot_of r) (represents_chain r.heap h spent (present_of r) (snapshot_of r) w.represents chain).consistent;
  allocated = λ id reach. reached_allocated r.heap (present_of r) (snapshot_of r) w.represents.consistent id reach;
  swept = sweeps_end r w;
  kept = λ spent h chain rests. allocated_is_kept h (present_of r) (snapshot_of r) (represents_chain r.heap h spent (present_of r) (snapshot_of r) w.represents chain).consistent rests;
  units = λ spent h chain. represents_limit h (present_of r) (snapshot_of r) (represents_chain r.heap h spent (present_of r) (snapshot_of r) w.represents chain);
  ends = λ start begins. ends_soon r start w begins;
}

-- the history only grows
abbrev Longer : List Entry → List Entry → Type 0
Longer old new = (rest : List Entry) × (new ≡ old ++ rest)

same_history : (old new : List Entry) → new ≡ old → Longer old new
same_history old new e = ([], e ∙ sym (append-nil old))

does_grow : (r : Course) (e : Event) (new : Course) → Does r e new → Longer r.history new.history
does_grow r (Command_done m c reply) new w = (_, w.history)
does_grow r Cycle_begun new w = same_history r.history new.history w.history
does_grow r Begin_refused new w = same_history r.history new.history (ap (λ (x : Course). x.history) w.1)
does_grow r (Quantum_done budget units phase) new w = same_history r.history new.history w.history
does_grow r (Quantum_refused budget) new w = same_history r.history new.history (ap (λ (x : Course). x.history) w.1)

runs_grow : (es : List Event) (r new : Course) → Runs r es new → Longer r.history new.history
runs_grow [] r new w = same_history r.history new.history (ap (λ (x : Course). x.history) w)
runs_grow (e ∷ es) r new w =
    let a = does_grow r e w.0 w.1 in
    let b = runs_grow es w.0 new w.2 in
    (a.0 ++ b.0, b.1 ∙ ap (λ xs. xs ++ b.0) a.1 ∙ append_assoc r.history a.0 b.0)

pub always_holds : (r : Course) → IsCourse r → AlwaysHolds r
always_holds r w es new runs =
    (course_holds new (runs_course es r new w runs), record { grows = runs_grow es r new runs; lost = λ id made reach. runs_back es r new id w runs made reach })
