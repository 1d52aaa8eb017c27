-- What a pacer's calls do are deeds.
use Rattle.std.proofs.Common.{◌≡◌, ℕ, Ok, List, [], ◌∷◌, ◌++◌, ap, ◌∙◌, sym, subst, arith, refl, append_assoc}
use Rattle.graph_heap.specs.declared.command.Command.{Command}
use Rattle.graph_heap.specs.declared.command.Reply.{Reply}
use Rattle.heap_model.specs.Event.{Event, Command_done, Cycle_begun, Begin_refused, Quantum_done, Quantum_refused}
use Rattle.paced.specs.Cycles.{DoesOn}
use Rattle.paced.specs.Pacing.{PacerView, PacedState, PacedView, state_of, worked, Path, MayAsk, KeepsPlan, WorksFor, Pays, Calls}
use Rattle.paced.specs.Bounds.{words_in, Deed, IsDone, AreDone, events_of, without_work}
use Rattle.paced.proofs.Paths.{path_then, work_paces}

pub call_deed : (old new : PacedView) (m : ℕ) (c : Command) (reply : Reply) → Calls old m c (Ok reply) new
    → (work : List Event) × IsDone (state_of old) (record { work = work; event = Command_done m c reply }) (state_of new) × (new.pacer.figures ≡ worked old.pacer.figures work)
call_deed old new m c reply w = (
  w.2.work,
  record {
    before = record { heap = w.1.heap; counts = w.2.before };
    works = w.2.works;
    may = w.2.may;
    does = w.3;
    counts = ap (λ (p : PacerView). p.counts) w.4 ∙ w.2.counts;
  },
  ap (λ (p : PacerView). p.figures) w.4 ∙ w.2.figures,
)

may_none : (v : PacedState) → MayAsk v 0
may_none v = record { cycle = λ some. absurd (omega (arith, some)); quanta = λ some on. absurd (omega (arith, some)) }

alone_may : (v : PacedState) (e : Event) → KeepsPlan v e → MayAsk v (words_in e)
alone_may v (Command_done m c reply) may = may
alone_may v Cycle_begun may = may_none v
alone_may v Begin_refused may = may_none v
alone_may v (Quantum_done budget units phase) may = may_none v
alone_may v (Quantum_refused budget) may = may_none v

pub alone_deed : (old new : PacedState) (e : Event) → Path KeepsPlan old (e ∷ []) new → IsDone old (record { work = []; event = e }) new
alone_deed old new e p = record {
  before = old;
  works = refl;
  may = alone_may old e p.1;
  does = subst (λ (z : PacedState). DoesOn old.heap e z.heap) (sym p.4) p.2;
  counts = ap (λ (z : PacedState). z.counts) p.4 ∙ p.3;
}

pub none_works : (work : List Event) (words : ℕ) (old before : PacedState) → MayAsk old words → Path (WorksFor words) old work before → work ≡ []
none_works [] words old before may p = refl
none_works (Command_done m c reply ∷ work) words old before may p = absurd p.1
none_works (Cycle_begun ∷ work) words old before may p = absurd (p.1 may)
none_works (Begin_refused ∷ work) words old before may p = absurd p.1
none_works (Quantum_done budget units phase ∷ work) words old before may p = absurd (p.1.0 may)
none_works (Quantum_refused budget ∷ work) words old before may p = absurd p.1

pub paid_ahead : (old new : PacedView) (words : ℕ) (w : Pays old words new) → MayAsk (state_of old) words → w.work ≡ []
paid_ahead old new words w may = none_works w.work words (state_of old) (record { heap = new.heap; counts = w.before }) may w.works

-- the collector works for words alone
pub idle_deed : (old new : PacedState) (d : Deed) → IsDone old d new → words_in d.event ≡ 0 → d.work ≡ []
idle_deed old new d one none = none_works d.work (words_in d.event) old one.before (subst (MayAsk old) (sym none) (may_none old)) one.works

-- an event whose words may be asked for keeps the plan
pub may_keep : (e : Event) (v : PacedState) → MayAsk v (words_in e) → KeepsPlan v e
may_keep (Command_done m c reply) v may = may
may_keep Cycle_begun v may = tt
may_keep Begin_refused v may = tt
may_keep (Quantum_done budget units phase) v may = tt
may_keep (Quantum_refused budget) v may = tt

-- deeds are events that keep the plan
pub deeds_path : (ds : List Deed) (old new : PacedState) → AreDone old ds new → Path KeepsPlan old (events_of ds) new
deeds_path [] old new done = done
deeds_path (d ∷ ds) old new done =
    let one = done.1 in
    path_then KeepsPlan d.work (d.event ∷ events_of ds) old one.before new (work_paces (words_in d.event) d.work old one.before one.works)
    (done.0, may_keep d.event one.before one.may, one.does, one.counts, deeds_path ds done.0 new done.2)

-- deeds, and then others
pub deeds_then : (ds es : List Deed) (old mid new : PacedState) → AreDone old ds mid → AreDone mid es new → AreDone old (ds ++ es) new
deeds_then [] es old mid new p q = subst (λ v. AreDone v es new) p q
deeds_then (d ∷ ds) es old mid new p q = (p.0, p.1, deeds_then ds es p.0 mid new p.2 q)

pub events_then : (ds es : List Deed) → events_of (ds ++ es) ≡ events_of ds ++ events_of es
events_then [] es = refl
events_then (d ∷ ds) es = ap (λ z. d.work ++ d.event ∷ z) (events_then ds es) ∙ sym (append_assoc d.work (d.event ∷ events_of ds) (events_of es))

-- events that keep the plan are deeds without work
pub path_deeds : (es : List Event) (old new : PacedState) → Path KeepsPlan old es new → AreDone old (without_work es) new
path_deeds [] old new p = p
path_deeds (e ∷ es) old new p = (p.0, alone_deed old p.0 e (p.0, p.1, p.2, p.3, refl), path_deeds es p.0 new p.4)

pub events_alone : (es : List Event) → events_of (without_work es) ≡ es
events_alone [] = refl
events_alone (e ∷ es) = ap (λ z. e ∷ z) (events_alone es)
