-- Events that are done on a heap that is paced.
use Rattle.std.proofs.Common.{◌≡◌, ℕ, ◌+◌, Result, Ok, Err, List, [], ◌∷◌, ◌++◌, ap, ◌∙◌, subst, arith, refl}
use Rattle.graph_heap.specs.declared.command.Command.{Command}
use Rattle.graph_heap.specs.declared.command.Command.TheVariants as commands
use Rattle.graph_heap.specs.declared.command.Reply.{Reply}
use Rattle.heap_model.specs.State.{HeapState}
use Rattle.space.specs.Room.{asks}
use Rattle.fragmentation.specs.Flow.{words_of}
use Rattle.fragmentation.proofs.Flows.Words.{words_none}
use Rattle.machine.specs.Plan.{Steps}
use Rattle.heap_model.specs.Event.{Event, Command_done, Cycle_begun, Begin_refused, Quantum_done, Quantum_refused}
use Rattle.machine.specs.declared.collector.BudgetOutOfRange.{BudgetOutOfRange}
use Rattle.machine.specs.declared.collector.Busy.{Busy}
use Rattle.machine.specs.declared.collector.Spent.{Spent}
use Rattle.machine.specs.Collecting.{Begins, Spends}
use Rattle.machine.specs.Recorded.{begin_done, quantum_done}
use Rattle.paced.specs.declared.cycles.Cycles.{Cycles}
use Rattle.paced.specs.declared.pacer.AbovePlan.{AbovePlan}
use Rattle.paced.specs.Cycles.{DoesOn, cycles_after, CountsCycles}
use Rattle.paced.specs.Logged.{Enters}
use Rattle.paced.specs.Pacing.{Counts, PacerView, PacedState, PacedView, state_by, state_of, counted, Path, KeepsPlan, MakesNothing, MayAsk, Paced, WorksFor, Calls, Counted}

-- events, and then others
pub path_then : (Passes : PacedState → Event → Type 0) (es fs : List Event) (old mid new : PacedState) → Path Passes old es mid → Path Passes mid fs new → Path Passes old (es ++ fs) new
path_then Passes [] fs old mid new p q = subst (λ v. Path Passes v fs new) p q
path_then Passes (e ∷ es) fs old mid new p q = (p.0, p.1, p.2, p.3, path_then Passes es fs p.0 mid new p.4 q)

-- the same of cycles
pub cycles_then : (es fs : List Event) (old mid new : HeapState) (c d e : Cycles) → CountsCycles old c es mid d → CountsCycles mid d fs new e → CountsCycles old c (es ++ fs) new e
cycles_then [] fs old mid new c d e p q = subst (λ (x : HeapState). CountsCycles x c fs new e) p.0 (subst (λ (x : Cycles). CountsCycles mid x fs new e) p.1 q)
cycles_then (x ∷ es) fs old mid new c d e p q = (p.0, p.1, cycles_then es fs p.0 mid new (cycles_after x old p.0 c) d e p.2 q)

-- the same of what is entered in a log
pub enters_then : {S : Type 0} (enters : S → Event → S → Type 0) (es fs : List Event) (old mid new : S) → Enters enters old es mid → Enters enters mid fs new → Enters enters old (es ++ fs) new
enters_then {S} enters [] fs old mid new p q = subst (λ (x : S). Enters enters x fs new) p q
enters_then enters (e ∷ es) fs old mid new p q = (p.0, p.1, enters_then enters es fs p.0 mid new p.2 q)

-- what comes of a beginning and of a quantum is done on the heap
pub begin_on : (old new : HeapState) (result : Result (Unit {0}) Busy) → Begins old new result → DoesOn old (begin_done result) new
begin_on old new (Ok done) b = b
begin_on old new (Err busy) b = b

pub quantum_on : (old new : HeapState) (budget : ℕ) (result : Result Spent BudgetOutOfRange) → Spends old budget new result → DoesOn old (quantum_done budget result) new
quantum_on old new budget (Ok spent) s = s
quantum_on old new budget (Err refused) s = s

-- and the plan stays
pub same_plan : (t : Counts) (e : Event) → (counted t e).plan ≡ t.plan
same_plan t (Command_done m c reply) = refl
same_plan t Cycle_begun = refl
same_plan t Begin_refused = refl
same_plan t (Quantum_done budget units phase) = refl
same_plan t (Quantum_refused budget) = refl

pub path_plan : (Passes : PacedState → Event → Type 0) (es : List Event) (old new : PacedState) → Path Passes old es new → new.counts.plan ≡ old.counts.plan
path_plan Passes [] old new p = ap (λ (v : PacedState). v.counts.plan) p
path_plan Passes (e ∷ es) old new p = path_plan Passes es p.0 new p.4 ∙ (ap (λ (t : Counts). t.plan) p.3 ∙ same_plan old.counts e)

-- the collector's work keeps the plan
work_keeps : (words : ℕ) (v : PacedState) (e : Event) → WorksFor words v e → KeepsPlan v e
work_keeps words v (Command_done m c reply) w = absurd w
work_keeps words v Cycle_begun w = tt
work_keeps words v Begin_refused w = tt
work_keeps words v (Quantum_done budget units phase) w = tt
work_keeps words v (Quantum_refused budget) w = tt

pub work_paces : (words : ℕ) (es : List Event) (old new : PacedState) → Path (WorksFor words) old es new → Path KeepsPlan old es new
work_paces words [] old new p = p
work_paces words (e ∷ es) old new p = (p.0, work_keeps words old e p.1, p.2, p.3, work_paces words es p.0 new p.4)

pub paced_none : (v : PacedState) → Paced v v
paced_none v = ([], refl)

pub paced_then : (old mid new : PacedState) → Paced old mid → Paced mid new → Paced old new
paced_then old mid new p q = (p.0 ++ q.0, path_then KeepsPlan p.0 q.0 old mid new p.1 q.1)

-- a command that is done after the work that pays for it
pub call_path : (old new : PacedView) (m : ℕ) (c : Command) (reply : Reply) (w : Calls old m c (Ok reply) new) → Path KeepsPlan (state_of old) (w.2.work ++ Command_done m c reply ∷ []) (state_of new)
call_path old new m c reply w =
    let before : PacedState = record { heap = w.1.heap; counts = w.2.before } in
    let counts : new.pacer.counts ≡ counted w.2.before (Command_done m c reply) = ap (λ (p : PacerView). p.counts) w.4 ∙ w.2.counts in
    path_then KeepsPlan w.2.work (Command_done m c reply ∷ []) (state_of old) before (state_of new) (work_paces _ w.2.work (state_of old) before w.2.works) (state_of new, w.2.may, w.3, counts, refl)

-- what a call does is paced
pub calls_paced : (old new : PacedView) (m : ℕ) (c : Command) (result : Result Reply AbovePlan) → Calls old m c result new → Paced (state_of old) (state_of new)
calls_paced old new m c (Err above) w = ([], ap state_of w.1)
calls_paced old new m c (Ok reply) w = (w.2.work ++ Command_done m c reply ∷ [], call_path old new m c reply w)

pub begin_path : (p q : PacerView) (old new : HeapState) (result : Result (Unit {0}) Busy) → Begins old new result → Counted p (begin_done result) q
    → Path KeepsPlan (state_by p old) (begin_done result ∷ []) (state_by q new)
begin_path p q old new (Ok done) b k = (state_by q new, tt, b, ap (λ (x : PacerView). x.counts) k, refl)
begin_path p q old new (Err busy) b k = (state_by q new, tt, b, ap (λ (x : PacerView). x.counts) k, refl)

pub begin_paced : (p q : PacerView) (old new : HeapState) (result : Result (Unit {0}) Busy) → Begins old new result → Counted p (begin_done result) q → Paced (state_by p old) (state_by q new)
begin_paced p q old new result b k = (begin_done result ∷ [], begin_path p q old new result b k)

pub quantum_path : (p q : PacerView) (old new : HeapState) (budget : ℕ) (result : Result Spent BudgetOutOfRange) → Spends old budget new result → Counted p (quantum_done budget result) q
    → Path KeepsPlan (state_by p old) (quantum_done budget result ∷ []) (state_by q new)
quantum_path p q old new budget (Ok spent) s k = (state_by q new, tt, s, ap (λ (x : PacerView). x.counts) k, refl)
quantum_path p q old new budget (Err refused) s k = (state_by q new, tt, s, ap (λ (x : PacerView). x.counts) k, refl)

pub quantum_paced : (p q : PacerView) (old new : HeapState) (budget : ℕ) (result : Result Spent BudgetOutOfRange) → Spends old budget new result → Counted p (quantum_done budget result) q → Paced (state_by p old) (state_by q new)
quantum_paced p q old new budget result s k = (quantum_done budget result ∷ [], quantum_path p q old new budget result s k)

-- a command that makes no object asks for no words
no_words : (c : Command) → MakesNothing c → words_of (asks c) ≡ 0
no_words (commands.New dst shape) none = absurd none
no_words c none = words_none (asks c) (λ k l. refl)

pub other_path : (v : PacedState) (m : ℕ) (c : Command) (reply : Reply) (after : HeapState) → MakesNothing c → Steps v.heap m c reply after → Path KeepsPlan v (Command_done m c reply ∷ []) (record v { heap = after })
other_path v m c reply after none steps =
    let n = no_words c none in
    let same : v.counts.words ≡ v.counts.words + words_of (asks c) = omega (arith, n) in
    let may : MayAsk v (words_of (asks c)) = record { cycle = λ some. absurd (omega (arith, n, some)); quanta = λ some on. absurd (omega (arith, n, some)) } in
    (record v { heap = after }, may, steps, ap (λ w. record v.counts { words = w }) same, refl)

pub other_paced : (v : PacedState) (m : ℕ) (c : Command) (reply : Reply) (after : HeapState) → MakesNothing c → Steps v.heap m c reply after → Paced v (record v { heap = after })
other_paced v m c reply after none steps = (Command_done m c reply ∷ [], other_path v m c reply after none steps)
