-- The effects of calls on a player.
use Rattle.std.proofs.Common.{◌≡◌, ◌≢◌, ℕ, ◌<◌, Bool, true, false, List, [], ◌∷◌, ◌++◌, Ok, Err, ap, ◌∙◌, sym, subst, refl}
use Rattle.std.specs.Prelude.{Result, Some, None, IfOk, IfSome, IsErr, is_ok}
use Rattle.graph_heap.specs.declared.command.Command.{Command}
use Rattle.graph_heap.specs.declared.no_memory.NoMemory.{NoMemory}
use Rattle.heap_model.specs.declared.phase.Phase.{Phase}
use Rattle.heap_model.specs.declared.phase.Phase.TheVariants as phases
use Rattle.heap_model.specs.Event.{Course, Command_done, Cycle_begun, Begin_refused, Does}
use Rattle.quanta.specs.Timetable.{Timetable, with_reserved, IsPlacedAt}
use Rattle.machine.specs.declared.recorded.Receipt.{Receipt}
use Rattle.machine.specs.declared.collector.Busy.{Busy}
use Rattle.machine.specs.declared.collector.BudgetOutOfRange.{BudgetOutOfRange}
use Rattle.machine.specs.declared.collector.Spent.{Spent as Answer}
use Rattle.machine.specs.Recorded.{begin_done, quantum_done}
use Rattle.trace.specs.declared.line.Line.TheVariants as lines
use Rattle.trace.specs.declared.player.start.QuantumStart.{QuantumStart}
use Rattle.trace.specs.Player.{PlayerState, started, start_of, timetable_after, placed, DoesLine, Commands, Begins, Goes_on}
use Rattle.trace.specs.Ticking.{Begun, Spent, DueDone}

-- a command
pub command_line : (old : PlayerState) (m : ℕ) (c : Command) (course : Course) (result : Result Receipt NoMemory) → IfOk result (λ r. Does old.course (Command_done m c r.entry.reply) course)
    → IfOk result (λ r. DoesLine old (lines.Command m c) (Command_done m c r.entry.reply ∷ []) (record old { course = course }))
command_line old m c course (Ok r) d = Commands m c r.entry.reply course d
command_line old m c course (Err e) d = tt

-- a cycle is begun, or one is running already
pub cycle_begun : (old : PlayerState) (course : Course) (t : Timetable) (result : Result (Unit {0}) Busy) → is_ok result ≡ true → Does old.course (begin_done result) course → t ≡ started old.timetable
    → Begun old (record old { course = course; timetable = t; begun = true })
cycle_begun old course t (Ok done) w d e = (Cycle_begun ∷ [], subst (λ z. DoesLine old lines.Begin (Cycle_begun ∷ []) (record old { course = course; timetable = z; begun = true })) (sym e) (Begins course d))
cycle_begun old course t (Err busy) w d e = absurd (let z : false ≡ true = w in cc)

pub cycle_on : (old : PlayerState) (course : Course) (result : Result (Unit {0}) Busy) → is_ok result ≡ false → Does old.course (begin_done result) course → Begun old (record old { course = course })
cycle_on old course (Ok done) w d = absurd (let z : true ≡ false = w in cc)
cycle_on old course (Err busy) w d =
    (Begin_refused ∷ [], subst (λ (r : Course). DoesLine old lines.Begin (Begin_refused ∷ []) (record old { course = r })) (sym d.1) (Goes_on (d.0, refl)))

-- a quantum
same_behind : (p : Phase) (t : Timetable) → p ≢ phases.Idle → timetable_after p t ≡ t
same_behind phases.Idle t b = absurd (b refl)
same_behind (phases.Roots next) t b = refl
same_behind (phases.Marking part cell) t b = refl
same_behind (phases.Sweeping page block) t b = refl
same_behind (phases.Moving m) t b = refl

pub quantum_line : (old : PlayerState) (budget : ℕ) (course : Course) (t : Timetable) (spent : Answer) (result : Result Answer BudgetOutOfRange) → result ≡ Ok spent → Does old.course (quantum_done budget result) course
    → t ≡ timetable_after spent.phase old.timetable → Spent old budget (record old { course = course; timetable = t })
quantum_line old budget course t spent result is d e =
    (spent.units, spent.phase, course, subst (λ r. Does old.course (quantum_done budget r) course) is d, ap (λ z. record old { course = course; timetable = z }) e)

pub ended : (p : Phase) (t u : Timetable) → p ≡ phases.Idle → u ≡ record t { due = None } → with_reserved u 0 ≡ timetable_after p (with_reserved t 0)
ended p t u e same = ap (λ z. with_reserved z 0) same ∙ sym (ap (λ q. timetable_after q (with_reserved t 0)) e)

pub went_on : (p : Phase) (t : Timetable) → p ≢ phases.Idle → with_reserved t 0 ≡ timetable_after p (with_reserved t 0)
went_on p t b = sym (same_behind p (with_reserved t 0) b)

-- the quantum that is due has its interval
pub due_placed : (old reserved new : Timetable) (due : ℕ) → reserved ≡ with_reserved old reserved.reserved → old.due ≡ Some due → IfSome reserved.due (λ d. IsPlacedAt d reserved new) → with_reserved new 0 ≡ placed due (with_reserved old 0)
due_placed old reserved new due kept is at =
    let e : reserved.due ≡ Some due = ap (λ (t : Timetable). t.due) kept ∙ is in
    let w : IsPlacedAt due reserved new = subst (λ o. IfSome o (λ d. IsPlacedAt d reserved new)) e at in
    ap (λ (t : Timetable). with_reserved t 0) w.placed ∙ ap (λ (t : Timetable). placed due (with_reserved t 0)) kept

pub due_done : (old new : PlayerState) (until due : ℕ) (t : Timetable) (starts : List QuantumStart) → old.timetable.due ≡ Some due → due < until → t ≡ placed due old.timetable → starts ≡ old.starts ++ start_of old ∷ []
    → Spent (record old { timetable = t; starts = starts; begun = false }) old.budget new → DueDone until old new (Ok true)
due_done old new until due t starts is below e more s = (
  due,
  s.0,
  s.1,
  s.2,
  is,
  below,
  s.3,
  s.4 ∙ ap (λ z. record old { course = s.2; timetable = timetable_after s.1 z; starts = starts; begun = false }) e
      ∙ ap (λ l. record old { course = s.2; timetable = timetable_after s.1 (placed due old.timetable); starts = l; begun = false }) more,
)

pub due_refused : (old : PlayerState) (until due : ℕ) (t : Timetable) (starts : List QuantumStart) (result : Result Bool NoMemory) → IsErr result → old.timetable.due ≡ Some due → due < until → t ≡ old.timetable → starts ≡ old.starts
    → DueDone until old (record old { timetable = t; starts = starts }) result
due_refused old until due t starts (Ok b) w is below e same = absurd (let z : false ≡ true = w in cc)
due_refused old until due t starts (Err r) w is below e same =
    (due, is, below, ap (λ z. record old { timetable = z; starts = starts }) e ∙ ap (λ l. record old { starts = l }) same)
