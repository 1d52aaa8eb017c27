-- The cost of calls of a program on a handle whose heap keeps a plan.
use Rattle.std.specs.Prelude.{◌≡◌, ◌⊎◌, ℕ, ◌≤◌, List, [], ◌∷◌, ◌++◌, length, Ok, Err}
use Rattle.std.specs.List.{AllByRecursion}
use Rattle.graph_heap.specs.declared.command.Command.{Command}
use Rattle.graph_heap.specs.declared.command.Reply.{Reply}
use Rattle.heap_model.specs.Event.{Event, quanta_in}
use Rattle.paced.specs.Bounds.{words_in, Deed, without_work, events_of, words_asked, AsksWithin, LastsWith, LiveWithinPlan, KeepsToWords, IsShort, BeginsNone, IsFree}
use Rattle.bulk.specs.declared.progress.Progress.{Progress}
use Rattle.bulk.specs.InOrder.{events_of as commands_done, with_refusal}
use Rattle.metronome_c.specs.declared.bulk_calls.MetronomeProgress.{MetronomeProgress}
use Rattle.metronome_c.specs.declared.own_heap.OwnHeap.{OwnHeap}
use Rattle.metronome_c.specs.declared.planning.MetronomeFlow.{MetronomeFlow}
use Rattle.metronome_c.specs.declared.status.Status.TheVariants.{AbovePlan}
use Rattle.metronome_c.specs.BulkCalls.{progress_told}
use Rattle.metronome_c.specs.Calls.{Call, TellsEvent}
use Rattle.metronome_c.specs.KeptCalls.{KeptCall, Called, List_called, Prepare_called, AreWork, IsRefusedAbove, WasPiece, WereEvents}
use Rattle.metronome_c.specs.Planning.{plan_in}

-- The first event has the collector's work before it, and the others have none. If there is no event, the work stands alone.
abbrev pub paid_first : List Event → List Event → List Deed
paid_first work [] = without_work work
paid_first work (e ∷ es) = record { work = work; event = e } ∷ without_work es

-- A call was these deeds. It was one, of which it told the outcome, with the collector's own work before it. It was none if it
-- asked for an object above the plan.
abbrev pub WasDeed : List Deed → Call → Type 0
WasDeed ds call = ((ds ≡ []) × IsRefusedAbove call)
    ⊎ ((d : Deed) × (ds ≡ d ∷ []) × AreWork d.work × TellsEvent d.event call)

-- A list of commands of mutator m was these deeds: its commands, as far as it told. The first has the collector's own work
-- before it. It was none if its object was above the plan.
abbrev pub WasDeedList : List Deed → ℕ → List Command → MetronomeProgress → Type 0
WasDeedList ds m cs told = ((ds ≡ []) × (told ≡ progress_told (Err AbovePlan)))
    ⊎ ((work : List Event) × (rs : List Reply) × (p : Progress)
    × (ds ≡ paid_first work (commands_done m cs (with_refusal rs p.refused)))
    × AreWork work × (p.done ≡ length rs) × (told ≡ progress_told (Ok p)))

-- a call was these deeds, whichever it was
abbrev pub WasDeeds : List Deed → KeptCall → Type 0
WasDeeds ds (Called call) = WasDeed ds call
WasDeeds ds (List_called m cs told) = WasDeedList ds m cs told
WasDeeds ds (Prepare_called words before after status) = (es : List Event) × (ds ≡ without_work es) × WasPiece es

-- the calls were these deeds, one call after the other
abbrev pub WereDeeds : List Deed → List KeptCall → Type 0
WereDeeds ds [] = ds ≡ []
WereDeeds ds (call ∷ calls) = (first : List Deed) × (rest : List Deed) × (ds ≡ first ++ rest) × WasDeeds first call
    × WereDeeds rest calls

-- the collector works for it only if it asks for words
abbrev pub WorksForWords : Deed → Type 0
WorksForWords d = words_in d.event ≡ 0 → d.work ≡ []

-- if an object has no more words than a quantum of the plan, the collector spends one quantum at most for it
abbrev pub IsCheap : MetronomeFlow → Deed → Type 0
IsCheap flow d = words_in d.event ≤ flow.quantum_words → quanta_in d.work ≤ 1

-- Live objects keep to the plan whenever a cycle began, before or in the stretch. Then the collector's work keeps to the words
-- of the stretch, if the plan leaves room for the largest object. Each object costs few quanta, whether it does or not.
pub record CostsFew (h : OwnHeap) (flow : MetronomeFlow) (earlier : List Event) (ds : List Deed) : Type 0 where
  pub keeps : (largest : ℕ) → LastsWith h.config (plan_in flow) flow.live_words largest
      → AllByRecursion (AsksWithin largest) ds
      → LiveWithinPlan h.config (plan_in flow) flow.live_words (earlier ++ events_of ds)
      → KeepsToWords (plan_in flow) flow.budget ds
  pub each : LiveWithinPlan h.config (plan_in flow) flow.live_words (earlier ++ events_of ds)
      → AllByRecursion (IsShort (plan_in flow) 0) ds
  pub cheap : LiveWithinPlan h.config (plan_in flow) flow.live_words (earlier ++ events_of ds)
      → AllByRecursion (IsCheap flow) ds
  pub only : AllByRecursion WorksForWords ds

-- The calls before a stretch were events, and those of the stretch were deeds, which cost few quanta.
pub record KeepsCosts (h : OwnHeap) (flow : MetronomeFlow) (before stretch : List KeptCall) : Type 0 where
  pub earlier : List Event
  pub deeds : List Deed
  pub were_before : WereEvents earlier before
  pub were : WereDeeds deeds stretch
  pub costs : CostsFew h flow earlier deeds

-- The calls of a stretch were deeds. The collector did nothing for them, if they asked for no more words in all than the program had
-- prepared for, and none of them began a cycle.
pub record AreFree (words : ℕ) (stretch : List KeptCall) : Type 0 where
  pub deeds : List Deed
  pub were : WereDeeds deeds stretch
  pub free : AllByRecursion BeginsNone deeds → words_asked deeds ≤ words → AllByRecursion IsFree deeds

-- the calls prepare for this number of words, one after the other
abbrev pub PrepareFor : ℕ → List KeptCall → Type 0
PrepareFor words [] = Unit {0}
PrepareFor words (Prepare_called n before after status ∷ calls) = (n ≡ words) × PrepareFor words calls
PrepareFor words (call ∷ calls) = ⊥

-- the number of calls left that the last of them told, or the number before
abbrev pub last_left : ℕ → List KeptCall → ℕ
last_left left [] = left
last_left left (Prepare_called n before after status ∷ calls) = last_left after calls
last_left left (call ∷ calls) = last_left left calls

-- The calls before were events, and those that prepare were the collector's own work. None is left at last, if the plan leaves
-- room for the words, and live objects keep to the plan whenever a cycle began.
pub record EndsSoon (h : OwnHeap) (flow : MetronomeFlow) (before : List KeptCall) (words left : ℕ) (row : List KeptCall)
    : Type 0 where
  pub earlier : List Event
  pub work : List Event
  pub were_before : WereEvents earlier before
  pub are_work : AreWork work
  pub ends : LastsWith h.config (plan_in flow) flow.live_words words
      → LiveWithinPlan h.config (plan_in flow) flow.live_words (earlier ++ work) → last_left left row ≡ 0
