-- From a heap that was just made no object is refused for lack of space.
use Rattle.std.proofs.Common.{◌≡◌, ℕ, ◌*◌, ◌<◌, Bool, true, List, [], ◌∷◌, length, ap, sym, subst, arith, refl}
use Rattle.std.specs.List.{AllByRecursion}
use Rattle.size_classes.specs.declared.config.Config.{Config}
use Rattle.size_classes.specs.Config.{limits_of}
use Rattle.graph_heap.specs.declared.command.Command.{Command}
use Rattle.graph_heap.specs.declared.command.Limits.{Limits}
use Rattle.heap_model.specs.State.{HeapState}
use Rattle.heap_model.specs.Settings.{HeapSettings}
use Rattle.heap_model.specs.Event.{Event, Command_done, Cycle_begun, Begin_refused, Quantum_done, Quantum_refused}
use Rattle.heap_model.specs.ReachedFrom.{opened}
use Rattle.heap_model.specs.Phases.{awaits_sweep_end}
use Rattle.heap_model.proofs.Event.Kept.{opening_course}
use Rattle.space.specs.Demand.{asked_for}
use Rattle.space.specs.Room.{asks}
use Rattle.space.proofs.Rooms.{asks_less}
use Rattle.space.proofs.Fittings.Configured.{some as has_some}
use Rattle.fragmentation.specs.Flow.{Flow, FlowMeter, opening_meter, next_meter, OnlyMade, Paces, LivesIn, KeepsFlow, AllMetered}
use Rattle.fragmentation.specs.Configured.{MovesAll, FlowFitsIn}
use Rattle.fragmentation.proofs.Configured.{flow_configured}
use Rattle.paced.specs.declared.plan.Plan.{Plan}
use Rattle.paced.specs.Pacing.{Counts, PacedState, Path, KeepsPlan}
use Rattle.paced.specs.Rooms.{planned_flow, flow_for, AsksOnly, IsJustPaced, FindsRoom}
use Rattle.paced.proofs.Running.{IsKept, follows}

-- what a command asks for is no more than it asks for at most, of each class
asks_made : (f : Flow) (t : FlowMeter) (m : ℕ) (c : Command) → OnlyMade f (asks c) → OnlyMade f (asked_for t.graph m c)
asks_made f t m c only = λ class low none. (let l = asks_less t.graph m c class in let n = only class low none in omega (arith, l, n))

module _ (makes : ℕ → Bool) (f : Flow) (k : ℕ) where
  abbrev narrow : Flow
  narrow = record f { makes = makes }

  paces_so : (t : FlowMeter) (e : Event) → AsksOnly narrow e → Paces f t e → Paces narrow t e
  paces_so t (Command_done m c reply) only p = (p.0, asks_made narrow t m c only)
  paces_so t Cycle_begun only p = tt
  paces_so t Begin_refused only p = tt
  paces_so t (Quantum_done budget units phase) only p = tt
  paces_so t (Quantum_refused budget) only p = tt

  -- events that keep to a flow, and ask for blocks of these classes alone, keep to the flow of these
  pub all_pace_so : (es : List Event) (t : FlowMeter) → AllByRecursion (AsksOnly narrow) es → AllMetered k (Paces f) t es → AllMetered k (Paces narrow) t es
  all_pace_so [] t only p = tt
  all_pace_so (e ∷ es) t only p = (paces_so t e only.0 p.0, all_pace_so es (next_meter k t e) only.1 p.1)

-- what keeps to a flow's pace, and is within it where cycles begin, keeps to the flow
pub keeps_both : (f : Flow) (k : ℕ) (es : List Event) (t : FlowMeter) → AllMetered k (Paces f) t es → AllMetered k (LivesIn f) t es → AllMetered k (KeepsFlow f) t es
keeps_both f k [] t p l = tt
keeps_both f k (e ∷ es) t p l = ((p.0, l.0), keeps_both f k es (next_meter k t e) p.1 l.1)

-- a command asks for blocks of no class but those that there are
pub asks_all : (live : ℕ) (plan : Plan) (es : List Event) → AllByRecursion (AsksOnly (planned_flow live plan)) es
asks_all live plan [] = tt
asks_all live plan (e ∷ es) = (asks_any e, asks_all live plan es)
  where
    asks_any : (e : Event) → AsksOnly (planned_flow live plan) e
    asks_any (Command_done m c reply) = λ class low none. absurd (cc)
    asks_any Cycle_begun = tt
    asks_any Begin_refused = tt
    asks_any (Quantum_done budget units phase) = tt
    asks_any (Quantum_refused budget) = tt

module _ (makes : ℕ → Bool) (config : Config) (plan : Plan) (live : ℕ) (old new : PacedState) (es : List Event) (o : IsJustPaced config plan old) where
  abbrev h : HeapState
  h = old.heap

  abbrev k : ℕ
  k = config.collector_ticks * config.rate

  some : 0 < length h.store.pages
  some = has_some config h o.heap o.settings config.pages_in_range.0

  limits : h.limits ≡ limits_of config
  limits = ap (λ (s : HeapSettings). s.limits) o.settings

  pub kept : IsKept plan live k (opened h) old (opening_meter h.limits)
  kept = record {
    course = opening_course h o.heap some;
    heap = refl;
    graph = refl;
    awaiting = sym (ap awaits_sweep_end o.heap.phase);
    fewer = omega arith;
    plan_is = ap (λ (z : Counts). z.plan) o.counts;
    budget_is = ap (λ (z : Counts). z.budget) o.counts;
    quanta = (let q : old.counts.quanta ≡ 0 = ap (λ (z : Counts). z.quanta) o.counts in omega (arith, q));
    cycle = (let n = none in omega (arith, n));
    allowed = λ on. (let n = none in omega (arith, n));
  }
    where
      none : old.counts.words ≡ 0
      none = ap (λ (z : Counts). z.words) o.counts

  -- no object is refused a program that asks for blocks of these classes alone
  pub finds_room_for : MovesAll config → FlowFitsIn config (flow_for makes live plan) → AllByRecursion (AsksOnly (flow_for makes live plan)) es → Path KeepsPlan old es new → FindsRoom config (flow_for makes live plan) old.heap new.heap es
  finds_room_for moves f only p =
      let x = follows plan live k es (opened h) old new (opening_meter h.limits) kept p in
      let paces = all_pace_so makes (planned_flow live plan) k es (opening_meter h.limits) only x.paces in
      record {
        course = x.course;
        heap = x.heap;
        runs = x.runs;
        paces = subst (λ (l : Limits). AllMetered k (Paces (flow_for makes live plan)) (opening_meter l) es) limits paces;
        room = λ lives. flow_configured config h o.heap o.settings config.pages_in_range.0 es x.course (λ n class. 0) x.runs (flow_for makes live plan) moves config.budget_in_range.0
            (keeps_both (flow_for makes live plan) k es (opening_meter h.limits) paces (subst (λ (l : Limits). AllMetered k (LivesIn (flow_for makes live plan)) (opening_meter l) es) (sym limits) lives)) f;
      }

-- nor is any refused a program that asks for blocks of whatever classes
pub finds_room : (config : Config) (plan : Plan) (live : ℕ) (old new : PacedState) (es : List Event) → IsJustPaced config plan old → MovesAll config → FlowFitsIn config (planned_flow live plan) → Path KeepsPlan old es new → FindsRoom config (planned_flow live plan) old.heap new.heap es
finds_room config plan live old new es made moves f p = finds_room_for (λ class. true) config plan live old new es made moves f (asks_all live plan es) p
