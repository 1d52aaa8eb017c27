-- Plans that shared heaps keep.
use Rattle.std.proofs.Common.{◌≡◌, ◌<◌, ℕ, ◌*◌, List, [], ◌∷◌, ◌++◌, length, refl, sym, ap, ◌∙◌, subst, Some, None}
use Rattle.std.specs.Prelude.{Option}
use Rattle.std.specs.Option.{option_map}
use Rattle.graph_heap.specs.declared.command.Command.{Command}
use Rattle.graph_heap.specs.declared.command.Reply.{Reply}
use Rattle.size_classes.specs.declared.config.Config.{Config}
use Rattle.heap_model.specs.Event.{Event, Command_done}
use Rattle.heap_model.specs.Opening.{IsOpening}
use Rattle.heap_model.specs.ReachedFrom.{opened}
use Rattle.heap_model.specs.Settings.{settings_of, settings_by}
use Rattle.heap_model.specs.State.{HeapState}
use Rattle.fragmentation.specs.Configured.{MovesAll, FlowFitsIn}
use Rattle.machine.specs.Plan.{Steps}
use Rattle.paced.specs.declared.cycles.Cycles.{Cycles}
use Rattle.paced.specs.declared.plan.Plan.{Plan}
use Rattle.paced.specs.Pacing.{PacerView, PacedState, state_by, Path, KeepsPlan, MakesNothing}
use Rattle.paced.specs.Rooms.{planned_flow, first_counts, first_pacer, no_figures, FindsRoom}
use Rattle.paced.proofs.Opened.{finds_room}
use Rattle.paced.proofs.Paths.{path_then, path_plan, other_path}
use Rattle.heap_shared.specs.declared.shared_heap.SharedConfig.{SharedConfig}
use Rattle.heap_shared.specs.Past.{LogView, course_of, touched_heap}
use Rattle.heap_shared.specs.Ring.{Ringed, KeepsBy, HasKept, IsAsAsked}
use Rattle.heap_shared.proofs.Pasts.{touched_led}

-- if a plan is asked for, the new pacer has it
pub plan_first : (plan : Option Plan) (budget : ℕ) → option_map (λ (p : PacerView). p.counts.plan) (option_map (λ (x : Plan). first_pacer budget x) plan) ≡ plan
plan_first None budget = refl
plan_first (Some plan) budget = refl

pub figures_first : (plan : Option Plan) (budget : ℕ) → option_map (λ (p : PacerView). p.figures) (option_map (λ (x : Plan). first_pacer budget x) plan) ≡ option_map (λ (x : Plan). no_figures) plan
figures_first None budget = refl
figures_first (Some plan) budget = refl

pub kept_first : (plan : Option Plan) (budget : ℕ) (h : HeapState) → IsOpening h → HasKept (option_map (λ (x : Plan). first_pacer budget x) plan) budget [] h
kept_first None budget h opening = tt
kept_first (Some plan) budget h opening = (h, opening, refl, refl)

-- a heap that was just made, with an empty log
pub new_asked : (c : SharedConfig) (h : HeapState) (l : LogView) (d : Cycles) (p : Option PacerView) → IsOpening h → 0 < length h.store.pages → settings_of h ≡ settings_by c.config → l ≡ record { past = record { events = []; place = 0 }; kept = c.ring }
    → p ≡ option_map (λ (x : Plan). first_pacer (c.config.collector_ticks * c.config.rate) x) c.plan → IsAsAsked c (record { course = course_of h l.past; events = l.past.events; ring = l.kept; cycles = d; pacer = p })
new_asked c h l d p opening pages settings log paces =
    let budget = c.config.collector_ticks * c.config.rate in
    subst (λ (x : LogView). IsAsAsked c (record { course = course_of h x.past; events = x.past.events; ring = x.kept; cycles = d; pacer = p })) (sym log)
    (subst (λ (q : Option PacerView). IsAsAsked c (record { course = opened h; events = []; ring = c.ring; cycles = d; pacer = q })) (sym paces) (record {
      settings = settings;
      ring = refl;
      plan = plan_first c.plan budget;
      led = record { first = h; opening = opening; pages = pages; runs = refl };
      kept = kept_first c.plan budget h opening;
    }))

-- a command that makes no object keeps it
pub other_keeps : (p : Option PacerView) (h k : HeapState) (m : ℕ) (c : Command) (reply : Reply) → MakesNothing c → Steps h m c reply k → KeepsBy p h (Command_done m c reply ∷ []) p k
other_keeps None h k m c reply none steps = refl
other_keeps (Some p) h k m c reply none steps = other_path (state_by p h) m c reply k none steps

-- a plan that is kept stays
pub plan_still : (p q : Option PacerView) (h k : HeapState) (es : List Event) → KeepsBy p h es q k → option_map (λ x. x.counts.plan) q ≡ option_map (λ x. x.counts.plan) p
plan_still None q h k es keeps = ap (option_map (λ x. x.counts.plan)) keeps
plan_still (Some p) None h k es keeps = absurd keeps
plan_still (Some p) (Some q) h k es keeps = ap Some (path_plan KeepsPlan es (state_by p h) (state_by q k) keeps)

pub kept_still : (p q : Option PacerView) (budget : ℕ) (h k : HeapState) (was es : List Event) → settings_of k ≡ settings_of h → KeepsBy p h es q k → HasKept p budget was h → HasKept q budget (was ++ es) k
kept_still None None budget h k was es same keeps kept = tt
kept_still None (Some q) budget h k was es same keeps kept = absurd (let z : Some q ≡ None = keeps in cc)
kept_still (Some p) None budget h k was es same keeps kept = absurd keeps
kept_still (Some p) (Some q) budget h k was es same keeps kept =
    let first : Plan → PacedState = λ plan. record { heap = kept.0; counts = first_counts budget plan } in (
      kept.0,
      kept.1,
      kept.2 ∙ sym same,
      subst (λ plan. Path KeepsPlan (first plan) (was ++ es) (state_by q k)) (sym (path_plan KeepsPlan es (state_by p h) (state_by q k) keeps))
          (path_then KeepsPlan was es (first p.counts.plan) (state_by p h) (state_by q k) kept.3 keeps),
    )

-- a plan that was kept finds room
pub room_kept : (p : Option PacerView) (config : Config) (plan : Plan) (live budget : ℕ) (h : HeapState) (es : List Event) → option_map (λ x. x.counts.plan) p ≡ Some plan → budget ≡ config.collector_ticks * config.rate → settings_of h ≡ settings_by config
    → MovesAll config → FlowFitsIn config (planned_flow live plan) → HasKept p budget es h → (first : HeapState) × IsOpening first × FindsRoom config (planned_flow live plan) first h es
room_kept None config plan live budget h es planned is same moves fits kept = absurd (let z : None ≡ Some plan = planned in cc)
room_kept (Some p) config plan live budget h es planned is same moves fits kept =
    let at : p.counts.plan ≡ plan = (let z : Some p.counts.plan ≡ Some plan = planned in cc) in
    let old : PacedState = record { heap = kept.0; counts = first_counts budget p.counts.plan } in
    (kept.0, kept.1, finds_room config plan live old (state_by p h) es (record { heap = kept.1; settings = kept.2 ∙ same; counts = ap (λ n. first_counts n p.counts.plan) is ∙ ap (first_counts (config.collector_ticks * config.rate)) at }) moves fits kept.3)

-- events of which each keeps the plan
pub keeps_then : (p q s : Option PacerView) (h mid k : HeapState) (es fs : List Event) → KeepsBy p h es q mid → KeepsBy q mid fs s k → KeepsBy p h (es ++ fs) s k
keeps_then None None s h mid k es fs a b = b
keeps_then None (Some q) s h mid k es fs a b = absurd (let z : Some q ≡ None = a in cc)
keeps_then (Some p) None s h mid k es fs a b = absurd a
keeps_then (Some p) (Some q) None h mid k es fs a b = absurd b
keeps_then (Some p) (Some q) (Some s) h mid k es fs a b = path_then KeepsPlan es fs (state_by p h) (state_by q mid) (state_by s k) a b

pub keeps_none : (p : Option PacerView) (h : HeapState) → KeepsBy p h [] p h
keeps_none None h = refl
keeps_none (Some p) h = refl

-- pages are touched before the first event
kept_touched : (p : Option PacerView) (budget : ℕ) (h : HeapState) (pages : ℕ) (es : List Event) → es ≡ [] → HasKept p budget es h → HasKept p budget es (touched_heap h pages)
kept_touched None budget h pages es none kept = tt
kept_touched (Some p) budget h pages es none was =
    let o = was.1 in
    let counts = first_counts budget p.counts.plan in (
      touched_heap was.0 pages,
      record { pages = o.pages; roots = o.roots; live = o.live; next = o.next; phase = o.phase; units = o.units; grey = o.grey },
      was.2,
      subst (λ (xs : List Event). Path KeepsPlan (record { heap = touched_heap was.0 pages; counts = counts }) xs (state_by p (touched_heap h pages))) (sym none)
          (ap (λ (v : PacedState). record v { heap = touched_heap v.heap pages }) (subst (λ (xs : List Event). Path KeepsPlan (record { heap = was.0; counts = counts }) xs (state_by p h)) none was.3)),
    )

pub touched_asked : (c : SharedConfig) (r : Ringed) (pages : ℕ) → r.events ≡ [] → IsAsAsked c r → IsAsAsked c (record r { course = record r.course { heap = touched_heap r.course.heap pages } })
touched_asked c r pages none asked = record {
  settings = asked.settings;
  ring = asked.ring;
  plan = asked.plan;
  led = touched_led r.events r.course pages none asked.led;
  kept = kept_touched r.pacer (c.config.collector_ticks * c.config.rate) r.course.heap pages r.events none asked.kept;
}
