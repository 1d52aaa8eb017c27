-- A run that keeps to a flow keeps within its pages.
use Rattle.std.proofs.Common.{◌≡◌, ℕ, ◌+◌, ◌<◌, ◌≤◌, Bool, true, false, ◌==◌, if◌then◌else◌, List, [], ◌∷◌, length, ap, ◌∙◌, sym, subst, arith, refl}
use Rattle.graph_heap.specs.History.{after_entry}
use Rattle.heap_model.specs.State.{HeapState}
use Rattle.heap_model.specs.Opening.{IsOpening}
use Rattle.heap_model.specs.ReachedFrom.{opened}
use Rattle.heap_model.specs.Event.{Course, Event, Command_done, Cycle_begun, Begin_refused, Quantum_done, Quantum_refused, Runs}
use Rattle.heap_model.specs.Phases.{awaits_sweep_end}
use Rattle.heap_model.proofs.Event.Kept.{opening_course}
use Rattle.space.specs.Demand.{LiveWithin}
use Rattle.space.specs.Tally.{EveryNewFindsRoom}
use Rattle.fragmentation.specs.Season.{Season, Lives, opening_season, season_swept, season_after, Keeps, AllKeep}
use Rattle.fragmentation.specs.Suffice.{WithinPages, GathersAll}
use Rattle.fragmentation.specs.Flow.{Flow, FlowMeter, opening_meter, next_meter, Paces, KeepsFlow, AllMetered, traced_words, flow_pages, sweep_quanta, FlowFits}
use Rattle.fragmentation.proofs.Season.{BeginsWithin, opening_counted}
use Rattle.fragmentation.proofs.Suffice.Moving.{moving_suffices}
use Rattle.fragmentation.proofs.Flows.Kept.{lives_of, FitsFlow, lives_few, opening_flowing}
use Rattle.fragmentation.proofs.Flows.Quanta.{Flows}
use Rattle.fragmentation.proofs.Flows.Flowing.{flow_within, flows_next}

same_number : (n : ℕ) → (n == n) ≡ true
same_number n = grind arith

other_number : (j n : ℕ) → n < j → (j == n) ≡ false
other_number j n l = grind arith

-- each of the events keeps to the flow's pace, and if it begins a cycle, what is live needs no more than was said
abbrev pub AllFlow : Flow → ℕ → Lives → Season → FlowMeter → List Event → Type 0
AllFlow f k live s t [] = Unit {0}
AllFlow f k live s t (e ∷ es) = Paces f t e × BeginsWithin live s e × AllFlow f k live (season_after live s e) (next_meter k t e) es

module _ (f : Flow) (k : ℕ) (live : Lives) where
  -- from here on the events have the stated need of live objects
  abbrev Agrees : Season → Lives → Type 0
  Agrees s rest = (j : ℕ) → s.cycles < j → live j ≡ rest j

  cycles_stay : (s : Season) (a b : Bool) → (if a then s else (if b then season_swept live s else s)).cycles ≡ s.cycles
  cycles_stay s true b = refl
  cycles_stay s false true = refl
  cycles_stay s false false = refl

  graph_stays : (s : Season) (a b : Bool) → (if a then s else (if b then season_swept live s else s)).graph ≡ s.graph
  graph_stays s true b = refl
  graph_stays s false true = refl
  graph_stays s false false = refl

  pub all_flow : (es : List Event) (s : Season) (t : FlowMeter) → t.graph ≡ s.graph → (keeps : AllMetered k (KeepsFlow f) t es) → Agrees s (lives_of f k s.cycles es t keeps) → AllFlow f k live s t es
  all_flow [] s t same keeps agrees = tt
  all_flow (Command_done m c reply ∷ es) s t same keeps agrees = (keeps.0.0, tt, all_flow es _ _ (ap (λ g. after_entry g (record { mutator = m; command = c; reply = reply })) same) keeps.1 agrees)
  all_flow (Cycle_begun ∷ es) s t same keeps agrees = (
    tt,
    subst (LiveWithin s.graph) (sym first) (subst (λ z. LiveWithin z keeps.0.1.blocks) same keeps.0.1.within),
    all_flow es _ _ same keeps.1 (λ j l. later j l),
  )
    where
      rest : Lives
      rest = lives_of f k (s.cycles + 1) es (next_meter k t Cycle_begun) keeps.1

      first : live (s.cycles + 1) ≡ keeps.0.1.blocks
      first = agrees (s.cycles + 1) (omega arith) ∙ ap (λ b. if b then keeps.0.1.blocks else rest (s.cycles + 1)) (same_number (s.cycles + 1))

      later : (j : ℕ) → s.cycles + 1 < j → live j ≡ rest j
      later j l = agrees j (omega (arith, l)) ∙ ap (λ b. if b then keeps.0.1.blocks else rest j) (other_number j (s.cycles + 1) l)
  all_flow (Begin_refused ∷ es) s t same keeps agrees = (tt, tt, all_flow es s t same keeps.1 agrees)
  all_flow (Quantum_done budget units phase ∷ es) s t same keeps agrees = (
    tt,
    tt,
    all_flow es _ _ (same ∙ sym (graph_stays s (awaits_sweep_end phase) s.awaiting_sweep_end)) keeps.1
        (λ j l. agrees j (subst (λ z. z < j) same_cycles l) ∙ ap (λ z. lives_of f k z es (next_meter k t (Quantum_done budget units phase)) keeps.1 j) (sym same_cycles)),
  )
    where
      same_cycles : (season_after live s (Quantum_done budget units phase)).cycles ≡ s.cycles
      same_cycles = cycles_stay s (awaits_sweep_end phase) s.awaiting_sweep_end
  all_flow (Quantum_refused budget ∷ es) s t same keeps agrees = (tt, tt, all_flow es s t same keeps.1 agrees)

module _ (h : HeapState) (f : Flow) (k : ℕ) (great : 0 < k) (live : Lives) (lives : (n : ℕ) → FitsFlow f (live n)) (traced : traced_words f (sweep_quanta f (length h.roots) (length h.store.pages) k) ≤ f.cycle_words) where
  abbrev most : ℕ
  most = flow_pages f (sweep_quanta f (length h.roots) (length h.store.pages) k)

  within : (r : Course) (s : Season) (t : FlowMeter) (e : Event) → Flows h f k great live lives traced r s t → Paces f t e → BeginsWithin live s e → Keeps (WithinPages most) live s e
  within r s t (Command_done m c reply) w paces lives1 = flow_within h f k great live lives traced r s t m c reply w paces
  within r s t Cycle_begun w paces lives1 = lives1
  within r s t Begin_refused w paces lives1 = tt
  within r s t (Quantum_done budget units phase) w paces lives1 = tt
  within r s t (Quantum_refused budget) w paces lives1 = tt

  pub flows_keep : (es : List Event) (r new : Course) (s : Season) (t : FlowMeter) → Flows h f k great live lives traced r s t → Runs r es new → AllFlow f k live s t es → AllKeep (WithinPages most) live s es
  flows_keep [] r new s t w runs all = tt
  flows_keep (e ∷ es) r new s t w runs all = (
    within r s t e w all.0 all.1,
    flows_keep es runs.0 new _ _ (flows_next h f k great live lives traced r runs.0 e s t w all.0 all.1 runs.1) runs.2 all.2,
  )

-- The flow begins in an opening heap.
module _ (h : HeapState) (es : List Event) (f : Flow) (k : ℕ) (great : 0 < k) (o : IsOpening h) (some : 0 < length h.store.pages) (keeps : AllMetered k (KeepsFlow f) (opening_meter h.limits) es) (traced : traced_words f (sweep_quanta f (length h.roots) (length h.store.pages) k) ≤ f.cycle_words) where
  abbrev pub live : Lives
  live = lives_of f k 0 es (opening_meter h.limits) keeps

  pub lives : (n : ℕ) → FitsFlow f (live n)
  lives = lives_few f k 0 es (opening_meter h.limits) keeps

  pub opening_flows : Flows h f k great live lives traced (opened h) (opening_season h.limits) (opening_meter h.limits)
  opening_flows = record { course = opening_course h o some; counted = opening_counted h o some live; flowing = opening_flowing h f k live o }

  pub flow_all : AllFlow f k live (opening_season h.limits) (opening_meter h.limits) es
  flow_all = all_flow f k live es (opening_season h.limits) (opening_meter h.limits) refl keeps (λ j l. refl)

wider : (live : Lives) (a b : ℕ) (es : List Event) (s : Season) → a ≤ b → AllKeep (WithinPages a) live s es → AllKeep (WithinPages b) live s es
wider live a b [] s l keeps = tt
wider live a b (Command_done m c reply ∷ es) s l keeps = ((let n = keeps.0 in omega (arith, l, n)), wider live a b es _ l keeps.1)
wider live a b (Cycle_begun ∷ es) s l keeps = (keeps.0, wider live a b es _ l keeps.1)
wider live a b (Begin_refused ∷ es) s l keeps = (keeps.0, wider live a b es _ l keeps.1)
wider live a b (Quantum_done budget units phase ∷ es) s l keeps = (keeps.0, wider live a b es _ l keeps.1)
wider live a b (Quantum_refused budget ∷ es) s l keeps = (keeps.0, wider live a b es _ l keeps.1)

pub flow_suffices : (h : HeapState) (es : List Event) (new : Course) (f : Flow) (k : ℕ) → 0 < k → IsOpening h → 0 < length h.store.pages → GathersAll h → Runs (opened h) es new → AllMetered k (KeepsFlow f) (opening_meter h.limits) es
    → FlowFits f k h → EveryNewFindsRoom es
flow_suffices h es new f k great o some all runs keeps fits =
    moving_suffices h es new lived o some all runs
    (wider lived (flow_pages f (sweep_quanta f (length h.roots) (length h.store.pages) k)) (length h.store.pages) es (opening_season h.limits) fits.enough
    (flows_keep h f k great lived (lives h es f k great o some keeps fits.traced) fits.traced es (opened h) new (opening_season h.limits) (opening_meter h.limits) (opening_flows h es f k great o some keeps fits.traced) runs (flow_all h es f k great o some keeps fits.traced)))
  where
    lived : Lives
    lived = live h es f k great o some keeps fits.traced
