-- The measurements of a run promise that it finds room.
use Rattle.std.proofs.Common.{◌≡◌, ℕ, ◌+◌, ◌*◌, ◌<◌, ◌≤◌, ◌==◌, ◌&&◌, ◌⊎◌, inl, inr, Bool, true, false, if◌then◌else◌, nat_lt, nat_le, min, List, [], ◌∷◌, Option, Some, None, ap, ◌∙◌, sym, subst, arith, refl}
use Rattle.std.proofs.lemmas.Bool.{cases_lt}
use Rattle.std.specs.Prelude.{MatchOption}
use Rattle.graph_heap.specs.declared.command.Limits.{Limits}
use Rattle.size_classes.specs.declared.config.Config.{Config}
use Rattle.size_classes.specs.declared.config.TheConstants.{LEAST_BUDGET}
use Rattle.heap_model.specs.State.{HeapState}
use Rattle.heap_model.specs.Settings.{settings_of, settings_by}
use Rattle.heap_model.specs.Opening.{IsOpening}
use Rattle.heap_model.specs.Event.{Course, Event, Command_done, Cycle_begun, Begin_refused, Quantum_done, Quantum_refused, Runs, HaveBudgets}
use Rattle.heap_model.specs.ReachedFrom.{opened}
use Rattle.size_classes.specs.declared.class.TheConstants.{CLASSES}
use Rattle.space.specs.Pace.{Pace, opening_beat, AllKeepPace}
use Rattle.space.specs.Space.{pages_for}
use Rattle.space.specs.Fitting.{pace_in, spare_in, below_in, FitsIn}
use Rattle.space.proofs.Fittings.Configured.{pace_configured}
use Rattle.fragmentation.specs.Season.{Season, opening_season}
use Rattle.fragmentation.specs.Suffice.{WithinPages, sparse_pages}
use Rattle.fragmentation.specs.Configured.{MovesAll, FitsTogether}
use Rattle.fragmentation.proofs.Configured.{joint_configured, moving_configured, page_demand_configured}
use Rattle.sizing.specs.declared.needed.Needed.{Needed}
use Rattle.sizing.specs.declared.measured.Measured.{Measured}
use Rattle.sizing.specs.Measured.{IsMeasured, AreLeast, CanBeStated, KeepTogether, KeepGathered, together_in, page_demand_in, IsLeastPace, IsLeastBudget, IsPaceStated, least_units, HasUnits}
use Rattle.sizing.specs.Reckoned.{still_pages, moved_pages, moves_all, needed_pages}
use Rattle.sizing.specs.Promises.{EachFindsRoom, NeedNoMore, Suffices, Promises}
use Rattle.sizing.proofs.Meters.Seasons.{keep_looser}

-- each quantum that is done has a budget that is allowed
pub run_budgets : (es : List Event) (r new : Course) → Runs r es new → HaveBudgets LEAST_BUDGET es
run_budgets [] r new runs = tt
run_budgets (Command_done m c reply ∷ es) r new runs = run_budgets es runs.0 new runs.2
run_budgets (Cycle_begun ∷ es) r new runs = run_budgets es runs.0 new runs.2
run_budgets (Begin_refused ∷ es) r new runs = run_budgets es runs.0 new runs.2
run_budgets (Quantum_done budget units phase ∷ es) r new runs = (runs.1.allowed.0, run_budgets es runs.0 new runs.2)
run_budgets (Quantum_refused budget ∷ es) r new runs = run_budgets es runs.0 new runs.2

-- what is said of what an option holds
in_some : {A : Type 0} (o : Option A) (x : A) (None_so : Type 0) (So : A → Type 0) → o ≡ Some x → MatchOption o None_so So → So x
in_some o x None_so So e v = subst (λ z. MatchOption z None_so So) e v

-- a run has quanta of the least units that were measured
units_kept : (config : Config) (es : List Event) (o : Option ℕ) → MatchOption o ((k : ℕ) → HaveBudgets k es) (IsLeastBudget es) → HaveBudgets (least_units config o) es
units_kept config es None v = v (config.collector_ticks * config.rate)
units_kept config es (Some least) v = (v (min least (config.collector_ticks * config.rate))).1 (omega arith)

-- the least of three numbers
one_of : (a b d pages : ℕ) → min a (min b d) ≤ pages → (a ≤ pages) ⊎ ((b ≤ pages) ⊎ (d ≤ pages))
one_of a b d pages h = by (cases_lt pages a) (cases_lt pages b)
  where
    by : (pages < a) ⊎ (a ≤ pages) → (pages < b) ⊎ (b ≤ pages) → (a ≤ pages) ⊎ ((b ≤ pages) ⊎ (d ≤ pages))
    by (inr l) o = inl l
    by (inl more) (inr l) = inr (inl l)
    by (inl more) (inl much) = inr (inr (omega (arith, h, more, much)))

-- enough pages for what was needed together fit
fits_together : (c : Config) (n : Needed) → moved_pages c n ≤ c.pages → FitsTogether c (together_in n)
fits_together c n h = one_of (pages_for (together_in n) (spare_in c) CLASSES) (still_pages n + below_in c) (sparse_pages (together_in n) + spare_in c) c.pages h

-- if nothing is moved no page is spared
still_spare : (c : Config) → c.defrag_below ≡ 0 → spare_in c ≡ 0
still_spare c e = ap (λ z. if z == 0 then 0 else c.defrag_pages) e

each_together : (c : Config) (n : Needed) → FitsTogether c (together_in n) → EachFindsRoom c (KeepTogether (together_in n))
each_together c n fits = λ h es new o same runs keeps. joint_configured c h o same c.pages_in_range.0 es new keeps.0 runs (together_in n) keeps.1 fits

-- what keeps within pages keeps within more
within_more : (few many : ℕ) → few ≤ many → (s : Season) (asked : ℕ → ℕ) → WithinPages few s asked → WithinPages many s asked
within_more few many l s asked w = omega (arith, l, w)

each_gathered : (c : Config) (pages : ℕ) → MovesAll c → pages ≤ c.pages → EachFindsRoom c (KeepGathered pages)
each_gathered c pages moves enough = λ h es new o same runs keeps.
    moving_configured c h o same c.pages_in_range.0 es new keeps.0 runs moves (keep_looser (WithinPages pages) (WithinPages c.pages) (within_more pages c.pages enough) keeps.0 (opening_season h.limits) es keeps.1)

pub suffices : (n : Needed) → Suffices n
suffices n = record {
  still = λ c none enough. each_together c n (inl (subst (λ z. pages_for (together_in n) z CLASSES ≤ c.pages) (sym (still_spare c none)) enough));
  moved = λ c enough. each_together c n (fits_together c n enough);
  gathered = λ c moves enough. each_gathered c n.gathered moves enough;
  page_demand = λ c moves enough h es new o same runs keeps. page_demand_configured c h o same c.pages_in_range.0 es new keeps.0 runs (page_demand_in n) moves keeps.1 keeps.2 enough;
}

-- a configuration that gathers every class
all_moved : (c : Config) → moves_all c ≡ true → MovesAll c
all_moved c e = record { always = first c.pages c.defrag_below c.defrag_pages e; all = second c.pages c.defrag_below c.defrag_pages e }
  where
    first : (a b d : ℕ) → (nat_lt a b && nat_le a d) ≡ true → a < b
    first a b d e = grind arith

    second : (a b d : ℕ) → (nat_lt a b && nat_le a d) ≡ true → a ≤ d
    second a b d e = grind arith

each_needed : (c : Config) (n : Needed) → needed_pages c n ≤ c.pages → EachFindsRoom c (NeedNoMore n)
each_needed c n enough = by (moves_all c) refl enough
  where
    by : (b : Bool) → moves_all c ≡ b → (if b then min (moved_pages c n) n.gathered else moved_pages c n) ≤ c.pages → EachFindsRoom c (NeedNoMore n)
    by false e h = λ g es new o same runs keeps. (suffices n).moved c h g es new o same runs keeps.0
    by true e h = elim (cases_lt c.pages (moved_pages c n)) [
      | inl more ↦ (λ g es new o same runs keeps. (suffices n).gathered c (all_moved c e) (omega (arith, h, more)) g es new o same runs keeps.1)
      | inr enough ↦ (λ g es new o same runs keeps. (suffices n).moved c enough g es new o same runs keeps.0)
    ]

-- a run needs no more than was measured of it
needs_itself : (l : Limits) (es : List Event) (n : Needed) → AreLeast l es n → NeedNoMore n l es
needs_itself l es n is = ((is.together (together_in n)).1 (λ class low. omega arith), (is.gathered n.gathered).1 (omega arith))

module _ (config : Config) where
  each_by_pace : (slow : Config) (p : Pace) (units : ℕ) → HasUnits config units slow → FitsIn slow p slow.pages → EachFindsRoom config (λ l. AllKeepPace p units (opening_beat l))
  each_by_pace slow p units has fits = λ h es new o same runs keeps.
      pace_configured slow h o (same ∙ sym has.same) es new p slow.pages_in_range.0 slow.budget_in_range.0 runs (subst (λ k. AllKeepPace p k (opening_beat h.limits) es) (sym has.budget) keeps) fits

  pub promised : (h : HeapState) (es : List Event) (new : Course) (m : Measured) → IsOpening h → settings_of h ≡ settings_by config → Runs (opened h) es new → IsMeasured h.limits es m → Promises config es m
  promised h es new m o same runs is = record {
    needed = λ n e enough.
        let each = each_needed config n enough in
        (each h es new o same runs (needs_itself h.limits es n (in_some m.needed n (CanBeStated h.limits es → ⊥) (AreLeast h.limits es) e is.needed)), each);
    others = λ n e. suffices n;
    pace = λ p slow e has fits.
        let each = each_by_pace slow (pace_in p) (least_units config m.budget) has fits in
        let least = in_some m.pace p ((q : Pace) (k : ℕ) → IsPaceStated q → AllKeepPace q k (opening_beat h.limits) es → ⊥) (λ t. IsLeastPace h.limits es (pace_in t)) e is.pace in
        (each h es new o same runs ((least (pace_in p) (least_units config m.budget)).1 ((λ class low. (omega arith, omega arith, omega arith)), units_kept config es m.budget is.budget)), each);
  }
