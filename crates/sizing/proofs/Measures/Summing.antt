-- The measurements, in the end.
use Rattle.std.proofs.Common.{◌≡◌, ℕ, ◌<◌, ◌≤◌, ◌^◌, ◌↔◌, ◌⊎◌, inl, inr, List, arith, refl, ◌∙◌, sym, subst}
use Rattle.std.specs.Prelude.{Option, Some, None, MatchOption, IfSome, IsNone, slice_index}
use Rattle.graph_heap.specs.declared.command.Limits.{Limits}
use Rattle.size_classes.specs.declared.class.TheConstants.{CLASSES}
use Rattle.heap_model.specs.Event.{Event, HaveBudgets}
use Rattle.space.specs.declared.pace.Pace.{Pace as PaceTable}
use Rattle.space.specs.Pace.{Pace, opening_beat, AllKeepPace}
use Rattle.space.specs.Fitting.{pace_in}
use Rattle.fragmentation.specs.Season.{opening_season}
use Rattle.fragmentation.specs.Suffice.{PageDemand, WithinPageDemand}
use Rattle.sizing.specs.declared.meter.Meter.{Meter}
use Rattle.sizing.specs.declared.needed.Needed.{Needed}
use Rattle.sizing.specs.Counts.{MOST, TOO_MANY, AreBlocks, IsTable, HasOver, IsPages}
use Rattle.sizing.specs.Season.{AreStated, CannotBeStated}
use Rattle.sizing.specs.Measured.{IsLeastPace, IsPaceStated, IsLeastBudget, CanBeStated, AreLeast, KeepTogether, KeepGathered, KeepPageDemand}
use Rattle.sizing.specs.Meter.{season_at, none_live, Needs, Shifts}
use Rattle.sizing.proofs.Counts.Counting.{equal_at, high_at}
use Rattle.sizing.proofs.Meters.Seasons.{stated as said}

-- a table below a limit states the numbers that were counted
stated : (limit : ℕ) (table allocated : List ℕ) (n : ℕ → ℕ) → limit ≤ MOST → IsTable limit table allocated → AreBlocks allocated n → (class : ℕ) → class < CLASSES → n class ≡ slice_index table class
stated limit table allocated n low t a class l = equal_at MOST (n class) (slice_index table class) limit ((t class l).0 ∙ a class l) low (t class l).1

-- a number that can't be stated
over : (limit : ℕ) (allocated : List ℕ) (n most : ℕ → ℕ) → HasOver limit allocated → AreBlocks allocated n → ((class : ℕ) → class < CLASSES → n class ≤ most class) → ((class : ℕ) → class < CLASSES → most class < limit) → ⊥
over limit allocated n most o a within small =
    let h = high_at MOST (n o.0) (slice_index allocated o.0) limit (a o.0 o.1) o.2 in
    let x = within o.0 o.1 in
    let y = small o.0 o.1 in
    omega (arith, h, x, y)

module _ (l : Limits) (es : List Event) (m : Meter) (n : Needs l es m) where
  pub pace_measured : (p : Option PaceTable) → IfSome p (λ t. IsTable (2 ^ 32) t.live m.live × IsTable (2 ^ 64) t.busy m.busy × IsTable (2 ^ 64) t.idle m.idle)
      → (IsNone p → HasOver (2 ^ 32) m.live ⊎ HasOver (2 ^ 64) m.busy ⊎ HasOver (2 ^ 64) m.idle)
      → MatchOption p ((q : Pace) (k : ℕ) → IsPaceStated q → AllKeepPace q k (opening_beat l) es → ⊥) (λ t. IsLeastPace l es (pace_in t))
  pace_measured (Some t) some none = λ q k. (
    (λ h. (let w = (n.paces q k).0 h in ((λ class low. (subst (λ x. x ≤ q.live class) (live class low) (w.0 class low).0, subst (λ x. x ≤ q.busy class) (busy class low) (w.0 class low).1, subst (λ x. x ≤ q.idle class) (idle class low) (w.0 class low).2)), w.1))),
    (λ h. (n.paces q k).1 ((λ class low. (subst (λ x. x ≤ q.live class) (sym (live class low)) (h.0 class low).0, subst (λ x. x ≤ q.busy class) (sym (busy class low)) (h.0 class low).1, subst (λ x. x ≤ q.idle class) (sym (idle class low)) (h.0 class low).2)), h.1)),
  )
    where
      live : (class : ℕ) → class < CLASSES → n.pace.live class ≡ slice_index t.live class
      live = stated (2 ^ 32) t.live m.live n.pace.live (omega arith) some.0 n.live

      busy : (class : ℕ) → class < CLASSES → n.pace.busy class ≡ slice_index t.busy class
      busy = stated (2 ^ 64) t.busy m.busy n.pace.busy (omega arith) some.1 n.busy

      idle : (class : ℕ) → class < CLASSES → n.pace.idle class ≡ slice_index t.idle class
      idle = stated (2 ^ 64) t.idle m.idle n.pace.idle (omega arith) some.2 n.idle
  pace_measured None some none = λ q k small h.
      let w = (n.paces q k).0 h in
      elim (none refl) [
        | inl o ↦ over (2 ^ 32) m.live n.pace.live q.live o n.live (λ class low. (w.0 class low).0) (λ class low. (small class low).0)
        | inr (inl o) ↦ over (2 ^ 64) m.busy n.pace.busy q.busy o n.busy (λ class low. (w.0 class low).1) (λ class low. (small class low).1)
        | inr (inr o) ↦ over (2 ^ 64) m.idle n.pace.idle q.idle o n.idle (λ class low. (w.0 class low).2) (λ class low. (small class low).2)
      ]

  pub budget_measured : (o : Option ℕ) → m.budget ≡ o → MatchOption o ((k : ℕ) → HaveBudgets k es) (IsLeastBudget es)
  budget_measured None e = λ k. (subst (λ z. HaveBudgets k es ↔ IfSome z (λ b. k ≤ b)) e (n.budget k)).1 tt
  budget_measured (Some b) e = λ k. subst (λ z. HaveBudgets k es ↔ IfSome z (λ b. k ≤ b)) e (n.budget k)

-- pages that can be told, and pages that can't
same_pages : (allocated pages : ℕ) → IsPages allocated pages → allocated < TOO_MANY → pages ≡ allocated
same_pages allocated pages e l = omega (arith, e, l)

more_pages : (allocated pages : ℕ) → IsPages allocated pages → TOO_MANY ≤ allocated → TOO_MANY ≤ pages
more_pages allocated pages e l = omega (arith, e, l)

module _ (l : Limits) (es : List Event) (m : Meter) (w : Shifts l es m) where
  same : (n : ℕ) → n ≤ (season_at none_live (opening_season l) es).cycles → w.lives n ≡ w.lives n
  same n low = refl

  keep_together : (blocks : ℕ → ℕ) → KeepTogether blocks l es ↔ ((class : ℕ) → class < CLASSES → w.together class ≤ blocks class)
  keep_together blocks = (λ k. w.together_least.above k.0 blocks k.1, λ n. (w.lives, w.together_least.below w.lives blocks same n))

  keep_gathered : (pages : ℕ) → KeepGathered pages l es ↔ (w.gathered ≤ pages)
  keep_gathered pages = (λ k. w.gathered_least.above k.0 pages k.1, λ n. (w.lives, w.gathered_least.below w.lives pages same n))

  keep_page_demand : (b : PageDemand) → KeepPageDemand b l es ↔ ((w.live ≤ b.live) × (w.made ≤ b.made))
  keep_page_demand b = (
    λ k. (w.live_least k.0 b.live (said (WithinPageDemand b) k.0 (opening_season l) es k.2) k.1, w.made_least.above k.0 b k.2),
    λ n. (w.lives, (λ k. (let x = w.live_most k in let y = n.0 in omega (arith, x, y))), w.made_least.below w.lives b same n.1),
  )

  pub needed_measured : (o : Option Needed) → IfSome o (λ n. AreStated n m.most) → (IsNone o → CannotBeStated m.most) → MatchOption o (CanBeStated l es → ⊥) (AreLeast l es)
  needed_measured (Some n) some none = record {
    together = λ blocks. (
      λ k class low. subst (λ x. x ≤ blocks class) (together class low) ((keep_together blocks).0 k class low),
      λ h. (keep_together blocks).1 (λ class low. subst (λ x. x ≤ blocks class) (sym (together class low)) (h class low)),
    );
    gathered = λ pages. subst (λ x. KeepGathered pages l es ↔ (x ≤ pages)) gathered (keep_gathered pages);
    page_demand = λ b. subst (λ x. KeepPageDemand b l es ↔ ((x ≤ b.live) × (n.made ≤ b.made))) live (subst (λ x. KeepPageDemand b l es ↔ ((w.live ≤ b.live) × (x ≤ b.made))) made (keep_page_demand b));
  }
    where
      together : (class : ℕ) → class < CLASSES → w.together class ≡ slice_index n.together class
      together = stated (2 ^ 64) n.together m.most.together w.together (omega arith) some.together w.together_counted

      gathered : w.gathered ≡ n.gathered
      gathered = same_pages m.most.gathered w.gathered w.gathered_counted (let e = some.gathered.0 in let b = some.gathered.1 in omega (arith, e, b)) ∙ sym some.gathered.0

      live : w.live ≡ n.live
      live = same_pages m.most.live w.live w.live_counted (let e = some.live.0 in let b = some.live.1 in omega (arith, e, b)) ∙ sym some.live.0

      made : w.made ≡ n.made
      made = same_pages m.most.made w.made w.made_counted (let e = some.made.0 in let b = some.made.1 in omega (arith, e, b)) ∙ sym some.made.0
  needed_measured None some none = λ s. elim (none refl) [
    | inl o ↦ over (2 ^ 64) m.most.together w.together s.blocks o w.together_counted ((keep_together s.blocks).0 s.together) s.small_blocks
    | inr (inl o) ↦ (let x = more_pages m.most.gathered w.gathered w.gathered_counted o in let y = (keep_gathered s.pages).0 s.gathered in let z = s.small_pages.0 in omega (arith, x, y, z))
    | inr (inr (inl o)) ↦ (let x = more_pages m.most.live w.live w.live_counted o in let y = ((keep_page_demand s.page_demand).0 s.demanded).0 in let z = s.small_pages.1 in omega (arith, x, y, z))
    | inr (inr (inr o)) ↦ (let x = more_pages m.most.made w.made w.made_counted o in let y = ((keep_page_demand s.page_demand).0 s.demanded).1 in let z = s.small_pages.2 in omega (arith, x, y, z))
  ]
