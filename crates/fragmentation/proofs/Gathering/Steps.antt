-- How far a sweep, or moving, has got, through actions and changes.
use Rattle.std.proofs.Common.{◌≡◌, ℕ, ◌+◌, ◌/◌, ◌<◌, ◌≤◌, ◌⊎◌, inl, inr, Bool, true, false, ◌==◌, if◌then◌else◌, List, Option, Some, None, length, set, length-set, ap, ◌∙◌, sym, subst, arith, refl}
use Rattle.std.specs.Prelude.{position, count_by}
use Rattle.std.proofs.lemmas.List.Quantifiers.{position-Some}
use Rattle.std.proofs.lemmas.Option.{same_Some}
use Rattle.size_classes.specs.declared.class.TheConstants.{CLASSES}
use Rattle.size_classes.specs.Parts.{cells_of, parts_in}
use Rattle.graph_heap.specs.declared.command.Change.{Change}
use Rattle.graph_heap.specs.Graph.{Graph, first_slot}
use Rattle.heap_model.specs.declared.phase.Phase.{Phase}
use Rattle.heap_model.specs.declared.phase.Phase.TheVariants as phases
use Rattle.heap_model.specs.declared.phase.Moving.TheVariants as moves
use Rattle.heap_model.specs.declared.phase.Candidate.{Candidate}
use Rattle.heap_model.specs.Pages.{Page, ArePages, IsOpen, page_at, is_usable, with_allocated, TakesBlock}
use Rattle.heap_model.specs.State.{HeapState, is_target_page}
use Rattle.heap_model.specs.Marks.{HasNoMark, AreClosed}
use Rattle.heap_model.specs.Represents.{is_sweeping}
use Rattle.heap_model.specs.Taking.{Takes, Nothing_taken, Part_taken}
use Rattle.heap_model.specs.Change.{DoesChange, Does_nothing, Does_root, Does_ref, Does_word, Does_new, Does_join, Does_leave, Clears, Clears_none, Clears_next, Records, Records_nothing, Records_main}
use Rattle.heap_model.specs.Action.{Action, Scans_root, Ends_roots, Scans_header, Scans_cell, Ends_marking, Frees_block, Passes_block, Closes_page, Ends_sweep, Looks_at_page, Chooses_page, Chooses_none, Moves_block, Ends_moving, allocated_on, closed, is_sparse, is_choosable, candidate_after}
use Rattle.heap_model.proofs.Store.Allocated.{set_page, page_within}
use Rattle.heap_model.proofs.Marks.{no_mark}
use Rattle.heap_model.proofs.Action.Moving.{same_number, usable_fits}
use Rattle.heap_model.proofs.Change.Recording.{records_stay}
use Rattle.heap_model.proofs.Taking.{takes_count}
use Rattle.space.proofs.Space.{shades_same}
use Rattle.space.proofs.Counts.{both_true, allocated_more}
use Rattle.fragmentation.specs.Tight.{IsTight}
use Rattle.fragmentation.specs.Gathering.{AreUsed, ReceivesFirst, HasLooked, AreTight, IsGathering}
use Rattle.fragmentation.proofs.Tight.Free.{tight_less, evacuating_free}
use Rattle.fragmentation.proofs.Tight.Taken.{free_on_less, put_used, block_tight, block_used, block_first}
use Rattle.fragmentation.proofs.Gathering.Passing.{looked_more, pass_tight, in_pass, block_looked}

closed_some : (o : Option Page) (p : Page) → closed o ≡ Some p → 0 < count_by (λ b. b) p.allocated
closed_some None p e = absurd (cc)
closed_some (Some q) p e = by_allocated (allocated_on (Some q) == 0) refl e
  where
    by_allocated : (b : Bool) → (allocated_on (Some q) == 0) ≡ b → (if b then None else Some (record q { evacuating = false; is_target = false })) ≡ Some p → 0 < count_by (λ b. b) p.allocated
    by_allocated true t e = absurd (cc)
    by_allocated false t e =
        let s : 0 < allocated_on (Some q) = grind arith in
        subst (λ (z : Page). 0 < count_by (λ b. b) z.allocated) (same_Some _ p e) s

-- a page that is chosen
module _ (old new : List (Option Page)) (class page : ℕ) (p : Page) (at : page_at old page ≡ Some p) (good : is_choosable class (Some p) ≡ true) (is : new ≡ set old page (Some (record p { evacuating = true }))) where
  within : page < length old
  within = page_within old page p at

  pub chosen_tight : (k : ℕ) → IsTight old k → IsTight new k
  chosen_tight k t = tight_less old new page (Some p) _ within at is k (let z = evacuating_free p k in omega (arith, z)) t

  pub chosen_used : (place : ℕ) → 0 < count_by (λ b. b) p.allocated → AreUsed old place → AreUsed new place
  chosen_used place some used = put_used old new page place (record p { evacuating = true }) within is some used

  pub chosen_first : ReceivesFirst old → ReceivesFirst new
  chosen_first first = λ k j a b x r u y v. by_place k j a b x r u y v (k == page) (is_at k) (j == page) (is_at j)
    where
      is_at : (k : ℕ) → page_at new k ≡ (if k == page then Some (record p { evacuating = true }) else page_at old k)
      is_at k = ap (λ z. page_at z k) is ∙ set_page old page k _ within

      by_place : (k j : ℕ) (a b : Page) → page_at new k ≡ Some a → a.is_target ≡ true → is_usable a.class (Some a) ≡ true → page_at new j ≡ Some b → is_usable a.class (Some b) ≡ true
          → (s : Bool) → page_at new k ≡ (if s then Some (record p { evacuating = true }) else page_at old k) → (t : Bool) → page_at new j ≡ (if t then Some (record p { evacuating = true }) else page_at old j) → k ≤ j
      by_place k j a b x r u y v true e t f =
          let l = (usable_fits a.class a u).1 in
          let same : record p { evacuating = true } ≡ a = same_Some _ a (sym e ∙ x) in
          absurd (let z : true ≡ false = ap (λ (z : Page). z.evacuating) same ∙ l in cc)
      by_place k j a b x r u y v false e true f =
          let l = (usable_fits a.class b v).1 in
          let same : record p { evacuating = true } ≡ b = same_Some _ b (sym f ∙ y) in
          absurd (let z : true ≡ false = ap (λ (z : Page). z.evacuating) same ∙ l in cc)
      by_place k j a b x r u y v false e false f = first k j a b (sym e ∙ x) r u (sym f ∙ y) v

-- a page that gets a block
module _ (old new : List (Option Page)) (class to j : ℕ) (q : Page) (place : position (is_usable class) old ≡ Some to) (at : page_at old to ≡ Some q) (spare : IsOpen q j) (is : new ≡ set old to (Some (record (with_allocated q j true) { is_target = true }))) where
  to_within : to < length old
  to_within = page_within old to q at

  usable : is_usable class (Some q) ≡ true
  usable = ap (is_usable class) (sym at) ∙ (position-Some (is_usable class) old to None place).1

  pub moved_tight : (k : ℕ) → IsTight old k → IsTight new k
  moved_tight k t = tight_less old new to (Some q) _ to_within at is k (free_on_less q j k spare) t

  pub moved_used : (count : ℕ) → AreUsed old count → AreUsed new count
  moved_used count used = put_used old new to count (record (with_allocated q j true) { is_target = true }) to_within is (let h = allocated_more q.allocated j spare in omega (arith, h)) used

  pub moved_first : ReceivesFirst old → ReceivesFirst new
  moved_first first = λ k i a b x r u y v. by_place k i a b x r u y v (k == to) refl (is_at k) (i == to) refl (is_at i)
    where
      is_at : (k : ℕ) → page_at new k ≡ (if k == to then Some (record (with_allocated q j true) { is_target = true }) else page_at old k)
      is_at k = ap (λ z. page_at z k) is ∙ set_page old to k _ to_within

      -- no page before it can be used
      least : (i : ℕ) → is_usable class (page_at old i) ≡ true → to ≤ i
      least i u = by_order (i < to) i u
        where
          by_order : Type 0 → (i : ℕ) → is_usable class (page_at old i) ≡ true → to ≤ i
          by_order z i u = elim (order to i) [ inl l ↦ l | inr l ↦ absurd (let n = (position-Some (is_usable class) old to None place).2 i l in let z : false ≡ true = sym n ∙ u in cc) ]
            where
              order : (a b : ℕ) → (a ≤ b) ⊎ (b < a)
              order a b = grind arith

      by_place : (k i : ℕ) (a b : Page) → page_at new k ≡ Some a → a.is_target ≡ true → is_usable a.class (Some a) ≡ true → page_at new i ≡ Some b → is_usable a.class (Some b) ≡ true
          → (s : Bool) → (k == to) ≡ s → page_at new k ≡ (if s then Some (record (with_allocated q j true) { is_target = true }) else page_at old k) → (t : Bool) → (i == to) ≡ t → page_at new i ≡ (if t then Some (record (with_allocated q j true) { is_target = true }) else page_at old i) → k ≤ i
      by_place k i a b x r u y v true s e true t f = let m = same_number k to s in let n = same_number i to t in omega (arith, m, n)
      by_place k i a b x r u y v true s e false t f =
          let m = same_number k to s in
          let same : record (with_allocated q j true) { is_target = true } ≡ a = same_Some _ a (sym e ∙ x) in
          let c : q.class ≡ a.class = ap (λ (z : Page). z.class) same in
          let fit = usable_fits class q usable in
          let d : a.class ≡ class = sym c ∙ fit.0 in
          let ub : is_usable class (page_at old i) ≡ true = ap (is_usable class) (sym f ∙ y) ∙ subst (λ z. is_usable z (Some b) ≡ true) d v in
          let l = least i ub in omega (arith, m, l)
      by_place k i a b x r u y v false s e true t f =
          let n = same_number i to t in
          let same : record (with_allocated q j true) { is_target = true } ≡ b = same_Some _ b (sym f ∙ y) in
          let c : q.class ≡ b.class = ap (λ (z : Page). z.class) same in
          let g = usable_fits a.class b v in
          let fit = usable_fits class q usable in
          let d : class ≡ a.class = sym fit.0 ∙ c ∙ g.0 in
          let l = first k to a q (sym e ∙ x) r u at (subst (λ z. is_usable z (Some q) ≡ true) d usable) in omega (arith, n, l)
      by_place k i a b x r u y v false s e false t f = first k i a b (sym e ∙ x) r u (sym f ∙ y) v

-- Each action keeps the state of gathering.
gathering_in : (pages : List (Option Page)) (n m : ℕ) → n ≡ m → AreUsed pages m → AreUsed pages n
gathering_in pages n m e w = subst (AreUsed pages) (sym e) w

pub gather_action : (h after : HeapState) (cost : ℕ) → ArePages h.store.pages → AreClosed h.store.pages h.phase → IsGathering h.store.pages (length h.store.pages) h.phase → Action h cost after → IsGathering after.store.pages (length after.store.pages) after.phase
gather_action h after cost a c w (Scans_root next k e l sh) = tt
gather_action h after cost a c w (Ends_roots next e l) = tt
gather_action h after cost a c w (Scans_header part cell x front back e f n) = tt
gather_action h after cost a c w (Scans_cell part cell new k e l w0 sh) = tt
gather_action h after cost a c w (Ends_marking part cell e f n) = λ k p l at. absurd (omega arith)
gather_action h after cost a c w (Frees_block page block p new e f was unmarked w0 pages) = λ k q l at. by_place k q l at (k == page) refl (ap (λ z. page_at z k) pages ∙ set_page h.store.pages page k _ (page_within h.store.pages page p f))
  where
    used : AreUsed h.store.pages page
    used = subst (IsGathering h.store.pages (length h.store.pages)) e w

    by_place : (k : ℕ) (q : Page) → k < page → page_at new.pages k ≡ Some q → (t : Bool) → (k == page) ≡ t → page_at new.pages k ≡ (if t then Some (with_allocated p block false) else page_at h.store.pages k) → 0 < count_by (λ b. b) q.allocated
    by_place k q l at true t g = absurd (let s = same_number k page t in omega (arith, s, l))
    by_place k q l at false t g = used k q l (sym g ∙ at)
gather_action h after cost a c w (Passes_block page block p e f l marked) = subst (IsGathering h.store.pages (length h.store.pages)) e w
gather_action h after cost a c w (Closes_page page block new e l f w0 pages) = λ k q less at. by_place k q less at (k == page) refl (ap (λ z. page_at z k) pages ∙ set_page h.store.pages page k _ l)
  where
    used : AreUsed h.store.pages page
    used = subst (IsGathering h.store.pages (length h.store.pages)) e w

    by_place : (k : ℕ) (q : Page) → k < page + 1 → page_at new.pages k ≡ Some q → (t : Bool) → (k == page) ≡ t → page_at new.pages k ≡ (if t then closed (page_at h.store.pages page) else page_at h.store.pages k) → 0 < count_by (λ b. b) q.allocated
    by_place k q less at true t g = closed_some (page_at h.store.pages page) q (sym g ∙ at)
    by_place k q less at false t g = let m : k < page = grind arith in used k q m (sym g ∙ at)
gather_action h after cost a c w (Ends_sweep page block e l) = by_sparse (is_sparse h)
  where
    used : AreUsed h.store.pages page
    used = subst (IsGathering h.store.pages (length h.store.pages)) e w

    none : (k : ℕ) → HasNoMark (page_at h.store.pages k)
    none = no_mark h.store.pages page (subst (AreClosed h.store.pages) e c) l

    by_sparse : (b : Bool) → IsGathering h.store.pages (length h.store.pages) (if b then phases.Moving (moves.Pass 0 0 None 0) else phases.Idle)
    by_sparse true = (
      λ k p low at. used k p (omega (arith, low, l)) at,
      λ k j p q at r u at' v. absurd (let n = (none k).is_target in let z : p.is_target ≡ false = sym (ap is_target_page at) ∙ n in let y : true ≡ false = sym r ∙ z in cc),
      λ k low. absurd (omega arith),
      inl (λ k low. absurd (omega arith)),
    )
    by_sparse false = tt
gather_action h after cost a c w (Looks_at_page class page best chosen at few more) =
    let q = in_pass h class page best chosen w at in (q.used, q.first, q.tight, looked_more h.store.pages class page best q.looked)
gather_action h after cost a c w (Chooses_page class page best chosen k p new at few last is good there w0 pages) =
    let q = in_pass h class page best chosen w at in
    let first = (both_true _ _ good).0 in
    let ok : is_choosable class (Some p) ≡ true = sym (ap (is_choosable class) there) ∙ first in
    let l = page_within h.store.pages k.page p there in
    let count : length new.pages ≡ length h.store.pages = ap length pages ∙ length-set h.store.pages k.page _ in (
      gathering_in new.pages _ _ count (chosen_used h.store.pages new.pages class k.page p there ok pages (length h.store.pages) (q.used k.page p l there) q.used),
      chosen_first h.store.pages new.pages class k.page p there ok pages q.first,
      λ i low. chosen_tight h.store.pages new.pages class k.page p there ok pages i (q.tight i low),
    )
gather_action h after cost a c w (Chooses_none class page best chosen at few last is) =
    let q = in_pass h class page best chosen w at in
    let more = looked_more h.store.pages class page best q.looked in
    let t = pass_tight h.store.pages class (candidate_after h.store.pages class page best) few a q.used q.first (subst (λ z. HasLooked h.store.pages class z (candidate_after h.store.pages class page best)) last more) is in
    (q.used, q.first, λ i low. by_class q.tight t i low (i == class) refl, inl (λ k low. absurd (omega arith)))
  where
    by_class : AreTight h.store.pages class → IsTight h.store.pages class → (i : ℕ) → i < class + 1 → (b : Bool) → (i == class) ≡ b → IsTight h.store.pages i
    by_class f t i low true e = subst (IsTight h.store.pages) (sym (same_number i class e)) t
    by_class f t i low false e = let m : i < class = grind arith in f i m
gather_action h after cost a c w (Moves_block class page block chosen i to j p q new e at evacuating next place there empty w0 pages) =
    let s : AreUsed h.store.pages (length h.store.pages) × ReceivesFirst h.store.pages × AreTight h.store.pages class = subst (IsGathering h.store.pages (length h.store.pages)) e w in
    let count : length new.pages ≡ length h.store.pages = ap length pages ∙ length-set h.store.pages to _ in (
      gathering_in new.pages _ _ count (moved_used h.store.pages new.pages p.class to j q place there empty pages (length h.store.pages) s.0),
      moved_first h.store.pages new.pages p.class to j q place there empty pages s.1,
      λ k low. moved_tight h.store.pages new.pages p.class to j q place there empty pages k (s.2 k low),
    )
gather_action h after cost a c w (Ends_moving done) = tt

-- a tight class stays tight, except through a sweep
same_tight : (old new : List (Option Page)) (class : ℕ) → new ≡ old → IsTight old class → IsTight new class
same_tight old new class e t = subst (λ z. IsTight z class) (sym e) t

not_sweeping : (h : HeapState) (page block : ℕ) → h.phase ≡ phases.Sweeping page block → is_sweeping h.phase ≡ false → ⊥
not_sweeping h page block e n = let z : false ≡ true = sym n ∙ ap is_sweeping e in cc

pub tight_action : (h after : HeapState) (cost class : ℕ) → ArePages h.store.pages → is_sweeping h.phase ≡ false → Action h cost after → IsTight h.store.pages class → IsTight after.store.pages class
tight_action h after cost class a n (Scans_root next k e l sh) t = same_tight h.store.pages k.store.pages class (shades_same _ k _ sh).1 t
tight_action h after cost class a n (Ends_roots next e l) t = t
tight_action h after cost class a n (Scans_header part cell x front back e f g) t = t
tight_action h after cost class a n (Scans_cell part cell new k e l w0 sh) t = same_tight h.store.pages k.store.pages class ((shades_same _ k _ sh).1 ∙ w0.pages) t
tight_action h after cost class a n (Ends_marking part cell e f g) t = t
tight_action h after cost class a n (Frees_block page block p new e f was unmarked w0 pages) t = absurd (not_sweeping h page block e n)
tight_action h after cost class a n (Passes_block page block p e f l marked) t = t
tight_action h after cost class a n (Closes_page page block new e l f w0 pages) t = absurd (not_sweeping h page block e n)
tight_action h after cost class a n (Ends_sweep page block e l) t = t
tight_action h after cost class a n (Looks_at_page class0 page best chosen at few more) t = t
tight_action h after cost class a n (Chooses_page class0 page best chosen k p new at few last is good there w0 pages) t =
    let ok : is_choosable class0 (Some p) ≡ true = sym (ap (is_choosable class0) there) ∙ (both_true _ _ good).0 in
    chosen_tight h.store.pages new.pages class0 k.page p there ok pages class t
tight_action h after cost class a n (Chooses_none class0 page best chosen at few last is) t = t
tight_action h after cost class a n (Moves_block class0 page block chosen i to j p q new e at evacuating next place there empty w0 pages) t = moved_tight h.store.pages new.pages p.class to j q place there empty pages class t
tight_action h after cost class a n (Ends_moving done) t = t

-- blocks that are taken
pub takes_tight : (cells : ℕ) (at : ℕ → ℕ) (old : List (Option Page)) (parts : ℕ) (new : List (Option Page)) (class : ℕ) → Takes cells at old parts new → IsTight old class → IsTight new class
takes_tight cells at old parts new class Nothing_taken t = t
takes_tight cells at old parts new class (Part_taken part taken index s u takes f b) t = block_tight s u taken (at part / 2048) index class b (takes_tight cells at old part s class takes t)

block_gathers : (old new : List (Option Page)) (taken page index count : ℕ) (p : Phase) → TakesBlock old taken page index new → IsGathering old count p → IsGathering new count p
block_gathers old new taken page index count phases.Idle t w = tt
block_gathers old new taken page index count (phases.Roots next) t w = tt
block_gathers old new taken page index count (phases.Marking part cell) t w = tt
block_gathers old new taken page index count (phases.Sweeping place block) t w = block_used old new taken page index place t w
block_gathers old new taken page index count (phases.Moving (moves.Pass class place best chosen)) t w =
    (block_used old new taken page index count t w.0, block_first old new taken page index t w.1, λ k low. block_tight old new taken page index k t (w.2 k low), block_looked old new taken page index class place best t w.3)
block_gathers old new taken page index count (phases.Moving (moves.Emptying class place block chosen)) t w =
    (block_used old new taken page index count t w.0, block_first old new taken page index t w.1, λ k low. block_tight old new taken page index k t (w.2 k low))

takes_gather : (cells : ℕ) (at : ℕ → ℕ) (old : List (Option Page)) (parts : ℕ) (new : List (Option Page)) (count : ℕ) (p : Phase) → Takes cells at old parts new → IsGathering old count p → IsGathering new count p
takes_gather cells at old parts new count p Nothing_taken w = w
takes_gather cells at old parts new count p (Part_taken part taken index s u takes f b) w = block_gathers s u taken (at part / 2048) index count p b (takes_gather cells at old part s count p takes w)

-- what a command changes
pub gather_same : (old new : List (Option Page)) (p q : Phase) → new ≡ old → q ≡ p → IsGathering old (length old) p → IsGathering new (length new) q
gather_same old new p q e f w = subst (λ z. IsGathering z (length z) q) (sym e) (subst (IsGathering old (length old)) (sym f) w)

records_pages : (h k : HeapState) (x : ℕ) → Records h x k → k.store.pages ≡ h.store.pages
records_pages h k x (Records_nothing e) = refl
records_pages h k x (Records_main k0 e sh) = (shades_same h k _ sh).1

pub clears_pages : (h : HeapState) (first n : ℕ) (k : HeapState) → Clears h first n k → (k.store.pages ≡ h.store.pages) × (k.phase ≡ h.phase)
clears_pages h first n k Clears_none = (refl, refl)
clears_pages h first n k (Clears_next n0 j k0 c r) =
    let w = clears_pages h first n0 j c in
    (records_pages j k0 _ r ∙ w.0, (records_stay j k0 _ r).phase ∙ w.1)

pub gather_change : (h after : HeapState) (g : Graph) (c : Change) → IsGathering h.store.pages (length h.store.pages) h.phase → DoesChange h g c after → IsGathering after.store.pages (length after.store.pages) after.phase
gather_change h after g c w Does_nothing = w
gather_change h after g c w (Does_root cell id y k r i) = gather_same h.store.pages k.store.pages h.phase k.phase (records_pages h k _ r) (records_stay h k _ r).phase w
gather_change h after g c w (Does_ref id i value address y k new at r main writes) = gather_same h.store.pages new.pages h.phase k.phase (writes.pages ∙ records_pages h k _ r) (records_stay h k _ r).phase w
gather_change h after g c w (Does_word id i word address new at writes) = gather_same h.store.pages new.pages h.phase h.phase writes.pages refl w
gather_change h after g c w (Does_new cell id shape k new at r makes takes) =
    let s = gather_same h.store.pages k.store.pages h.phase k.phase (records_pages h k _ r) (records_stay h k _ r).phase w in
    let t = takes_gather (cells_of shape) at k.store.pages (parts_in (cells_of shape)) new.pages (length k.store.pages) k.phase takes s in
    subst (λ z. IsGathering new.pages z k.phase) (sym (takes_count (cells_of shape) at k.store.pages (parts_in (cells_of shape)) new.pages takes)) t
gather_change h after g c w (Does_join m) = w
gather_change h after g c w (Does_leave m k clears) = let q = clears_pages h (first_slot g.limits m) g.limits.slots k clears in gather_same h.store.pages k.store.pages h.phase k.phase q.0 q.1 w

pub tight_change : (h after : HeapState) (g : Graph) (c : Change) (class : ℕ) → DoesChange h g c after → IsTight h.store.pages class → IsTight after.store.pages class
tight_change h after g c class Does_nothing t = t
tight_change h after g c class (Does_root cell id y k r i) t = same_tight h.store.pages k.store.pages class (records_pages h k _ r) t
tight_change h after g c class (Does_ref id i value address y k new at r main writes) t = same_tight h.store.pages new.pages class (writes.pages ∙ records_pages h k _ r) t
tight_change h after g c class (Does_word id i word address new at writes) t = same_tight h.store.pages new.pages class writes.pages t
tight_change h after g c class (Does_new cell id shape k new at r makes takes) t =
    takes_tight (cells_of shape) at k.store.pages (parts_in (cells_of shape)) new.pages class takes (same_tight h.store.pages k.store.pages class (records_pages h k _ r) t)
tight_change h after g c class (Does_join m) t = t
tight_change h after g c class (Does_leave m k clears) t = same_tight h.store.pages k.store.pages class (clears_pages h (first_slot g.limits m) g.limits.slots k clears).0 t

pub moving_tight : (h : HeapState) (page chosen : ℕ) (best : Option Candidate) → IsGathering h.store.pages (length h.store.pages) h.phase → h.phase ≡ phases.Moving (moves.Pass CLASSES page best chosen) → AreTight h.store.pages CLASSES
moving_tight h page chosen best w e = let q : AreUsed h.store.pages (length h.store.pages) × ReceivesFirst h.store.pages × AreTight h.store.pages CLASSES × HasLooked h.store.pages CLASSES page best = subst (IsGathering h.store.pages (length h.store.pages)) e w in q.2
