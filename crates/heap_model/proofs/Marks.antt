-- The marks of pages, the place of the phase, and the pages themselves, through each action.
use Rattle.std.proofs.Common.{◌≡◌, ℕ, ◌+◌, ◌<◌, ◌≤◌, Bool, true, false, ◌&&◌, not, List, length, set, refl, ap, subst, sym, ◌∙◌, arith, ◌==◌, if◌then◌else◌, length-set}
use Rattle.std.specs.Prelude.{Option, Some, None, position}
use Rattle.std.proofs.lemmas.Option.{same_Some}
use Rattle.std.proofs.lemmas.List.Quantifiers.{position-Some}
use Rattle.heap_model.specs.declared.phase.Phase.{Phase}
use Rattle.heap_model.specs.declared.phase.Phase.TheVariants as phases
use Rattle.heap_model.specs.declared.phase.Moving.TheVariants as moves
use Rattle.heap_model.specs.declared.phase.Candidate.{Candidate}
use Rattle.heap_model.specs.Pages.{Page, IsPage, ArePages, page_at, is_usable, with_allocated}
use Rattle.heap_model.specs.State.{HeapState}
use Rattle.heap_model.specs.Action.{Action, Scans_root, Ends_roots, Scans_header, Scans_cell, Ends_marking, Frees_block, Passes_block, Closes_page, Ends_sweep, Looks_at_page, Chooses_page, Chooses_none, Moves_block, Ends_moving, allocated_on, closed, is_sparse, is_choosable, is_chosen}
use Rattle.heap_model.specs.Placed.{KeepsPages, IsPlaced}
use Rattle.heap_model.specs.Marks.{HasNoMark, AreClosed}
use Rattle.heap_model.proofs.Store.Allocated.{set_page, set_page_here, page_within}
use Rattle.heap_model.proofs.Action.Moving.{same_number, usable_fits}
use Rattle.heap_model.proofs.Spent.Actions.{shades_units}

-- the pages with another in the place of one
pub pages_put : (old new : List (Option Page)) (k : ℕ) (v : Option Page) → k < length old → new ≡ set old k v → ArePages old → ((p : Page) → v ≡ Some p → IsPage p) → ArePages new
pages_put old new k v l e w is = record { each = λ j p at. by_place j p (j == k) (sym (ap (λ z. page_at z j) e ∙ set_page old k j v l) ∙ at) }
  where
    by_place : (j : ℕ) (p : Page) (t : Bool) → (if t then v else page_at old j) ≡ Some p → IsPage p
    by_place j p true q = is p q
    by_place j p false q = w.each j p q

pub pages_same : (old new : List (Option Page)) → new ≡ old → ArePages old → ArePages new
pages_same old new e w = subst ArePages (sym e) w

pub some_page : (q : Page) → IsPage q → (p : Page) → Some q ≡ Some p → IsPage p
some_page q w p e = subst IsPage (same_Some q p e) w

pub allocated_page : (p : Page) (i : ℕ) (b : Bool) → IsPage p → IsPage (with_allocated p i b)
allocated_page p i b w = record { class = w.class; blocks = length-set p.allocated i b ∙ w.blocks; marks = w.marks }

chosen_page : (pages : List (Option Page)) (class : ℕ) (c : Candidate) (p : Page) → is_chosen pages class (Some c) ≡ true → page_at pages c.page ≡ Some p → IsPage p → IsPage (record p { evacuating = true })
chosen_page pages class c p e at w = record { class = w.class; blocks = w.blocks; marks = by_marks p.evacuating p.is_target refl (subst (λ z. is_choosable class z ≡ true) at (first_true _ _ e)) }
  where
    first_true : (a b : Bool) → (a && b) ≡ true → a ≡ true
    first_true true b h = refl
    first_true false b h = absurd (cc)

    none : (a b : Bool) → (a && (b && not true)) ≡ true → ⊥
    none true true h = cc
    none true false h = cc
    none false b h = cc

    by_marks : (l r : Bool) → p.is_target ≡ r → ((p.class == class) && (not l && not p.is_target)) ≡ true → (true && p.is_target) ≡ false
    by_marks l true t h = absurd (none (p.class == class) (not l) (subst (λ z. ((p.class == class) && (not l && not z)) ≡ true) t h))
    by_marks l false t h = t

got_page : (pages : List (Option Page)) (class to j : ℕ) (q : Page) → position (is_usable class) pages ≡ Some to → page_at pages to ≡ Some q → IsPage q → IsPage (record (with_allocated q j true) { is_target = true })
got_page pages class to j q place at w =
    let usable : is_usable class (Some q) ≡ true = ap (is_usable class) (sym at) ∙ (position-Some (is_usable class) pages to None place).1 in
    let good = usable_fits class q usable in
    record { class = w.class; blocks = length-set q.allocated j true ∙ w.blocks; marks = ap (λ z. z && true) good.1 }

closed_page : (o : Option Page) → ((p : Page) → o ≡ Some p → IsPage p) → (p : Page) → closed o ≡ Some p → IsPage p
closed_page None w p e = absurd (cc)
closed_page (Some q) w p e = by_allocated (allocated_on (Some q) == 0) e
  where
    by_allocated : (b : Bool) → (if b then None else Some (record q { evacuating = false; is_target = false })) ≡ Some p → IsPage p
    by_allocated true e = absurd (cc)
    by_allocated false e = let is = w q refl in some_page (record q { evacuating = false; is_target = false }) (record { class = is.class; blocks = is.blocks; marks = refl }) p e

-- each page stays one
pub action_pages : (h after : HeapState) (cost : ℕ) → ArePages h.store.pages → Action h cost after → ArePages after.store.pages
action_pages h after cost w (Scans_root next k e l sh) = pages_same h.store.pages k.store.pages (shades_units _ k _ sh).2 w
action_pages h after cost w (Ends_roots next e l) = w
action_pages h after cost w (Scans_header part cell x front back e f n) = w
action_pages h after cost w (Scans_cell part cell new k e l w0 sh) = pages_same h.store.pages k.store.pages ((shades_units _ k _ sh).2 ∙ w0.pages) w
action_pages h after cost w (Ends_marking part cell e f n) = w
action_pages h after cost w (Frees_block page block p new e f was unmarked w0 pages) =
    pages_put h.store.pages new.pages page _ (page_within h.store.pages page p f) pages w (some_page (with_allocated p block false) (allocated_page p block false (w.each page p f)))
action_pages h after cost w (Passes_block page block p e f l marked) = w
action_pages h after cost w (Closes_page page block new e l f w0 pages) =
    pages_put h.store.pages new.pages page _ l pages w (closed_page (page_at h.store.pages page) (w.each page))
action_pages h after cost w (Ends_sweep page block e l) = w
action_pages h after cost w (Looks_at_page class page best chosen at few more) = w
action_pages h after cost w (Chooses_page class page best chosen c p new at few last is good there w0 pages) =
    pages_put h.store.pages new.pages c.page _ (page_within h.store.pages c.page p there) pages w (some_page (record p { evacuating = true }) (chosen_page h.store.pages class c p good there (w.each c.page p there)))
action_pages h after cost w (Chooses_none class page best chosen at few last is) = w
action_pages h after cost w (Moves_block class page block chosen i to j p q new e at evacuating next place there empty w0 pages) =
    pages_put h.store.pages new.pages to _ (page_within h.store.pages to q there) pages w (some_page (record (with_allocated q j true) { is_target = true }) (got_page h.store.pages p.class to j q place there (w.each to q there)))
action_pages h after cost w (Ends_moving done) = w

pub action_count : (h after : HeapState) (cost : ℕ) → Action h cost after → length after.store.pages ≡ length h.store.pages
action_count h after cost (Scans_root next k e l sh) = ap length (shades_units _ k _ sh).2
action_count h after cost (Ends_roots next e l) = refl
action_count h after cost (Scans_header part cell x front back e f n) = refl
action_count h after cost (Scans_cell part cell new k e l w0 sh) = ap length ((shades_units _ k _ sh).2 ∙ w0.pages)
action_count h after cost (Ends_marking part cell e f n) = refl
action_count h after cost (Frees_block page block p new e f was unmarked w0 pages) = ap length pages ∙ length-set h.store.pages page _
action_count h after cost (Passes_block page block p e f l marked) = refl
action_count h after cost (Closes_page page block new e l f w0 pages) = ap length pages ∙ length-set h.store.pages page _
action_count h after cost (Ends_sweep page block e l) = refl
action_count h after cost (Looks_at_page class page best chosen at few more) = refl
action_count h after cost (Chooses_page class page best chosen c p new at few last is good there w0 pages) = ap length pages ∙ length-set h.store.pages c.page _
action_count h after cost (Chooses_none class page best chosen at few last is) = refl
action_count h after cost (Moves_block class page block chosen i to j p q new e at evacuating next place there empty w0 pages) = ap length pages ∙ length-set h.store.pages to _
action_count h after cost (Ends_moving done) = refl

-- a page that is in use stays in use if another page changes, or if it changes to one in use
in_use : (old new : List (Option Page)) (page k : ℕ) (p v : Page) → page_at old page ≡ Some p → k < length old → new ≡ set old k (Some v) → (q : Page) × (page_at new page ≡ Some q)
in_use old new page k p v at l e = by_place (page == k) (ap (λ z. page_at z page) e ∙ set_page old k page (Some v) l)
  where
    by_place : (t : Bool) → page_at new page ≡ (if t then Some v else page_at old page) → (q : Page) × (page_at new page ≡ Some q)
    by_place true f = (v, f)
    by_place false f = (p, f ∙ at)

-- a page that is evacuating stays so if another changes that isn't
stays_evacuating : (old new : List (Option Page)) (page k : ℕ) (p q v : Page) → page_at old page ≡ Some p → p.evacuating ≡ true → page_at old k ≡ Some q → k < length old → new ≡ set old k (Some v) → q.evacuating ≡ false
    → (r : Page) × (page_at new page ≡ Some r) × (r.evacuating ≡ true)
stays_evacuating old new page k p q v at is there l e off = by_place (page == k) refl (ap (λ z. page_at z page) e ∙ set_page old k page (Some v) l)
  where
    by_place : (t : Bool) → (page == k) ≡ t → page_at new page ≡ (if t then Some v else page_at old page) → (r : Page) × (page_at new page ≡ Some r) × (r.evacuating ≡ true)
    by_place true t f =
        let same : page ≡ k = same_number page k t in
        let one : p ≡ q = same_Some p q (sym at ∙ ap (page_at old) same ∙ there) in
        absurd (let z : true ≡ false = sym is ∙ ap (λ (z : Page). z.evacuating) one ∙ off in cc)
    by_place false t f = (p, f ∙ at, is)

used_placed : (pages : List (Option Page)) (page block : ℕ) (q : Page) → page_at pages page ≡ Some q → page_at pages page ≡ None → block ≡ 0
used_placed pages page block q e f = absurd (let z : None ≡ Some q = sym f ∙ e in cc)

-- the place of the phase fits the pages after each action
pub action_placed : (h after : HeapState) (cost : ℕ) → Action h cost after → IsPlaced after.store.pages after.phase
action_placed h after cost (Scans_root next k e l sh) = tt
action_placed h after cost (Ends_roots next e l) = tt
action_placed h after cost (Scans_header part cell x front back e f n) = tt
action_placed h after cost (Scans_cell part cell new k e l w0 sh) = tt
action_placed h after cost (Ends_marking part cell e f n) = λ z. refl
action_placed h after cost (Frees_block page block p new e f was unmarked w0 pages) =
    let q = in_use h.store.pages new.pages page page p (with_allocated p block false) f (page_within h.store.pages page p f) pages in used_placed new.pages page (block + 1) q.0 q.1
action_placed h after cost (Passes_block page block p e f l marked) = used_placed h.store.pages page (block + 1) p f
action_placed h after cost (Closes_page page block new e l f w0 pages) = λ z. refl
action_placed h after cost (Ends_sweep page block e l) = by_sparse (is_sparse h)
  where
    by_sparse : (b : Bool) → IsPlaced h.store.pages (if b then phases.Moving (moves.Pass 0 0 None 0) else phases.Idle)
    by_sparse true = tt
    by_sparse false = tt
action_placed h after cost (Looks_at_page class page best chosen at few more) = tt
action_placed h after cost (Chooses_page class page best chosen c p new at few last is good there w0 pages) =
    let v = record p { evacuating = true } in (v, ap (λ z. page_at z c.page) pages ∙ set_page_here h.store.pages c.page (Some v) (page_within h.store.pages c.page p there), refl)
action_placed h after cost (Chooses_none class page best chosen at few last is) = tt
action_placed h after cost (Moves_block class page block chosen i to j p q new e at evacuating next place there empty w0 pages) =
    stays_evacuating h.store.pages new.pages page to p q (record (with_allocated q j true) { is_target = true }) at evacuating there (page_within h.store.pages to q there) pages
    (usable_fits p.class q (ap (is_usable p.class) (sym there) ∙ (position-Some (is_usable p.class) h.store.pages to None place).1)).1
action_placed h after cost (Ends_moving done) = tt

-- a closed page has no mark
closed_unmarked : (o : Option Page) → HasNoMark (closed o)
closed_unmarked None = record { evacuating = refl; is_target = refl }
closed_unmarked (Some q) = by_allocated (allocated_on (Some q) == 0)
  where
    by_allocated : (b : Bool) → HasNoMark (if b then None else Some (record q { evacuating = false; is_target = false }))
    by_allocated true = record { evacuating = refl; is_target = refl }
    by_allocated false = record { evacuating = refl; is_target = refl }

-- if one page changes, those before it are as they were
before_same : (old new : List (Option Page)) (k j : ℕ) (v : Option Page) → k < length old → new ≡ set old k v → j < k → page_at new j ≡ page_at old j
before_same old new k j v l e less = let t : (j == k) ≡ false = grind arith in ap (λ z. page_at z j) e ∙ set_page old k j v l ∙ rw t refl

-- the pages that are closed stay so
pub action_closed : (h after : HeapState) (cost : ℕ) → AreClosed h.store.pages h.phase → Action h cost after → AreClosed after.store.pages after.phase
action_closed h after cost c (Scans_root next k e l sh) = tt
action_closed h after cost c (Ends_roots next e l) = tt
action_closed h after cost c (Scans_header part cell x front back e f n) = tt
action_closed h after cost c (Scans_cell part cell new k e l w0 sh) = tt
action_closed h after cost c (Ends_marking part cell e f n) = λ k l. absurd (omega arith)
action_closed h after cost c (Frees_block page block p new e f was unmarked w0 pages) =
    let d = subst (AreClosed h.store.pages) e c in
    λ k l. subst HasNoMark (sym (before_same h.store.pages new.pages page k _ (page_within h.store.pages page p f) pages l)) (d k l)
action_closed h after cost c (Passes_block page block p e f l marked) = subst (AreClosed h.store.pages) e c
action_closed h after cost c (Closes_page page block new e l f w0 pages) = λ k less. by_place k less (k == page) refl
  where
    d : (k : ℕ) → k < page → HasNoMark (page_at h.store.pages k)
    d = subst (AreClosed h.store.pages) e c

    by_place : (k : ℕ) → k < page + 1 → (t : Bool) → (k == page) ≡ t → HasNoMark (page_at new.pages k)
    by_place k less true t =
        let same : k ≡ page = same_number k page t in
        let at : page_at new.pages page ≡ closed (page_at h.store.pages page) = ap (λ z. page_at z page) pages ∙ set_page_here h.store.pages page _ l in
        subst HasNoMark (sym (ap (page_at new.pages) same ∙ at)) (closed_unmarked (page_at h.store.pages page))
    by_place k less false t = let before : k < page = grind arith in subst HasNoMark (sym (before_same h.store.pages new.pages page k _ l pages before)) (d k before)
action_closed h after cost c (Ends_sweep page block e l) = by_sparse (is_sparse h)
  where
    by_sparse : (b : Bool) → AreClosed h.store.pages (if b then phases.Moving (moves.Pass 0 0 None 0) else phases.Idle)
    by_sparse true = tt
    by_sparse false = tt
action_closed h after cost c (Looks_at_page class page best chosen at few more) = tt
action_closed h after cost c (Chooses_page class page best chosen k p new at few last is good there w0 pages) = tt
action_closed h after cost c (Chooses_none class page best chosen at few last is) = tt
action_closed h after cost c (Moves_block class page block chosen i to j p q new e at evacuating next place there empty w0 pages) = tt
action_closed h after cost c (Ends_moving done) = tt

-- blocks that are taken keep both
pub taken_placed : (old new : List (Option Page)) (p : Phase) → IsPlaced old p → KeepsPages old new → IsPlaced new p
taken_placed old new phases.Idle i w = tt
taken_placed old new (phases.Roots next) i w = tt
taken_placed old new (phases.Marking part cell) i w = tt
taken_placed old new (phases.Sweeping page block) i w = λ e. by_page (page_at old page) refl e
  where
    by_page : (o : Option Page) → page_at old page ≡ o → page_at new page ≡ None → block ≡ 0
    by_page None q e = i q
    by_page (Some p) q e = let r = w.used page p q in absurd (let z : None ≡ Some r.0 = sym e ∙ r.1 in cc)
taken_placed old new (phases.Moving (moves.Pass class page best chosen)) i w = tt
taken_placed old new (phases.Moving (moves.Emptying class page block chosen)) i w = let r = w.used page i.0 i.1 in (r.0, r.1, r.2.evacuating ∙ i.2)

pub unmarked_kept : (old new : List (Option Page)) (k : ℕ) → KeepsPages old new → HasNoMark (page_at old k) → HasNoMark (page_at new k)
unmarked_kept old new k w n = by_page (page_at old k) refl (page_at new k) refl n
  where
    by_page : (o : Option Page) → page_at old k ≡ o → (q : Option Page) → page_at new k ≡ q → HasNoMark o → HasNoMark q
    by_page o e None f n = record { evacuating = refl; is_target = refl }
    by_page None e (Some q) f n = let m = w.free k q e f in record { evacuating = m.0; is_target = m.1 }
    by_page (Some p) e (Some q) f n =
        let r = w.used k p e in
        let same : r.0 ≡ q = same_Some r.0 q (sym r.1 ∙ f) in
        record {
          evacuating = sym (ap (λ (z : Page). z.evacuating) same) ∙ r.2.evacuating ∙ n.evacuating;
          is_target = sym (ap (λ (z : Page). z.is_target) same) ∙ r.2.is_target ∙ n.is_target;
        }

pub taken_closed : (old new : List (Option Page)) (p : Phase) → AreClosed old p → KeepsPages old new → AreClosed new p
taken_closed old new phases.Idle c w = tt
taken_closed old new (phases.Roots next) c w = tt
taken_closed old new (phases.Marking part cell) c w = tt
taken_closed old new (phases.Sweeping page block) c w = λ k l. unmarked_kept old new k w (c k l)
taken_closed old new (phases.Moving m) c w = tt

-- at the end of a sweep no page has a mark
pub no_mark : (pages : List (Option Page)) (page : ℕ) → ((k : ℕ) → k < page → HasNoMark (page_at pages k)) → length pages ≤ page → (k : ℕ) → HasNoMark (page_at pages k)
no_mark pages page c l k = by_page (page_at pages k) refl
  where
    by_page : (o : Option Page) → page_at pages k ≡ o → HasNoMark (page_at pages k)
    by_page None e = subst HasNoMark (sym e) (record { evacuating = refl; is_target = refl })
    by_page (Some p) e = c k (let w = page_within pages k p e in omega arith)
