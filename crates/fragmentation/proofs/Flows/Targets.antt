-- The units of moving by its pages: a look at every page for each that is chosen, and for each other no more words than
-- it has.
use Rattle.std.proofs.Common.{◌≡◌, ℕ, ◌+◌, ◌*◌, ◌/◌, ◌<◌, ◌≤◌, Bool, true, false, not, ◌&&◌, ◌==◌, if◌then◌else◌, List, [], ◌∷◌, Option, Some, None, length, set, length-set, ap, ◌∙◌, sym, subst, arith, refl}
use Rattle.std.specs.Prelude.{count_by, sum_by, slice_get}
use Rattle.std.proofs.lemmas.List.Sums.{sum_by-cons}
use Rattle.std.proofs.lemmas.List.Quantifiers.{position-Some}
use Rattle.std.proofs.Math.Nat.{mul-le-mul_left}
use Rattle.graph_heap.specs.declared.command.Change.{Change}
use Rattle.graph_heap.specs.Graph.{Graph, first_slot}
use Rattle.size_classes.specs.declared.class.TheConstants.{PAGE_WORDS}
use Rattle.size_classes.specs.Parts.{cells_of, parts_in}
use Rattle.size_classes.specs.Sizes.{size_of, blocks_in}
use Rattle.heap_model.specs.declared.phase.Phase.{Phase}
use Rattle.heap_model.specs.declared.phase.Phase.TheVariants as phases
use Rattle.heap_model.specs.declared.phase.Moving.TheVariants as moves
use Rattle.heap_model.specs.declared.phase.Candidate.{Candidate}
use Rattle.heap_model.specs.Pages.{Page, IsPage, ArePages, IsOpen, page_at, is_usable, page_of_class, with_allocated, TakesBlock}
use Rattle.heap_model.specs.Store.{Store}
use Rattle.heap_model.specs.State.{HeapState, is_evacuating}
use Rattle.heap_model.specs.Phases.{awaits_sweep_end}
use Rattle.heap_model.specs.Taking.{Takes, Nothing_taken, Part_taken}
use Rattle.heap_model.specs.Change.{DoesChange, Does_nothing, Does_root, Does_ref, Does_word, Does_new, Does_join, Does_leave}
use Rattle.heap_model.specs.Action.{Action, Scans_root, Ends_roots, Scans_header, Scans_cell, Ends_marking, Frees_block, Passes_block, Closes_page, Ends_sweep, Looks_at_page, Chooses_page, Chooses_none, Moves_block, Ends_moving, AtPass, In_pass, After_page, is_choosable, is_chosen, is_sparse, Chain, Nothing_done, Then}
use Rattle.heap_model.proofs.Store.Allocated.{page_within}
use Rattle.heap_model.proofs.Action.Moving.{usable_fits}
use Rattle.heap_model.proofs.Placed.{page_for_within}
use Rattle.heap_model.proofs.Rooms.{set_sum}
use Rattle.space.specs.Counts.{evacuating_pages}
use Rattle.space.proofs.Counts.{one_if, both_true, first_page, other_pages, flags_all, allocated_more, evacuating_set}
use Rattle.space.proofs.Placement.Changing.{shrinks_records, clears_leave}
use Rattle.fragmentation.proofs.Flows.Spending.{page_words_most}
use Rattle.fragmentation.proofs.Tight.Actions.{chain_out}

-- the words of the allocated blocks of a page that receives
target_on : Option Page → ℕ
target_on None = 0
target_on (Some p) = if p.is_target then size_of p.class * count_by (λ b. b) p.allocated else 0

pub target_words : List (Option Page) → ℕ
target_words pages = sum_by target_on pages

-- a page either receives, or is chosen, or neither
page_most : (o : Option Page) → ((p : Page) → o ≡ Some p → IsPage p) → target_on o + PAGE_WORDS * one_if (is_evacuating o) ≤ PAGE_WORDS
unfolding target_on
page_most None w = omega arith
page_most (Some p) w = by_marks p.is_target p.evacuating (w p refl).marks
  where
    few : size_of p.class * count_by (λ b. b) p.allocated ≤ PAGE_WORDS
    few =
        let f = flags_all p.allocated in
        let l = (w p refl).blocks in
        let c : count_by (λ b. b) p.allocated ≤ blocks_in p.class = omega (arith, f, l) in
        let m = mul-le-mul_left (size_of p.class) c in
        let s = page_words_most p.class (w p refl).class in
        omega (arith, m, s)

    by_marks : (t v : Bool) → (v && t) ≡ false → (if t then size_of p.class * count_by (λ b. b) p.allocated else 0) + PAGE_WORDS * one_if v ≤ PAGE_WORDS
    by_marks true true m = absurd (cc)
    by_marks true false m = omega (arith, few)
    by_marks false true m = omega arith
    by_marks false false m = omega arith

-- so what was moved takes the words of the pages that aren't chosen, at most
pub targets_few : (pages : List (Option Page)) → ArePages pages → target_words pages + PAGE_WORDS * evacuating_pages pages ≤ PAGE_WORDS * length pages
unfolding target_words
targets_few [] w = omega arith
targets_few (o ∷ os) w =
    let r = targets_few os (other_pages o os w) in
    let a = sum_by-cons target_on o os in
    let b = sum_by-cons (λ z. one_if (is_evacuating z)) o os in
    let m = page_most o (first_page o os w) in
    omega (arith, r, a, b, m)

-- While blocks are moved, no more pages were chosen than are evacuating.
abbrev pub Leaves : List (Option Page) → Phase → Type 0
Leaves pages (phases.Moving (moves.Pass class page best chosen)) = chosen ≤ evacuating_pages pages
Leaves pages (phases.Moving (moves.Emptying class page block chosen)) = chosen ≤ evacuating_pages pages
Leaves pages _ = Unit {0}

-- And from some units on no more was spent than on looks, and on the words of pages that receive.
abbrev pub Receives : ℕ → HeapState → Phase → Type 0
Receives base h (phases.Moving (moves.Pass class page best chosen)) = h.units ≤ base + (chosen + class) * length h.store.pages + page + target_words h.store.pages
Receives base h (phases.Moving (moves.Emptying class page block chosen)) = h.units ≤ base + (chosen + class) * length h.store.pages + target_words h.store.pages
Receives base h _ = Unit {0}

times_next : (n b : ℕ) → (n + 1) * b ≡ n * b + b
times_next n b = grind arith

-- One page replaces another.
target_set : (old new : List (Option Page)) (page : ℕ) (o v : Option Page) → page < length old → page_at old page ≡ o → new ≡ set old page v → target_words new + target_on o ≡ target_words old + target_on v
unfolding target_words
target_set old new page o v l at is = ap (λ z. sum_by target_on z + target_on o) is ∙ set_sum target_on old page o v None l at

-- what is chosen neither receives nor is evacuating
choosable : (class : ℕ) (p : Page) → is_choosable class (Some p) ≡ true → (p.evacuating ≡ false) × (p.is_target ≡ false)
choosable class p e = let a = both_true (p.class == class) (not p.evacuating && not p.is_target) e in let b = both_true (not p.evacuating) (not p.is_target) a.1 in (off p.evacuating b.0, off p.is_target b.1)
  where
    off : (b : Bool) → not b ≡ true → b ≡ false
    off true e = absurd (cc)
    off false e = refl

chosen_pages : (old new : List (Option Page)) (class page : ℕ) (p : Page) → page_at old page ≡ Some p → is_choosable class (Some p) ≡ true → new ≡ set old page (Some (record p { evacuating = true })) → (evacuating_pages new ≡ evacuating_pages old + 1) × (target_words new ≡ target_words old)
unfolding target_on
chosen_pages old new class page p at good is =
    let l = page_within old page p at in
    let c = choosable class p good in
    let v : Option Page = Some (record p { evacuating = true }) in
    let e = evacuating_set old new page (Some p) v l at is in
    let t = target_set old new page (Some p) v l at is in
    let off = ap one_if c.0 in
    let none : (if p.is_target then size_of p.class * count_by (λ b. b) p.allocated else 0) ≡ 0 = ap (λ b. if b then size_of p.class * count_by (λ b. b) p.allocated else 0) c.1 in
    (omega (arith, e, off), omega (arith, t, none))

-- a block that a page gets
got_block : (q : Page) (j : ℕ) (target : Bool) → slice_get q.allocated j ≡ Some false → (q.is_target ≡ true → target ≡ true) → target_on (Some q) + (if target then size_of q.class else 0) ≤ target_on (Some (record (with_allocated q j true) { is_target = target }))
unfolding target_on
got_block q j target free keeps = by_marks q.is_target target keeps
  where
    n : ℕ
    n = count_by (λ b. b) q.allocated

    more : size_of q.class * count_by (λ b. b) (set q.allocated j true) ≡ size_of q.class * count_by (λ b. b) q.allocated + size_of q.class
    more = ap (λ z. size_of q.class * z) (allocated_more q.allocated j free) ∙ spread (size_of q.class) (count_by (λ b. b) q.allocated)
      where
        spread : (a b : ℕ) → a * (b + 1) ≡ a * b + a
        spread a b = grind arith

    by_marks : (was is : Bool) → (was ≡ true → is ≡ true) → (if was then size_of q.class * count_by (λ b. b) q.allocated else 0) + (if is then size_of q.class else 0) ≤ (if is then size_of q.class * count_by (λ b. b) (set q.allocated j true) else 0)
    by_marks true true k = omega (arith, more)
    by_marks true false k = absurd (let z : false ≡ true = k refl in cc)
    by_marks false true k = omega (arith, more)
    by_marks false false k = omega arith

-- through actions
after_leaves : (pages : List (Option Page)) (b : Bool) → Leaves pages (if b then phases.Moving (moves.Pass 0 0 None 0) else phases.Idle)
after_leaves pages true = omega arith
after_leaves pages false = tt

pass_leaves : (h : HeapState) (class page : ℕ) (best : Option Candidate) (chosen : ℕ) → AtPass h class page best chosen → Leaves h.store.pages h.phase → chosen ≤ evacuating_pages h.store.pages
pass_leaves h class page best chosen (In_pass class0 page0 best0 chosen0 e) w = subst (Leaves h.store.pages) e w
pass_leaves h class page best chosen (After_page class0 page0 block chosen0 p e at evacuating done less) w = subst (Leaves h.store.pages) e w

good_page : (pages : List (Option Page)) (class : ℕ) (c : Candidate) (p : Page) → page_at pages c.page ≡ Some p → is_chosen pages class (Some c) ≡ true → is_choosable class (Some p) ≡ true
good_page pages class c p at good = ap (is_choosable class) (sym at) ∙ (both_true (is_choosable class (page_at pages c.page)) _ good).0

leaves_action : (h after : HeapState) (cost : ℕ) → Leaves h.store.pages h.phase → Action h cost after → Leaves after.store.pages after.phase
leaves_action h after cost w (Scans_root next k e l sh) = tt
leaves_action h after cost w (Ends_roots next e l) = tt
leaves_action h after cost w (Scans_header part cell x front back e f n) = tt
leaves_action h after cost w (Scans_cell part cell new k e l w0 sh) = tt
leaves_action h after cost w (Ends_marking part cell e f n) = tt
leaves_action h after cost w (Frees_block page block q new e f was unmarked w0 pages) = tt
leaves_action h after cost w (Passes_block page block q e f l marked) = tt
leaves_action h after cost w (Closes_page page block new e l f w0 pages) = tt
leaves_action h after cost w (Ends_sweep page block e l) = after_leaves h.store.pages (is_sparse h)
leaves_action h after cost w (Looks_at_page class page best chosen at few more) = pass_leaves h class page best chosen at w
leaves_action h after cost w (Chooses_page class page best chosen c p new at few last is good there w0 pages) =
    let l = pass_leaves h class page best chosen at w in
    let n = chosen_pages h.store.pages new.pages class c.page p there (good_page h.store.pages class c p there good) pages in
    let m = n.0 in
    omega (arith, l, m)
leaves_action h after cost w (Chooses_none class page best chosen at few last is) = pass_leaves h class page best chosen at w
leaves_action h after cost w (Moves_block class page block chosen i to j p q new e at evacuating next place there empty w0 pages) =
    let v : chosen ≤ evacuating_pages h.store.pages = subst (Leaves h.store.pages) e w in
    let s = evacuating_set h.store.pages new.pages to (Some q) (Some (record (with_allocated q j true) { is_target = true })) (page_within h.store.pages to q there) there pages in
    omega (arith, v, s)
leaves_action h after cost w (Ends_moving done) = tt

pub leaves_chain : (h after : HeapState) (spent : ℕ) → Leaves h.store.pages h.phase → Chain h spent after → Leaves after.store.pages after.phase
leaves_chain h after spent w Nothing_done = w
leaves_chain h after spent w (Then u cost j k linked chain links action) =
    leaves_action (record j { store = linked }) k cost (subst (λ z. Leaves z j.phase) (sym links.pages) (leaves_chain h j u w chain)) action

-- up to a sweep's end no page is chosen
pub leaves_none : (pages : List (Option Page)) (q : Phase) → awaits_sweep_end q ≡ true → Leaves pages q
leaves_none pages phases.Idle on = absurd (cc)
leaves_none pages (phases.Roots next) on = tt
leaves_none pages (phases.Marking part cell) on = tt
leaves_none pages (phases.Sweeping page block) on = tt
leaves_none pages (phases.Moving m) on = absurd (cc)

module _ (base : ℕ) where
  pass_receives : (h : HeapState) (class page : ℕ) (best : Option Candidate) (chosen : ℕ) → AtPass h class page best chosen → Receives base h h.phase → h.units ≤ base + (chosen + class) * length h.store.pages + page + target_words h.store.pages
  pass_receives h class page best chosen (In_pass class0 page0 best0 chosen0 e) w = subst (Receives base h) e w
  pass_receives h class page best chosen (After_page class0 page0 block chosen0 p e at evacuating done less) w = let v : h.units ≤ base + (chosen + class) * length h.store.pages + target_words h.store.pages = subst (Receives base h) e w in omega (arith, v)

  receives_action : (h after : HeapState) (cost : ℕ) → awaits_sweep_end h.phase ≡ false → Receives base h h.phase → Action h cost after → Receives base after after.phase
  receives_action h after cost off w (Scans_root next k e l sh) = tt
  receives_action h after cost off w (Ends_roots next e l) = tt
  receives_action h after cost off w (Scans_header part cell x front back e f n) = tt
  receives_action h after cost off w (Scans_cell part cell new k e l w0 sh) = tt
  receives_action h after cost off w (Ends_marking part cell e f n) = tt
  receives_action h after cost off w (Frees_block page block q new e f was unmarked w0 pages) = tt
  receives_action h after cost off w (Passes_block page block q e f l marked) = tt
  receives_action h after cost off w (Closes_page page block new e l f w0 pages) = tt
  receives_action h after cost off w (Ends_sweep page block e l) = absurd (let z : true ≡ false = sym (ap awaits_sweep_end e) ∙ off in cc)
  receives_action h after cost off w (Looks_at_page class page best chosen at few more) = let l = pass_receives h class page best chosen at w in omega (arith, l)
  receives_action h after cost off w (Chooses_page class page best chosen c p new at few last is good there w0 pages) =
      let l = pass_receives h class page best chosen at w in
      let n = chosen_pages h.store.pages new.pages class c.page p there (good_page h.store.pages class c p there good) pages in
      let t = n.1 in
      let count : length new.pages ≡ length h.store.pages = ap length pages ∙ length-set h.store.pages c.page (Some (record p { evacuating = true })) in
      let m = times_next (chosen + class) (length h.store.pages) in
      let x : (chosen + 1 + class) * length new.pages ≡ (chosen + class + 1) * length h.store.pages = ap (λ z. (chosen + 1 + class) * z) count ∙ ap (λ z. z * length h.store.pages) (let z : chosen + 1 + class ≡ chosen + class + 1 = omega arith in z) in
      omega (arith, l, t, m, x, last)
  receives_action h after cost off w (Chooses_none class page best chosen at few last is) =
      let l = pass_receives h class page best chosen at w in
      let m = times_next (chosen + class) (length h.store.pages) in
      let x : (chosen + (class + 1)) * length h.store.pages ≡ (chosen + class + 1) * length h.store.pages = ap (λ z. z * length h.store.pages) (let z : chosen + (class + 1) ≡ chosen + class + 1 = omega arith in z) in
      omega (arith, l, m, x, last)
  receives_action h after cost off w (Moves_block class page block chosen i to j p q new e at evacuating next place there empty w0 pages) =
      let v : h.units ≤ base + (chosen + class) * length h.store.pages + target_words h.store.pages = subst (Receives base h) e w in
      let s = target_set h.store.pages new.pages to (Some q) (Some (record (with_allocated q j true) { is_target = true })) (page_within h.store.pages to q there) there pages in
      let g = got_block q j true empty (λ z. refl) in
      let fits = usable_fits p.class q (ap (is_usable p.class) (sym there) ∙ (position-Some (is_usable p.class) h.store.pages to None place).1) in
      let size : size_of q.class ≡ size_of p.class = ap size_of fits.0 in
      let count : length new.pages ≡ length h.store.pages = ap length pages ∙ length-set h.store.pages to (Some (record (with_allocated q j true) { is_target = true })) in
      let x : (chosen + class) * length new.pages ≡ (chosen + class) * length h.store.pages = ap (λ z. (chosen + class) * z) count in
      omega (arith, v, s, g, size, x)
  receives_action h after cost off w (Ends_moving done) = tt

  pub receives_chain : (h after : HeapState) (spent : ℕ) → awaits_sweep_end h.phase ≡ false → Receives base h h.phase → Chain h spent after → Receives base after after.phase
  receives_chain h after spent off w Nothing_done = w
  receives_chain h after spent off w (Then u cost j k linked chain links action) =
      receives_action (record j { store = linked }) k cost (chain_out h j u chain off) (relinked j linked j.phase links.pages (receives_chain h j u off w chain)) action
    where
      relinked : (j : HeapState) (linked : Store) (q : Phase) → linked.pages ≡ j.store.pages → Receives base j q → Receives base (record j { store = linked }) q
      relinked j linked phases.Idle e w = tt
      relinked j linked (phases.Roots next) e w = tt
      relinked j linked (phases.Marking part cell) e w = tt
      relinked j linked (phases.Sweeping page block) e w = tt
      relinked j linked (phases.Moving (moves.Pass class page best chosen)) e w = subst (λ z. j.units ≤ base + (chosen + class) * length z + page + target_words z) (sym e) w
      relinked j linked (phases.Moving (moves.Emptying class page block chosen)) e w = subst (λ z. j.units ≤ base + (chosen + class) * length z + target_words z) (sym e) w

-- what commands change: pages that receive get blocks
pub record GetsBlocks (old new : List (Option Page)) : Type 0 where
  pub evacuating : evacuating_pages new ≡ evacuating_pages old
  pub targets : target_words old ≤ target_words new
  pub count : length new ≡ length old

gets_one : (old new : List (Option Page)) (class page index : ℕ) → TakesBlock old class page index new → GetsBlocks old new
unfolding target_on
gets_one old new class page index t = by_page (page_at old page) refl
  where
    l : page < length old
    l = page_for_within old class page t.page_is

    v : Option Page → Option Page
    v o = Some (with_allocated (page_of_class class o) index true)

    gets : (o : Option Page) → page_at old page ≡ o → is_evacuating (v o) ≡ is_evacuating o → target_on o ≤ target_on (v o) → GetsBlocks old new
    gets o at e g =
        let is : new ≡ set old page (v o) = t.new_is ∙ ap (λ z. set old page (v z)) at in
        let s = evacuating_set old new page o (v o) l at is in
        let u = target_set old new page o (v o) l at is in
        let x : one_if (is_evacuating (v o)) ≡ one_if (is_evacuating o) = ap one_if e in
        record { evacuating = omega (arith, s, x); targets = omega (arith, u, g); count = ap length is ∙ length-set old page (v o) }

    by_page : (o : Option Page) → page_at old page ≡ o → GetsBlocks old new
    by_page None at = gets None at refl (omega arith)
    by_page (Some p) at = gets (Some p) at refl (let g = got_block p index p.is_target (subst (λ z. IsOpen (page_of_class class z) index) at t.was_free) (λ e. e) in omega (arith, g))

gets_none : (pages : List (Option Page)) → GetsBlocks pages pages
gets_none pages = record { evacuating = refl; targets = omega arith; count = refl }

gets_same : (old new : List (Option Page)) → new ≡ old → GetsBlocks old new
gets_same old new e = subst (GetsBlocks old) (sym e) (gets_none old)

gets_then : (a b c : List (Option Page)) → GetsBlocks a b → GetsBlocks b c → GetsBlocks a c
gets_then a b c f g = record { evacuating = g.evacuating ∙ f.evacuating; targets = (let x = f.targets in let y = g.targets in omega (arith, x, y)); count = g.count ∙ f.count }

gets_all : (cells : ℕ) (at : ℕ → ℕ) (old : List (Option Page)) (parts : ℕ) (new : List (Option Page)) → Takes cells at old parts new → GetsBlocks old new
gets_all cells at old parts new Nothing_taken = gets_none old
gets_all cells at old parts new (Part_taken part class index s t takes f block) = gets_then old s t (gets_all cells at old part s takes) (gets_one s t class (at part / 2048) index block)

pub gets_change : (h after : HeapState) (g : Graph) (c : Change) → DoesChange h g c after → GetsBlocks h.store.pages after.store.pages
gets_change h after g c Does_nothing = gets_none h.store.pages
gets_change h after g c (Does_root cell id y k r i) = gets_same h.store.pages k.store.pages (shrinks_records h k _ r).1
gets_change h after g c (Does_ref id i value address y k new at r main writes) = gets_same h.store.pages new.pages (writes.pages ∙ (shrinks_records h k _ r).1)
gets_change h after g c (Does_word id i word address new at writes) = gets_same h.store.pages new.pages writes.pages
gets_change h after g c (Does_new cell id shape k new at r makes takes) =
    gets_then h.store.pages k.store.pages new.pages (gets_same h.store.pages k.store.pages (shrinks_records h k _ r).1) (gets_all (cells_of shape) at k.store.pages (parts_in (cells_of shape)) new.pages takes)
gets_change h after g c (Does_join m) = gets_none h.store.pages
gets_change h after g c (Does_leave m k clears) = gets_same h.store.pages k.store.pages (clears_leave h (first_slot g.limits m) g.limits.slots k clears).pages

-- in a phase that stays
pub leaves_gets : (old new : List (Option Page)) (q : Phase) → GetsBlocks old new → Leaves old q → Leaves new q
leaves_gets old new phases.Idle g w = tt
leaves_gets old new (phases.Roots next) g w = tt
leaves_gets old new (phases.Marking part cell) g w = tt
leaves_gets old new (phases.Sweeping page block) g w = tt
leaves_gets old new (phases.Moving (moves.Pass class page best chosen)) g w = let e = g.evacuating in omega (arith, w, e)
leaves_gets old new (phases.Moving (moves.Emptying class page block chosen)) g w = let e = g.evacuating in omega (arith, w, e)

pub receives_gets : (base : ℕ) (h after : HeapState) (q : Phase) → GetsBlocks h.store.pages after.store.pages → after.units ≡ h.units → Receives base h q → Receives base after q
receives_gets base h after phases.Idle g u w = tt
receives_gets base h after (phases.Roots next) g u w = tt
receives_gets base h after (phases.Marking part cell) g u w = tt
receives_gets base h after (phases.Sweeping page block) g u w = tt
receives_gets base h after (phases.Moving (moves.Pass class page best chosen)) g u w = let t = g.targets in let x = ap (λ z. (chosen + class) * z) g.count in omega (arith, w, u, t, x)
receives_gets base h after (phases.Moving (moves.Emptying class page block chosen)) g u w = let t = g.targets in let x = ap (λ z. (chosen + class) * z) g.count in omega (arith, w, u, t, x)
