-- Each action of moving keeps the invariant.
use Rattle.std.proofs.Common.{◌≡◌, ◌≢◌, ℕ, ◌+◌, ◌-◌, ◌*◌, ◌/◌, ◌<◌, ◌≤◌, inl, inr, Bool, true, false, ◌&&◌, not, List, [], length, get_or, set, drop, refl, ap, subst, sym, ◌∙◌, arith, ◌==◌, if◌then◌else◌, nat_lt}
use Rattle.std.specs.Prelude.{Option, Some, None, slice_get, position, is_some}
use Rattle.std.proofs.lemmas.Option.{slice_get_within, same_Some}
use Rattle.std.proofs.lemmas.List.Quantifiers.{position-Some}
use Rattle.std.proofs.Math.Nat.{mul-le-mul_right}
use Rattle.graph_heap.specs.Graph.{Graph}
use Rattle.size_classes.specs.declared.class.TheConstants.{CLASSES}
use Rattle.size_classes.specs.Parts.{part_cells, cells_of}
use Rattle.size_classes.specs.Sizes.{size_of}
use Rattle.heap_model.specs.declared.phase.Phase.TheVariants as phases
use Rattle.heap_model.specs.declared.phase.Moving.{Moving as Place}
use Rattle.heap_model.specs.declared.phase.Moving.TheVariants as moves
use Rattle.heap_model.specs.declared.phase.Candidate.{Candidate}
use Rattle.heap_model.specs.Block.{BlockRecord, with_forward}
use Rattle.heap_model.specs.Pages.{ArePages, Page, page_at, with_allocated, is_usable}
use Rattle.heap_model.specs.Store.{Store, is_allocated, size_in, record_of, address_of}
use Rattle.heap_model.specs.Core.{Name, null, PartGraph, Heap}
use Rattle.heap_model.specs.Cut.{view}
use Rattle.heap_model.specs.Collector.{Collector, Coherent}
use Rattle.heap_model.specs.State.{HeapState, seen, width_at, same_colour, collector_by, collector_of, is_target_page, is_evacuating, is_left, page_of, reference_of}
use Rattle.heap_model.specs.Agreement.{IsWhole, Consistent}
use Rattle.heap_model.specs.Action.{KeepsBlocks, MovesBlock, goes_to, is_choosable, is_chosen, IsNext, AtPass, In_pass, After_page, MovingDone, No_class, No_page}
use Rattle.heap_model.proofs.Collector.Acts as collector
use Rattle.heap_model.proofs.Core.Same.{SameBlocks}
use Rattle.heap_model.proofs.Core.Edits.{move}
use Rattle.heap_model.proofs.Collector.Coherence.{acts, same_coherent}
use Rattle.heap_model.proofs.State.{behind, allocated_put}
use Rattle.heap_model.proofs.Store.Allocated.{set_page, page_within, is_page, allocated_at, block_within, size_some, page_of_place}
use Rattle.heap_model.proofs.Action.Collecting.{at_phase, again, keeps_seen, keeps_whole}

pub same_number : (a b : ℕ) → (a == b) ≡ true → a ≡ b
same_number a b e = grind arith

not_number : (a b : ℕ) → a ≢ b → (a == b) ≡ false
not_number a b e = grind arith

pub at_number : (a b : ℕ) → a ≡ b → (a == b) ≡ true
at_number a b e = grind arith

-- moving goes on at another place
moves_on : (heap : Heap) (old new : List (Option Page)) (m n : Place) (grey : List ℕ) (g s : PartGraph) → Coherent (collector_by heap old (phases.Moving m) grey) g s
    → ((x : ℕ) → is_target_page (page_of old x) ≡ true → is_target_page (page_of new x) ≡ true) → ((x : ℕ) → is_left old (phases.Moving m) x ≡ true → is_left new (phases.Moving n) x ≡ true)
    → Coherent (collector_by heap new (phases.Moving n) grey) g s
moves_on heap old new m n grey g s c is_target left = record {
  at = c.at;
  base = c.base;
  stage = (
    c.stage.0,
    record { old = λ x l. elim (c.stage.1.old x l) [ inl e ↦ inl e | inr r ↦ inr (is_target (heap.forward x) r) ] },
    record { old = λ x l. elim (c.stage.2.old x l) [ inl e ↦ inl e | inr r ↦ inr (left x r) ] },
  );
}

-- behind a page that is done, all of the page was gone past
past_page : (pages : List (Option Page)) (page reference x : ℕ) (p : Page) → page_at pages page ≡ Some p → p.evacuating ≡ true → (if (x - 1) / 2048 == page then nat_lt x reference else is_evacuating (page_of pages x)) ≡ true → is_evacuating (page_of pages x) ≡ true
past_page pages page reference x p e l h = by_page ((x - 1) / 2048 == page) refl h
  where
    by_page : (b : Bool) → ((x - 1) / 2048 == page) ≡ b → (if b then nat_lt x reference else is_evacuating (page_of pages x)) ≡ true → is_evacuating (page_of pages x) ≡ true
    by_page true t h = let same : (x - 1) / 2048 ≡ page = grind arith in ap (λ z. is_evacuating (page_at pages z)) same ∙ ap is_evacuating e ∙ l
    by_page false t h = h

at_pass : (h : HeapState) (class page : ℕ) (best : Option Candidate) (chosen : ℕ) (g s : PartGraph) → AtPass h class page best chosen → Coherent (collector_of h) g s → Coherent (collector_by (seen h) h.store.pages (phases.Moving (moves.Pass class page best chosen)) h.grey) g s
at_pass h class page best chosen g s (In_pass class0 page0 best0 chosen0 e) c = at_phase h (phases.Moving (moves.Pass class page best chosen)) g s e c
at_pass h class page best chosen g s (After_page class0 page0 block chosen0 p e at l done more) c =
    let c0 = at_phase h (phases.Moving (moves.Emptying class page0 block chosen)) g s e c in
    moves_on (seen h) h.store.pages h.store.pages (moves.Emptying class page0 block chosen) (moves.Pass class 0 None chosen) h.grey g s c0 (λ x r. r) (λ x q. past_page h.store.pages page0 (reference_of h.store.pages page0 block) x p at l q)

-- a page is looked at, or a pass ends that chose none
pub pass_on_act : (h : HeapState) (present snapshot : Graph) (class page : ℕ) (best : Option Candidate) (chosen : ℕ) (class' page' : ℕ) (best' : Option Candidate) → Consistent h present snapshot → AtPass h class page best chosen
    → Consistent (goes_to h 1 (phases.Moving (moves.Pass class' page' best' chosen))) present snapshot
pass_on_act h present snapshot class page best chosen class' page' best' c at =
    let c0 = at_pass h class page best chosen (view present) (view snapshot) at c.parts in
    let c1 = moves_on (seen h) h.store.pages h.store.pages (moves.Pass class page best chosen) (moves.Pass class' page' best' chosen) h.grey (view present) (view snapshot) c0 (λ x r. r) (λ x q. q) in
    again h (goes_to h 1 (phases.Moving (moves.Pass class' page' best' chosen))) present snapshot c refl refl refl c.whole c1

pub chosen_stays : (pages : List (Option Page)) (class : ℕ) (c : Candidate) (p : Page) → is_chosen pages class (Some c) ≡ true → page_at pages c.page ≡ Some p → p.evacuating ≡ false
chosen_stays pages class c p e at = let q : is_choosable class (page_at pages c.page) ≡ true = first_true _ _ e in by_evacuating p.evacuating refl (subst (λ z. is_choosable class z ≡ true) at q)
  where
    first_true : (a b : Bool) → (a && b) ≡ true → a ≡ true
    first_true true b h = refl
    first_true false b h = absurd (cc)

    by_evacuating : (b : Bool) → p.evacuating ≡ b → ((p.class == class) && (not p.evacuating && not p.is_target)) ≡ true → b ≡ false
    by_evacuating true t h = absurd (let z : ((p.class == class) && (not true && not p.is_target)) ≡ true = subst (λ y. ((p.class == class) && (not y && not p.is_target)) ≡ true) t h in no_evacuating (p.class == class) z)
      where
        no_evacuating : (a : Bool) → (a && false) ≡ true → ⊥
        no_evacuating true z = cc
        no_evacuating false z = cc
    by_evacuating false t h = refl

-- a page is chosen
pub choose_act : (h : HeapState) (present snapshot : Graph) (class page : ℕ) (best : Option Candidate) (chosen : ℕ) (c : Candidate) (p : Page) (new : Store) → Consistent h present snapshot → AtPass h class page best chosen
    → is_chosen h.store.pages class (Some c) ≡ true → page_at h.store.pages c.page ≡ Some p → KeepsBlocks h.store new → new.pages ≡ set h.store.pages c.page (Some (record p { evacuating = true }))
    → Consistent (goes_to (record h { store = new }) 1 (phases.Moving (moves.Emptying class c.page 0 (chosen + 1)))) present snapshot
choose_act h present snapshot class page best chosen c p new k at good there w pages =
    let h1 : HeapState = record h { store = new } in
    let old = h.store.pages in
    let v : Option Page = Some (record p { evacuating = true }) in
    let within = page_within old c.page p there in
    let c0 = at_pass h class page best chosen (view present) (view snapshot) at k.parts in
    let c1 = same_coherent (collector_by (seen h) old (phases.Moving (moves.Pass class page best chosen)) h.grey) (seen h1) (view present) (view snapshot) (keeps_seen h new w) c0 in
    let stays = chosen_stays old class c p good there in
    let at' : (x : ℕ) → page_of new.pages x ≡ (if (x - 1) / 2048 == c.page then v else page_of old x) = λ x. ap (λ z. page_at z ((x - 1) / 2048)) pages ∙ set_page old c.page ((x - 1) / 2048) v within in
    let c2 = moves_on (seen h1) old new.pages (moves.Pass class page best chosen) (moves.Emptying class c.page 0 (chosen + 1)) h.grey (view present) (view snapshot) c1
    (λ x r. target_page_on x ((x - 1) / 2048 == c.page) refl (at' x) r) (λ x q. left_on x ((x - 1) / 2048 == c.page) refl (at' x) stays q) in
    again h (goes_to h1 1 (phases.Moving (moves.Emptying class c.page 0 (chosen + 1)))) present snapshot k refl refl refl (keeps_whole h.store new w k.whole) c2
  where
    target_page_on : (x : ℕ) (b : Bool) → ((x - 1) / 2048 == c.page) ≡ b → page_of new.pages x ≡ (if b then Some (record p { evacuating = true }) else page_of h.store.pages x) → is_target_page (page_of h.store.pages x) ≡ true → is_target_page (page_of new.pages x) ≡ true
    target_page_on x true t e r =
        let same : (x - 1) / 2048 ≡ c.page = same_number ((x - 1) / 2048) c.page t in
        ap is_target_page e ∙ sym (ap is_target_page there) ∙ sym (ap (λ z. is_target_page (page_at h.store.pages z)) same) ∙ r
    target_page_on x false t e r = ap is_target_page e ∙ r

    left_on : (x : ℕ) (b : Bool) → ((x - 1) / 2048 == c.page) ≡ b → page_of new.pages x ≡ (if b then Some (record p { evacuating = true }) else page_of h.store.pages x) → p.evacuating ≡ false → is_evacuating (page_of h.store.pages x) ≡ true
        → (if (x - 1) / 2048 == c.page then nat_lt x (reference_of new.pages c.page 0) else is_evacuating (page_of new.pages x)) ≡ true
    left_on x true t e stays q =
        let same : (x - 1) / 2048 ≡ c.page = same_number ((x - 1) / 2048) c.page t in
        let r : false ≡ true = sym stays ∙ sym (ap is_evacuating there) ∙ sym (ap (λ z. is_evacuating (page_at h.store.pages z)) same) ∙ q in
        absurd (cc)
    left_on x false t e stays q = rw t (ap is_evacuating e ∙ q)

-- moving ends
pub moving_end_act : (h : HeapState) (present snapshot : Graph) → Consistent h present snapshot → MovingDone h → Consistent (goes_to h 1 phases.Idle) present snapshot
moving_end_act h present snapshot c (No_class page best chosen e) =
    let c0 = at_phase h (phases.Moving (moves.Pass CLASSES page best chosen)) (view present) (view snapshot) e c.parts in
    again h (goes_to h 1 phases.Idle) present snapshot c refl refl refl c.whole (record { at = c0.at; base = c0.base; stage = c0.stage.0 })
moving_end_act h present snapshot c (No_page class page block chosen p e at done all) =
    let c0 = at_phase h (phases.Moving (moves.Emptying class page block chosen)) (view present) (view snapshot) e c.parts in
    again h (goes_to h 1 phases.Idle) present snapshot c refl refl refl c.whole (record { at = c0.at; base = c0.base; stage = c0.stage.0 })

-- a block is moved
move_field : {A : Type 0} (none : A) (f : BlockRecord → A) (old new : Store) (a b : ℕ) → MovesBlock old new a b → ((n : BlockRecord) (v : ℕ) → f (with_forward n v) ≡ f n) → (z : ℕ) → (if z == b + 1 then true else (if z == 0 then true else is_allocated old (z - 1))) ≡ true
    → (if z == 0 then none else f (record_of new (z - 1))) ≡ (if z == b + 1 then (if a + 1 == 0 then none else f (record_of old (a + 1 - 1))) else (if z == 0 then none else f (record_of old (z - 1))))
move_field none f old new a b w same z l = by_copy (z == b + 1) refl l
  where
    by_from : (t : Bool) → (z - 1 == a) ≡ t → is_allocated old (z - 1) ≡ true → f (record_of new (z - 1)) ≡ f (record_of old (z - 1))
    by_from true t l = let e : z - 1 ≡ a = grind arith in ap (λ y. f (record_of new y)) e ∙ ap f w.forward ∙ same (record_of old a) b ∙ sym (ap (λ y. f (record_of old y)) e)
    by_from false t l = let ne : z - 1 ≢ a = grind arith in ap f (w.nodes (z - 1) ne l)

    by_null : (t : Bool) → (if t then true else is_allocated old (z - 1)) ≡ true → (if t then none else f (record_of new (z - 1))) ≡ (if t then none else f (record_of old (z - 1)))
    by_null true l = refl
    by_null false l = by_from (z - 1 == a) refl l

    by_copy : (t : Bool) → (z == b + 1) ≡ t → (if t then true else (if z == 0 then true else is_allocated old (z - 1))) ≡ true
        → (if z == 0 then none else f (record_of new (z - 1))) ≡ (if t then (if a + 1 == 0 then none else f (record_of old (a + 1 - 1))) else (if z == 0 then none else f (record_of old (z - 1))))
    by_copy true t l =
        let e : z ≡ b + 1 = grind arith in
        ap (λ y. if y == 0 then none else f (record_of new (y - 1))) e ∙ behind none (λ y. f (record_of new y)) b ∙ ap f w.copy ∙ same (record_of old a) b ∙ sym (behind none (λ y. f (record_of old y)) a)
    by_copy false t l = by_null (z == 0) l

move_forward_field : (old new : Store) (a b : ℕ) → MovesBlock old new a b → (z : ℕ) → (if z == b + 1 then true else (if z == 0 then true else is_allocated old (z - 1))) ≡ true
    → (if z == 0 then 0 else (record_of new (z - 1)).forward + 1) ≡ (if z == b + 1 then b + 1 else (if z == a + 1 then b + 1 else (if z == 0 then 0 else (record_of old (z - 1)).forward + 1)))
move_forward_field old new a b w z l = by_copy (z == b + 1) refl l
  where
    by_null : (t : Bool) → (z == 0) ≡ t → z ≢ a + 1 → (if t then true else is_allocated old (z - 1)) ≡ true → (if t then 0 else (record_of new (z - 1)).forward + 1) ≡ (if t then 0 else (record_of old (z - 1)).forward + 1)
    by_null true q ne l = refl
    by_null false q ne l = ap (λ (n : BlockRecord). n.forward + 1) (w.nodes (z - 1) (let p : z ≢ 0 = grind arith in omega arith) l)

    by_from : (t : Bool) → (z == a + 1) ≡ t → (if z == 0 then true else is_allocated old (z - 1)) ≡ true → (if z == 0 then 0 else (record_of new (z - 1)).forward + 1) ≡ (if t then b + 1 else (if z == 0 then 0 else (record_of old (z - 1)).forward + 1))
    by_from true t l = let e : z ≡ a + 1 = grind arith in ap (λ y. if y == 0 then 0 else (record_of new (y - 1)).forward + 1) e ∙ behind 0 (λ y. (record_of new y).forward + 1) a ∙ ap (λ (n : BlockRecord). n.forward + 1) w.forward
    by_from false t l = by_null (z == 0) refl (grind arith) l

    by_copy : (t : Bool) → (z == b + 1) ≡ t → (if t then true else (if z == 0 then true else is_allocated old (z - 1))) ≡ true
        → (if z == 0 then 0 else (record_of new (z - 1)).forward + 1) ≡ (if t then b + 1 else (if z == a + 1 then b + 1 else (if z == 0 then 0 else (record_of old (z - 1)).forward + 1)))
    by_copy true t l = let e : z ≡ b + 1 = grind arith in ap (λ y. if y == 0 then 0 else (record_of new (y - 1)).forward + 1) e ∙ behind 0 (λ y. (record_of new y).forward + 1) b ∙ ap (λ (n : BlockRecord). n.forward + 1) w.copy
    by_copy false t l = by_from (z == a + 1) refl l

pub move_seen : (h : HeapState) (new : Store) (a b : ℕ) → MovesBlock h.store new a b → SameBlocks (move (seen h) (a + 1) (b + 1)) (seen (record h { store = new }))
move_seen h new a b w = record {
  next = refl;
  roots = refl;
  root = λ j m. refl;
  allocated = allocated_put h.store new b true w.allocated w.same;
  says = record {
    forward = λ z m. move_forward_field h.store new a b w z m;
    name = λ z m. let f = λ (y : BlockRecord). let k : Name = record { identity = y.identity; part = y.part } in k in move_field null f h.store new a b w (λ n v. refl) z m;
    width = λ z m. move_field 0 width_at h.store new a b w (λ n v. refl) z m;
    words = λ z m. let f = λ (y : BlockRecord). drop (width_at y) y.cells in move_field [] f h.store new a b w (λ n v. refl) z m;
    shape = λ z m. let f = λ (y : BlockRecord). y.shape in move_field _ f h.store new a b w (λ n v. refl) z m;
    marked = λ z m. move_field true (λ y. same_colour h.mark_parity y.colour) h.store new a b w (λ n v. refl) z m;
    cell = λ z i m k. move_field 0 (λ y. get_or y.cells i 0) h.store new a b w (λ n v. refl) z m;
  };
}

move_whole : (old new : Store) (a b : ℕ) → MovesBlock old new a b → is_allocated old a ≡ true → IsWhole old → IsWhole new
move_whole old new a b w la k c l = by_copy (c == b) refl
  where
    by_from : (t : Bool) → (c == a) ≡ t → is_allocated old c ≡ true → length (record_of new c).cells ≡ part_cells (cells_of (record_of new c).shape) (record_of new c).part
    by_from true t l = let e : c ≡ a = grind arith in subst (λ (n : BlockRecord). length n.cells ≡ part_cells (cells_of n.shape) n.part) (sym (ap (record_of new) e ∙ w.forward)) (k a la)
    by_from false t l = let ne : c ≢ a = grind arith in subst (λ (n : BlockRecord). length n.cells ≡ part_cells (cells_of n.shape) n.part) (sym (w.nodes c ne l)) (k c l)

    by_copy : (t : Bool) → (c == b) ≡ t → length (record_of new c).cells ≡ part_cells (cells_of (record_of new c).shape) (record_of new c).part
    by_copy true t = let e : c ≡ b = grind arith in subst (λ (n : BlockRecord). length n.cells ≡ part_cells (cells_of n.shape) n.part) (sym (ap (record_of new) e ∙ w.copy)) (k a la)
    by_copy false t = let ne : c ≢ b = grind arith in by_from (c == a) refl (sym (w.same c ne) ∙ l)

pub usable_fits : (class : ℕ) (q : Page) → is_usable class (Some q) ≡ true → (q.class ≡ class) × (q.evacuating ≡ false)
usable_fits class q e = by_class (q.class == class) refl e
  where
    by_evacuating : (b : Bool) (o : Bool) → (not b && o) ≡ true → b ≡ false
    by_evacuating true o h = absurd (cc)
    by_evacuating false o h = refl

    by_class : (b : Bool) → (q.class == class) ≡ b → (b && (not q.evacuating && is_some (position not q.allocated))) ≡ true → (q.class ≡ class) × (q.evacuating ≡ false)
    by_class true t h = (grind arith, by_evacuating q.evacuating (is_some (position not q.allocated)) h)
    by_class false t h = absurd (cc)

pub below_end : (k size : ℕ) → 0 < size → (k + 1) * size ≤ 2048 → k * size < 2048
below_end k size s l = grind arith

pub not_below : (i block size size' page : ℕ) → block ≤ i → size ≡ size' → nat_lt (2048 * page + i * size + 1) (2048 * page + block * size' + 1) ≡ false
not_below i block size size' page l s = let m = mul-le-mul_right size l in let q : block * size ≡ block * size' = ap (λ z. block * z) s in grind arith

below_next : (i size size' page : ℕ) → 0 < size → size ≡ size' → nat_lt (2048 * page + i * size + 1) (2048 * page + (i + 1) * size' + 1) ≡ true
below_next i size size' page l s = let q : (i + 1) * size ≡ (i + 1) * size' = ap (λ z. (i + 1) * z) s in let d : (i + 1) * size ≡ i * size + size = grind arith in grind arith

still_below : (page z block i size size' : ℕ) → size ≡ size' → block ≤ i → nat_lt z (2048 * page + block * size + 1) ≡ true → nat_lt z (2048 * page + (i + 1) * size' + 1) ≡ true
still_below page z block i size size' s l r =
    let m = mul-le-mul_right size (more i block l) in
    let q : (i + 1) * size ≡ (i + 1) * size' = ap (λ z. (i + 1) * z) s in
    grind arith
  where
    more : (i block : ℕ) → block ≤ i → block ≤ i + 1
    more i block l = omega arith

pub move_act : (h : HeapState) (present snapshot : Graph) (class page block chosen i to j : ℕ) (p q : Page) (new : Store) → ArePages h.store.pages → Consistent h present snapshot → h.phase ≡ phases.Moving (moves.Emptying class page block chosen)
    → page_at h.store.pages page ≡ Some p → p.evacuating ≡ true → IsNext p block i → position (is_usable p.class) h.store.pages ≡ Some to → page_at h.store.pages to ≡ Some q → slice_get q.allocated j ≡ Some false
    → MovesBlock h.store new (address_of p.class page i) (address_of p.class to j) → new.pages ≡ set h.store.pages to (Some (record (with_allocated q j true) { is_target = true })) → (cost : ℕ)
    → Consistent (goes_to (record h { store = new }) cost (phases.Moving (moves.Emptying class page (i + 1) chosen))) present snapshot
move_act h present snapshot class page block chosen i to j p q new store c e at_p evacuating next place at_q empty w pages cost =
    let old = h.store.pages in
    let size = size_of p.class in
    let a = address_of p.class page i in
    let b = address_of p.class to j in
    let x = a + 1 in
    let y = b + 1 in
    let h1 : HeapState = record h { store = new } in
    let was = phases.Moving (moves.Emptying class page block chosen) in
    let now = phases.Moving (moves.Emptying class page (i + 1) chosen) in
    let m = collector_by (seen h) old was h.grey in
    let c0 = at_phase h was (view present) (view snapshot) e c.parts in
    let is_p = is_page h.store page p store at_p in
    let is_q = is_page h.store to q store at_q in
    let usable : is_usable p.class (Some q) ≡ true = ap (is_usable p.class) (sym at_q) ∙ (position-Some (is_usable p.class) old to None place).1 in
    let good = usable_fits p.class q usable in
    let within_p = block_within p i is_p (slice_get_within p.allocated i true next.allocated) in
    let within_q0 = block_within q j is_q (slice_get_within q.allocated j false empty) in
    let within_q : (j + 1) * size ≤ 2048 = subst (λ z. (j + 1) * size_of z ≤ 2048) good.0 within_q0 in
    let some = size_some p is_p in
    let less_p : i * size < 2048 = below_end i size some within_p in
    let less_q : j * size < 2048 = below_end j size some within_q in
    let page_x : (x - 1) / 2048 ≡ page = page_of_place page (x - 1) (omega arith) (omega arith) in
    let page_y : (y - 1) / 2048 ≡ to = page_of_place to (y - 1) (omega arith) (omega arith) in
    let allocated_a : is_allocated h.store a ≡ true = allocated_at h.store page i p store at_p next.allocated in
    let allocated_x : (seen h).allocated x ≡ true = behind true (λ z. is_allocated h.store z) a ∙ allocated_a in
    let free_y : (seen h).allocated y ≡ false = behind true (λ z. is_allocated h.store z) b ∙ w.free in
    let not_past : nat_lt x (reference_of old page block) ≡ false = not_below i block size (size_in (page_at old page)) page next.from (sym (ap size_in at_p)) in
    let unleft : is_left old was x ≡ false = is_here old x page_x not_past in
    let apart : to ≢ page = λ z. let s : Some q ≡ Some p = sym at_q ∙ ap (page_at old) z ∙ at_p in let t : q ≡ p = same_Some q p s in let u : false ≡ true = sym good.1 ∙ ap (λ (r : Page). r.evacuating) t ∙ evacuating in (cc) in
    let unreceiving : is_target_page (page_of old x) ≡ false = ap (λ z. is_target_page (page_at old z)) page_x ∙ ap is_target_page at_p ∙ marks_apart p.evacuating p.is_target evacuating is_p.marks in
    let v : Option Page = Some (record (with_allocated q j true) { is_target = true }) in
    let l_to = page_within old to q at_q in
    let at_new : (z : ℕ) → page_of new.pages z ≡ (if (z - 1) / 2048 == to then v else page_of old z) = λ z. ap (λ r. page_at r ((z - 1) / 2048)) pages ∙ set_page old to ((z - 1) / 2048) v l_to in
    let new_page : page_at new.pages page ≡ Some p = ap (λ r. page_at r page) pages ∙ set_page old to page v l_to ∙ (let f : (page == to) ≡ false = not_number page to (λ z. apart (sym z)) in rw f at_p) in
    let receives : is_target_page (page_of new.pages y) ≡ true = ap is_target_page (at_new y) ∙ (let f : ((y - 1) / 2048 == to) ≡ true = at_number ((y - 1) / 2048) to page_y in rw f refl) in
    let past : nat_lt x (reference_of new.pages page (i + 1)) ≡ true = below_next i size (size_in (page_at new.pages page)) page some (sym (ap size_in new_page)) in
    let left_now : is_left new.pages now x ≡ true = is_here new.pages x page_x past in
    let c1 = acts m (record m { heap = move (seen h) x y; is_target = λ z. is_target_page (page_of new.pages z); left = λ z. is_left new.pages now z }) (view present) (view snapshot)
    (collector.Moves_block x y (λ z. is_target_page (page_of new.pages z)) (λ z. is_left new.pages now z) refl allocated_x unleft (let s : x ≢ 0 = omega arith in s) unreceiving free_y receives
    (λ z r. target_page_on z ((z - 1) / 2048 == to) (at_new z) r) left_now
    (λ z r. left_on z ((z - 1) / 2048 == page) refl ((z - 1) / 2048 == to) refl (at_new z) new_page r)) c0 in
    let m1 : Collector = record m { heap = move (seen h) x y; is_target = λ z. is_target_page (page_of new.pages z); left = λ z. is_left new.pages now z } in
    let c2 = same_coherent m1 (seen h1) (view present) (view snapshot) (move_seen h new a b w) c1 in
    again h (goes_to h1 cost now) present snapshot c refl refl refl (move_whole h.store new a b w allocated_a c.whole) (record { at = c2.at; base = c2.base; stage = c2.stage })
  where
    is_here : {r b : Bool} (pages : List (Option Page)) (x : ℕ) → (x - 1) / 2048 ≡ page → r ≡ b → (if (x - 1) / 2048 == page then r else is_evacuating (page_of pages x)) ≡ b
    is_here pages x s t = let f : ((x - 1) / 2048 == page) ≡ true = at_number ((x - 1) / 2048) page s in rw f t

    marks_apart : (l r : Bool) → l ≡ true → (l && r) ≡ false → r ≡ false
    marks_apart true r e m = m
    marks_apart false r e m = absurd (cc)

    target_page_on : (z : ℕ) (t : Bool) → page_of new.pages z ≡ (if t then Some (record (with_allocated q j true) { is_target = true }) else page_of h.store.pages z) → is_target_page (page_of h.store.pages z) ≡ true → is_target_page (page_of new.pages z) ≡ true
    target_page_on z true f r = ap is_target_page f
    target_page_on z false f r = ap is_target_page f ∙ r

    left_on : (z : ℕ) (s : Bool) → ((z - 1) / 2048 == page) ≡ s → (t : Bool) → ((z - 1) / 2048 == to) ≡ t → page_of new.pages z ≡ (if t then Some (record (with_allocated q j true) { is_target = true }) else page_of h.store.pages z) → page_at new.pages page ≡ Some p
        → (if s then nat_lt z (reference_of h.store.pages page block) else is_evacuating (page_of h.store.pages z)) ≡ true → (if (z - 1) / 2048 == page then nat_lt z (reference_of new.pages page (i + 1)) else is_evacuating (page_of new.pages z)) ≡ true
    left_on z true e t f at np r =
        let sizes : size_in (page_at h.store.pages page) ≡ size_in (page_at new.pages page) = ap size_in at_p ∙ sym (ap size_in np) in
        rw e (still_below page z block i (size_in (page_at h.store.pages page)) (size_in (page_at new.pages page)) sizes next.from r)
    left_on z false e true f at np r =
        let same : (z - 1) / 2048 ≡ to = same_number ((z - 1) / 2048) to f in
        rw e (ap is_evacuating at ∙ sym (ap is_evacuating at_q) ∙ sym (ap (λ k. is_evacuating (page_at h.store.pages k)) same) ∙ r)
    left_on z false e false f at np r = rw e (ap is_evacuating at ∙ r)
