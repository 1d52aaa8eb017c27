-- Mutators take no work away.
use Rattle.std.proofs.Common.{Bool, List, ◌≡◌, ◌≢◌, ℕ, ◌+◌, ◌-◌, ◌*◌, ◌/◌, ◌<◌, ◌≤◌, inl, inr, true, false, length, set, refl, ap, subst, sym, ◌∙◌, arith, length-set}
use Rattle.std.proofs.lemmas.Bool.{cases_Bool, cases_eq}
use Rattle.graph_heap.specs.declared.command.Shape.{Shape}
use Rattle.graph_heap.specs.Shape.{fits}
use Rattle.size_classes.specs.declared.class.TheConstants.{CLASSES}
use Rattle.heap_model.specs.declared.phase.Phase.{Phase}
use Rattle.heap_model.specs.declared.phase.Phase.TheVariants as phases
use Rattle.heap_model.specs.declared.phase.Moving.TheVariants as moves
use Rattle.heap_model.specs.Block.{with_cell}
use Rattle.heap_model.specs.Pages.{page_at}
use Rattle.heap_model.specs.Store.{Store, Writes, is_allocated, size_at, size_in, record_of}
use Rattle.heap_model.specs.Core.{Heap}
use Rattle.heap_model.specs.Collector.{contains}
use Rattle.heap_model.specs.State.{HeapState, seen, width_at, collector_by, collector_of}
use Rattle.heap_model.specs.Agreement.{IsWhole}
use Rattle.heap_model.specs.Making.{MakesObject}
use Rattle.heap_model.specs.Action.{Shades, Was_marked, Is_marked}
use Rattle.heap_model.specs.Units.{total, work, gone}
use Rattle.heap_model.specs.Spent.{arena_words, marking_work, moving_work, IsWithin, DoesMore}
use Rattle.heap_model.proofs.Core.Same.{SameBlocks}
use Rattle.heap_model.proofs.Core.NewParts.{parts_of}
use Rattle.heap_model.proofs.Core.Edits.{shade, set_cell, set_word}
use Rattle.heap_model.proofs.State.{cell_seen, word_seen}
use Rattle.heap_model.proofs.Making.{reference, makes_object}
use Rattle.heap_model.proofs.Action.Collecting.{allocated_behind}
use Rattle.heap_model.proofs.Action.Shading.{shade_seen, shades_phase}
use Rattle.heap_model.proofs.Units.{total_le, shaded_work, made_work}
use Rattle.heap_model.proofs.Store.Apart.{size_behind}
use Rattle.heap_model.proofs.Spent.Actions.{same_work, gone_same, shaded_work_state, shades_grey, shades_units}

pub more_within : (h after : HeapState) → DoesMore h after → IsWithin h h.phase → IsWithin after after.phase
more_within h after w i = subst (λ z. IsWithin after z) (sym w.phase) (by_phase h.phase i)
  where
    by_phase : (q : Phase) → IsWithin h q → IsWithin after q
    by_phase phases.Idle v =
        let a = w.units in let r = w.roots in let p = w.pages in let d = w.defrag in
        let e : (h.defrag_pages + CLASSES) * length h.store.pages ≡ (after.defrag_pages + CLASSES) * length after.store.pages = ap (λ z. (z + CLASSES) * length h.store.pages) (sym d) ∙ ap (λ z. (after.defrag_pages + CLASSES) * z) (sym p) in
        omega arith
    by_phase (phases.Roots next) v = let a = w.units in let r = w.roots in let b = v.0 in let c = v.1 in (omega arith, omega arith, w.grey v.2)
    by_phase (phases.Marking part cell) v = let a = w.units in let r = w.roots in let m = w.marking in let b = v.0 in (omega arith, w.grey v.1)
    by_phase (phases.Sweeping page block) v = let a = w.units in let r = w.roots in let p = w.pages in let b = v.0 in let c = v.2 in (omega arith, v.1, omega arith)
    by_phase (phases.Moving (moves.Pass class page best chosen)) v =
        let a = w.units in let r = w.roots in let p = w.pages in let d = w.defrag in let m = w.moving in let b = v.0 in let c = v.2 in let f = v.3 in
        let e : (chosen + class) * length h.store.pages ≡ (chosen + class) * length after.store.pages = ap (λ z. (chosen + class) * z) (sym p) in
        (omega arith, v.1, omega arith, omega arith)
    by_phase (phases.Moving (moves.Emptying class page block chosen)) v =
        let a = w.units in let r = w.roots in let p = w.pages in let d = w.defrag in let m = w.moving in let b = v.0 in let f = v.2 in
        let e : (chosen + class) * length h.store.pages ≡ (chosen + class) * length after.store.pages = ap (λ z. (chosen + class) * z) (sym p) in
        (omega arith, v.1, omega arith)

-- with as many pages, and no less work and no less to move in any block
no_less : (h after : HeapState) → after.units ≡ h.units → after.phase ≡ h.phase → after.defrag_pages ≡ h.defrag_pages → length after.roots ≡ length h.roots → length after.store.pages ≡ length h.store.pages → (contains h.grey 0 ≡ false → contains after.grey 0 ≡ false)
    → ((x : ℕ) → work (collector_of h) x ≤ work (collector_of after) x) → ((x : ℕ) → gone (seen h) (size_behind h) x ≤ gone (seen after) (size_behind after) x) → DoesMore h after
unfolding marking_work moving_work
no_less h after units phase defrag roots pages grey one two = record { units = units; phase = phase; defrag = defrag; roots = roots; pages = pages; grey = grey; marking = in_pages _ _ one; moving = in_pages _ _ two }
  where
    in_pages : (f g : ℕ → ℕ) → ((x : ℕ) → f x ≤ g x) → total f (arena_words h + 1) ≤ total g (arena_words after + 1)
    in_pages f g le = subst (λ z. total f (arena_words h + 1) ≤ total g (2048 * z + 1)) (sym pages) (total_le f g (arena_words h + 1) (λ x l. le x))

-- and with as much of both
as_much : (h after : HeapState) → after.units ≡ h.units → after.phase ≡ h.phase → after.defrag_pages ≡ h.defrag_pages → length after.roots ≡ length h.roots → length after.store.pages ≡ length h.store.pages → (contains h.grey 0 ≡ false → contains after.grey 0 ≡ false)
    → ((x : ℕ) → work (collector_of h) x ≡ work (collector_of after) x) → ((x : ℕ) → gone (seen h) (size_behind h) x ≡ gone (seen after) (size_behind after) x) → DoesMore h after
as_much h after units phase defrag roots many grey one two = no_less h after units phase defrag roots many grey (λ x. let e = one x in omega arith) (λ x. let e = two x in omega arith)

-- who is live is no work
pub live_more : (h : HeapState) (live : List Bool) → DoesMore h (record h { live = live })
live_more h live = as_much h (record h { live = live }) refl refl refl refl refl (λ n. n) (λ x. unfold work in refl) (λ x. unfold gone in refl)

-- a root is written
pub root_more : (h : HeapState) (j y : ℕ) → DoesMore h (record h { roots = set h.roots j y })
root_more h j y = as_much h (record h { roots = set h.roots j y }) refl refl refl (length-set h.roots j y) refl (λ n. n) (λ x. unfold work in refl) (λ x. unfold gone in refl)

size_pages : (s t : Store) (b : ℕ) → t.pages ≡ s.pages → size_at t b ≡ size_at s b
unfolding size_at
size_pages s t b e = ap (λ z. size_in (page_at z (b / 2048))) e

-- a cell of a block is written
pub cell_more : (h : HeapState) (new : Store) (b : Heap) → new.pages ≡ h.store.pages → ((x : ℕ) → work (collector_of h) x ≡ work (record (collector_of h) { heap = b }) x) → ((x : ℕ) → gone (seen h) (size_behind h) x ≡ gone b (size_behind h) x) → SameBlocks b (seen (record h { store = new })) → DoesMore h (record h { store = new })
cell_more h new b pages w g e =
    let h1 : HeapState = record h { store = new } in
    let one : (x : ℕ) → work (collector_of h) x ≡ work (collector_of h1) x = λ x. w x ∙ same_work (record (collector_of h) { heap = b }) (seen h1) x e ∙ ap (λ z. work (collector_by (seen h1) z h.phase h.grey) x) (sym pages) in
    let two : (x : ℕ) → gone (seen h) (size_behind h) x ≡ gone (seen h1) (size_behind h1) x = λ x. g x ∙ gone_same b (seen h1) (size_behind h) (size_behind h1) x e (λ l. sym (size_pages h.store new (x - 1) pages)) in
    as_much h h1 refl refl refl refl (ap length pages) (λ n. n) one two

pub ref_more : (h : HeapState) (new : Store) (a i v : ℕ) → Writes h.store new a (with_cell (record_of h.store a) i v) → i < length (record_of h.store a).cells → i < width_at (record_of h.store a) → DoesMore h (record h { store = new })
ref_more h new a i v w l lw = cell_more h new (set_cell (seen h) (a + 1) i v) w.pages (λ x. unfold work in refl) (λ x. unfold gone in refl) (cell_seen h new a i v w l lw)

pub word_more : (h : HeapState) (new : Store) (a c v : ℕ) → Writes h.store new a (with_cell (record_of h.store a) (width_at (record_of h.store a) + c) v) → DoesMore h (record h { store = new })
word_more h new a c v w = cell_more h new (set_word (seen h) (a + 1) c v) w.pages (λ x. unfold work in refl) (λ x. unfold gone in refl) (word_seen h new a c v w)

-- a main copy is shaded
pub shade_more : (h after : HeapState) (x : ℕ) → Shades h x after → DoesMore h after
shade_more h k x sh =
    let s = shades_units h k x sh in
    let pages = s.2 in
    let one : (y : ℕ) → work (collector_of h) y ≡ work (collector_of k) y = λ y. sym (shaded_work (collector_of h) x y) ∙ shaded_work_state h k x h.phase sh y ∙ ap (λ z. work (collector_by (seen k) k.store.pages z k.grey) y) (sym (shades_phase h k x sh)) in
    let two : (y : ℕ) → gone (seen h) (size_behind h) y ≡ gone (seen k) (size_behind k) y = λ y. unmarked h x y ∙ gone_same (shade (seen h) x) (seen k) (size_behind h) (size_behind k) y (shade_seen h k x sh) (λ l. sym (size_pages h.store k.store (y - 1) pages)) in
    as_much h k s.0 (shades_phase h k x sh) (shades_defrag h k x sh) (ap length s.1) (ap length pages) (shades_grey h k x sh) one two
  where
    shades_defrag : (h k : HeapState) (x : ℕ) → Shades h x k → k.defrag_pages ≡ h.defrag_pages
    shades_defrag h k x (Was_marked e) = refl
    shades_defrag h k x (Is_marked new front back is e w) = refl

    unmarked : (h : HeapState) (x y : ℕ) → gone (seen h) (size_behind h) y ≡ gone (shade (seen h) x) (size_behind h) y
    unmarked h x y = unfold gone in refl

made_gone : (a b : Heap) (s t : ℕ → ℕ) (x : ℕ) → (a.allocated x ≡ true → b.allocated x ≡ true) → (a.allocated x ≡ true → b.forward x ≡ a.forward x) → (a.allocated x ≡ true → x ≢ 0 → t x ≡ s x) → a.forward 0 ≡ 0 → gone a s x ≤ gone b t x
unfolding gone
made_gone a b s t x allocated forward size zero = elim (cases_eq x 0) [
  | inl e ↦ (let f : a.forward x ≡ x = ap a.forward e ∙ zero ∙ sym e in grind arith)
  | inr ne ↦ elim (cases_Bool (a.allocated x)) [ inl l ↦ (let h = allocated l in let f = forward l in let q = size l ne in grind arith) | inr l ↦ grind arith ]
]

-- a new object is made
pub new_more : (h : HeapState) (new : Store) (at : ℕ → ℕ) (j : ℕ) (shape : Shape) → fits shape ≡ true → IsWhole h.store → MakesObject h.store shape h.mark_parity h.next at new → length new.pages ≡ length h.store.pages
    → ((b : ℕ) → is_allocated h.store b ≡ true → size_at new b ≡ size_at h.store b) → DoesMore h (record h { store = new; next = h.next + 1; roots = set h.roots j (at 0 + 1) })
new_more h new at j shape f whole making many sizes =
    let h1 : HeapState = record h { store = new; next = h.next + 1 } in
    let h2 : HeapState = record h { store = new; next = h.next + 1; roots = set h.roots j (at 0 + 1) } in
    let mk = makes_object h shape at new f whole making in
    let one : (x : ℕ) → work (collector_of h) x ≤ work (collector_of h2) x = λ x. let a = made_work (collector_of h) (seen h1) (parts_of shape) (reference at) x mk in let e = same_marks x in omega arith in
    let two : (x : ℕ) → gone (seen h) (size_behind h) x ≤ gone (seen h2) (size_behind h2) x = λ x. made_gone (seen h) (seen h2) (size_behind h) (size_behind h2) x (λ l. mk.stays.allocated x l) (λ l. mk.stays.says.forward x l) (λ l some. sizes (x - 1) (allocated_behind h x (omega arith) l)) refl in
    no_less h h2 refl refl refl (length-set h.roots j (at 0 + 1)) many (λ n. n) one two
  where
    same_marks : (x : ℕ) → work (record (collector_of h) { heap = seen (record h { store = new; next = h.next + 1 }) }) x ≡ work (collector_of (record h { store = new; next = h.next + 1; roots = set h.roots j (at 0 + 1) })) x
    same_marks x = unfold work in refl

pub same_more : (h : HeapState) → DoesMore h h
same_more h = record { units = refl; phase = refl; defrag = refl; roots = refl; pages = refl; grey = λ n. n; marking = omega arith; moving = omega arith }
