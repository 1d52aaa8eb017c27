-- Blocks stand where they should, through actions and changes.
use Rattle.std.proofs.Common.{◌≡◌, ◌≢◌, ℕ, ◌+◌, ◌-◌, ◌*◌, ◌/◌, ◌<◌, ◌≤◌, ◌⊎◌, inl, inr, Bool, true, false, ◌&&◌, ◌==◌, if◌then◌else◌, nat_le, List, Option, Some, None, length, set, ap, ◌∙◌, sym, subst, arith, refl}
use Rattle.std.specs.Prelude.{position, slice_get}
use Rattle.std.proofs.lemmas.List.Quantifiers.{position-Some}
use Rattle.std.proofs.lemmas.Option.{same_Some, slice_get_within}
use Rattle.std.proofs.lemmas.Bool.{leb-true}
use Rattle.std.proofs.Math.Nat.{mul-le-mul_right}
use Rattle.graph_heap.specs.declared.command.Shape.{Shape}
use Rattle.graph_heap.specs.Graph.{Object, Graph, object_of}
use Rattle.size_classes.specs.Sizes.{size_of, class_for}
use Rattle.size_classes.specs.Parts.{cells_of, parts_in, part_words}
use Rattle.heap_model.specs.declared.phase.Phase.TheVariants as phases
use Rattle.heap_model.specs.declared.phase.Moving.TheVariants as moves
use Rattle.heap_model.specs.Block.{BlockRecord, with_forward}
use Rattle.heap_model.specs.Pages.{Page, ArePages, page_at, is_usable, with_allocated}
use Rattle.heap_model.specs.Store.{Store, Writes, is_allocated, record_of, address_of, size_in}
use Rattle.heap_model.specs.Core.{Name, null, Sweeping}
use Rattle.heap_model.specs.Cut.{view}
use Rattle.heap_model.specs.Collector.{In_sweep, In_moves, contains}
use Rattle.heap_model.specs.State.{HeapState, seen, page_of, is_target_page, is_evacuating, reference_of, collector_of, progress_of}
use Rattle.heap_model.specs.Agreement.{Consistent}
use Rattle.heap_model.specs.Action.{Shades, Was_marked, Is_marked, KeepsBlocks, Frees, MovesBlock, IsNext, allocated_on, closed, is_looked_at}
use Rattle.heap_model.proofs.State.{allocated_pages, node_kept, behind}
use Rattle.heap_model.proofs.Store.Allocated.{set_page, page_within, allocated_block, size_some, is_page, block_within, page_of_place}
use Rattle.heap_model.proofs.Action.Moving.{same_number, usable_fits, below_end}
use Rattle.heap_model.proofs.Collector.Coherence.{stage_at}
use Rattle.heap_model.proofs.Spent.Actions.{moved_main}
use Rattle.space.specs.Placement.{class_in, IsTidy, KeepsOnly}

pub not_same : (a b : ℕ) → (a == b) ≡ false → a ≢ b
not_same a b e = grind arith

-- two records are the same, except for colours, links and cells
pub record SameHead (m n : BlockRecord) : Type 0 where
  pub identity : m.identity ≡ n.identity
  pub part : m.part ≡ n.part
  pub shape : m.shape ≡ n.shape
  pub forward : m.forward ≡ n.forward

pub same_head : (n : BlockRecord) → SameHead n n
same_head n = record { identity = refl; part = refl; shape = refl; forward = refl }

pub head_then : (a b c : BlockRecord) → SameHead a b → SameHead b c → SameHead a c
head_then a b c f g = record { identity = f.identity ∙ g.identity; part = f.part ∙ g.part; shape = f.shape ∙ g.shape; forward = f.forward ∙ g.forward }

pub head_is : (m n : BlockRecord) → m ≡ n → SameHead m n
head_is m n e = subst (λ z. SameHead m z) e (same_head m)

-- the allocated blocks are some of those before, and say the same
pub record Shrinks (s t : Store) : Type 0 where
  pub allocated : (b : ℕ) → is_allocated t b ≡ true → is_allocated s b ≡ true
  pub head : (b : ℕ) → is_allocated t b ≡ true → SameHead (record_of t b) (record_of s b)

pub shrinks_none : (s : Store) → Shrinks s s
shrinks_none s = record { allocated = λ b l. l; head = λ b l. same_head (record_of s b) }

pub shrinks_then : (a b c : Store) → Shrinks a b → Shrinks b c → Shrinks a c
shrinks_then a b c f g = record {
  allocated = λ x l. f.allocated x (g.allocated x l);
  head = λ x l. head_then (record_of c x) (record_of b x) (record_of a x) (g.head x l) (f.head x (g.allocated x l));
}

pub shrinks_writes : (s t : Store) (a : ℕ) (n : BlockRecord) → Writes s t a n → SameHead n (record_of s a) → Shrinks s t
shrinks_writes s t a n w h = record {
  allocated = λ b l. sym (allocated_pages s t b w.pages) ∙ l;
  head = λ b l. (let l' : is_allocated s b ≡ true = sym (allocated_pages s t b w.pages) ∙ l in record {
    identity = node_kept (λ (z : BlockRecord). z.identity) s t a n w b l' (λ e. h.identity);
    part = node_kept (λ (z : BlockRecord). z.part) s t a n w b l' (λ e. h.part);
    shape = node_kept (λ (z : BlockRecord). z.shape) s t a n w b l' (λ e. h.shape);
    forward = node_kept (λ (z : BlockRecord). z.forward) s t a n w b l' (λ e. h.forward);
  });
}

pub shrinks_shades : (h k : HeapState) (x : ℕ) → Shades h x k → Shrinks h.store k.store × (k.store.pages ≡ h.store.pages)
shrinks_shades h k x (Was_marked e) = (shrinks_none h.store, refl)
shrinks_shades h k x (Is_marked new front back is e w) = (shrinks_writes h.store new (x - 1) _ w (record { identity = refl; part = refl; shape = refl; forward = refl }), w.pages)

pub shrinks_keeps : (s t : Store) → KeepsBlocks s t → Shrinks s t
shrinks_keeps s t k = record {
  allocated = λ b l. sym (k.allocated b) ∙ l;
  head = λ b l. head_is (record_of t b) (record_of s b) (k.nodes b (sym (k.allocated b) ∙ l));
}

pub shrinks_frees : (s t : Store) (a : ℕ) → Frees s t a → Shrinks s t
shrinks_frees s t a f = record { allocated = λ b l. sym (f.same b (apart b l)) ∙ l; head = λ b l. head_is (record_of t b) (record_of s b) (f.nodes b (apart b l) (sym (f.same b (apart b l)) ∙ l)) }
  where
    apart : (b : ℕ) → is_allocated t b ≡ true → b ≢ a
    apart b l e = let z : false ≡ true = sym f.gone ∙ sym (ap (is_allocated t) e) ∙ l in cc

-- what is tidy stays so
abbrev pub class_by : Shape → ℕ → Option ℕ
class_by shape part = class_for (part_words (cells_of shape) part)

pub tidy_less : (s t : Store) (objects : List Object) → Shrinks s t → ((b : ℕ) → is_allocated t b ≡ true → class_in (page_at t.pages (b / 2048)) ≡ class_in (page_at s.pages (b / 2048)))
    → ((b : ℕ) → is_allocated t b ≡ true → is_evacuating (page_at s.pages (b / 2048)) ≡ true → ((record_of t b).forward ≡ b) ⊎ (is_evacuating (page_at t.pages (b / 2048)) ≡ true)) → IsTidy s objects → IsTidy t objects
tidy_less s t objects f same leave w = record {
  class = λ b l. (let h = f.head b l in ap (λ z. class_by z (record_of t b).part) h.shape ∙ ap (class_by (record_of s b).shape) h.part ∙ w.class b (f.allocated b l) ∙ sym (same b l));
  part = λ b l. (let h = f.head b l in let p = w.part b (f.allocated b l) in let e : parts_in (cells_of (record_of t b).shape) ≡ parts_in (cells_of (record_of s b).shape) = ap (λ z. parts_in (cells_of z)) h.shape in let q = h.part in omega (arith, e, p, q));
  given = λ b l. (let h = f.head b l in let q = h.identity in let p = w.given b (f.allocated b l) in omega (arith, p, q));
  shape = λ b l. (let h = f.head b l in h.shape ∙ w.shape b (f.allocated b l) ∙ ap (λ z. (object_of objects z).shape) (sym h.identity));
  one = λ a b l m p q i j. (let h = f.head a l in let k = f.head b m in w.one a b (f.allocated a l) (f.allocated b m) (sym h.forward ∙ p) (sym k.forward ∙ q) (sym h.identity ∙ i ∙ k.identity) (sym h.part ∙ j ∙ k.part));
  one_old = λ a b l m p q i j. (let h = f.head a l in let k = f.head b m in w.one_old a b (f.allocated a l) (f.allocated b m) (λ z. p (h.forward ∙ z)) (λ z. q (k.forward ∙ z)) (sym h.identity ∙ i ∙ k.identity) (sym h.part ∙ j ∙ k.part));
  old = λ b l. elim (w.old b (f.allocated b l)) [
    | inl e ↦ inl ((f.head b l).forward ∙ e)
    | inr e ↦ leave b l e
  ];
}

pub tidy_same : (s t : Store) (objects : List Object) → Shrinks s t → t.pages ≡ s.pages → IsTidy s objects → IsTidy t objects
tidy_same s t objects f e w = tidy_less s t objects f (λ b l. ap (λ z. class_in (page_at z (b / 2048))) e) (λ b l i. inr (ap (λ z. is_evacuating (page_at z (b / 2048))) e ∙ i)) w

pub only_less : (s t : Store) (base : ℕ) (ids : List ℕ) → Shrinks s t → KeepsOnly s base ids → KeepsOnly t base ids
only_less s t base ids f w b l main small =
    let h = f.head b l in
    let i = h.identity in
    ap (contains ids) i ∙ w b (f.allocated b l) (sym h.forward ∙ main) (omega (arith, i, small))

-- One page replaces another.
class_put : (old new : List (Option Page)) (k : ℕ) (v : Option Page) → k < length old → new ≡ set old k v → class_in v ≡ class_in (page_at old k) → (j : ℕ) → class_in (page_at new j) ≡ class_in (page_at old j)
class_put old new k v l e same j = by_place (j == k) refl (ap (λ z. page_at z j) e ∙ set_page old k j v l)
  where
    by_place : (t : Bool) → (j == k) ≡ t → page_at new j ≡ (if t then v else page_at old j) → class_in (page_at new j) ≡ class_in (page_at old j)
    by_place true t f = ap class_in f ∙ same ∙ ap (λ z. class_in (page_at old z)) (sym (same_number j k t))
    by_place false t f = ap class_in f

leave_put : (old new : List (Option Page)) (k : ℕ) (v : Option Page) → k < length old → new ≡ set old k v → (is_evacuating (page_at old k) ≡ true → is_evacuating v ≡ true) → (j : ℕ) → is_evacuating (page_at old j) ≡ true → is_evacuating (page_at new j) ≡ true
leave_put old new k v l e same j on = by_place (j == k) refl (ap (λ z. page_at z j) e ∙ set_page old k j v l)
  where
    by_place : (t : Bool) → (j == k) ≡ t → page_at new j ≡ (if t then v else page_at old j) → is_evacuating (page_at new j) ≡ true
    by_place true t f = ap is_evacuating f ∙ same (ap (λ z. is_evacuating (page_at old z)) (sym (same_number j k t)) ∙ on)
    by_place false t f = ap is_evacuating f ∙ on

pub tidy_put : (s t : Store) (objects : List Object) (k : ℕ) (p q : Page) → Shrinks s t → page_at s.pages k ≡ Some p → t.pages ≡ set s.pages k (Some q) → q.class ≡ p.class → (p.evacuating ≡ true → q.evacuating ≡ true) → IsTidy s objects → IsTidy t objects
tidy_put s t objects k p q f at is same on w =
    let l = page_within s.pages k p at in
    tidy_less s t objects f (λ b m. class_put s.pages t.pages k (Some q) l is (ap Some same ∙ ap class_in (sym at)) (b / 2048))
    (λ b m i. inr (leave_put s.pages t.pages k (Some q) l is (λ z. on (sym (ap is_evacuating at) ∙ z)) (b / 2048) i)) w

-- what stands on a page when the sweeper closes it is a main copy
pub closes_main : (h : HeapState) (present snapshot : Graph) (page block : ℕ) → ArePages h.store.pages → Consistent h present snapshot → h.phase ≡ phases.Sweeping page block → is_looked_at (page_at h.store.pages page) block ≡ true
    → (b : ℕ) → b / 2048 ≡ page → is_allocated h.store b ≡ true → (record_of h.store b).forward ≡ b
closes_main h present snapshot page block pages c e looked b here l =
    let w : Sweeping (seen h) (view present) (view snapshot) c.parts.at (reference_of h.store.pages page block) = stage_at (collector_of h) (view present) (view snapshot) c.parts (In_sweep (reference_of h.store.pages page block)) (ap (progress_of h.store.pages) e) in
    let q = allocated_block h.store b l in
    let p = q.0 in
    let i = q.1 in
    let at : page_at h.store.pages page ≡ Some p = ap (page_at h.store.pages) (sym here) ∙ q.2.page in
    let within = slice_get_within p.allocated i true q.2.allocated in
    let less : nat_le (length p.allocated) block ≡ true = subst (λ z. is_looked_at z block ≡ true) at looked in
    let below : i < block = (let z = leb-true (length p.allocated) block less in omega (arith, z, within)) in
    let some = size_some p (is_page h.store page p pages at) in
    let size : size_in (page_at h.store.pages page) ≡ size_of p.class = ap size_in at in
    let before : i * size_of p.class < block * size_of p.class = times_less i block (size_of p.class) some below in
    let address : b ≡ 2048 * page + i * size_of p.class = q.2.address ∙ ap (λ z. 2048 * z + i * size_of p.class) here in
    let place : reference_of h.store.pages page block ≡ 2048 * page + block * size_of p.class + 1 = ap (λ z. 2048 * page + block * z + 1) size in
    let allocated_x : (seen h).allocated (b + 1) ≡ true = behind true (λ z. is_allocated h.store z) b ∙ l in
    let marked = w.looked_at (b + 1) allocated_x (omega (arith, address, place, before)) in
    let kept = w.marked_kept (b + 1) allocated_x marked in
    let is = w.marked_main (b + 1) allocated_x marked in
    let f : (seen h).forward (b + 1) ≡ b + 1 = ap (seen h).forward is ∙ c.parts.base.main ((seen h).name (b + 1)) kept ∙ sym is in
    let g : (record_of h.store b).forward + 1 ≡ b + 1 = sym (behind 0 (λ z. (record_of h.store z).forward + 1) b) ∙ f in omega (arith, g)
  where
    times_less : (i j size : ℕ) → 0 < size → i < j → i * size < j * size
    times_less i j size some l = let next : i + 1 ≤ j = omega arith in let m = mul-le-mul_right size next in grind arith

closed_class : (o : Option Page) (p : Page) → closed o ≡ Some p → class_in o ≡ Some p.class
closed_class None p e = absurd (cc)
closed_class (Some q) p e = by_allocated (allocated_on (Some q) == 0) e
  where
    by_allocated : (b : Bool) → (if b then None else Some (record q { evacuating = false; is_target = false })) ≡ Some p → Some q.class ≡ Some p.class
    by_allocated true e = absurd (cc)
    by_allocated false e = ap (λ (z : Page). Some z.class) (same_Some _ p e)

pub tidy_close : (h : HeapState) (present snapshot : Graph) (objects : List Object) (page block : ℕ) (new : Store) → ArePages h.store.pages → Consistent h present snapshot → h.phase ≡ phases.Sweeping page block → page < length h.store.pages
    → is_looked_at (page_at h.store.pages page) block ≡ true → KeepsBlocks h.store new → new.pages ≡ set h.store.pages page (closed (page_at h.store.pages page)) → IsTidy h.store objects → IsTidy new objects
tidy_close h present snapshot objects page block new pages c e l looked keeps is w =
    let f = shrinks_keeps h.store new keeps in
    tidy_less h.store new objects f
    (λ b m. (let q = allocated_block new b m in by_class b q.0 q.2.page (b / 2048 == page) refl (ap (λ z. page_at z (b / 2048)) is ∙ set_page h.store.pages page (b / 2048) _ l)))
    (λ b m on. by_leave b (f.allocated b m) (f.head b m) on (b / 2048 == page) refl (ap (λ z. page_at z (b / 2048)) is ∙ set_page h.store.pages page (b / 2048) _ l))
    w
  where
    by_class : (b : ℕ) (p : Page) → page_at new.pages (b / 2048) ≡ Some p → (t : Bool) → (b / 2048 == page) ≡ t → page_at new.pages (b / 2048) ≡ (if t then closed (page_at h.store.pages page) else page_at h.store.pages (b / 2048))
        → class_in (page_at new.pages (b / 2048)) ≡ class_in (page_at h.store.pages (b / 2048))
    by_class b p at true t g =
        let here = same_number (b / 2048) page t in
        ap class_in at ∙ sym (closed_class (page_at h.store.pages page) p (sym g ∙ at)) ∙ ap (λ z. class_in (page_at h.store.pages z)) (sym here)
    by_class b p at false t g = ap class_in g

    by_leave : (b : ℕ) → is_allocated h.store b ≡ true → SameHead (record_of new b) (record_of h.store b) → is_evacuating (page_at h.store.pages (b / 2048)) ≡ true → (t : Bool) → (b / 2048 == page) ≡ t
        → page_at new.pages (b / 2048) ≡ (if t then closed (page_at h.store.pages page) else page_at h.store.pages (b / 2048)) → ((record_of new b).forward ≡ b) ⊎ (is_evacuating (page_at new.pages (b / 2048)) ≡ true)
    by_leave b m head on true t g = inl (head.forward ∙ closes_main h present snapshot page block pages c e looked b (same_number (b / 2048) page t) m)
    by_leave b m head on false t g = inr (ap is_evacuating g ∙ on)

record SameName (m n : BlockRecord) : Type 0 where
  identity : m.identity ≡ n.identity
  part : m.part ≡ n.part
  shape : m.shape ≡ n.shape

-- the page of a block
pub place_page : (s : Store) (page i : ℕ) (p : Page) → ArePages s.pages → page_at s.pages page ≡ Some p → i < length p.allocated → address_of p.class page i / 2048 ≡ page
place_page s page i p w at l =
    let is = is_page s page p w at in
    let within = block_within p i is l in
    let some = size_some p is in
    let less : i * size_of p.class < 2048 = below_end i (size_of p.class) some within in
    page_of_place page (address_of p.class page i) (omega arith) (omega arith)

-- a block that is moved
pub tidy_move : (h : HeapState) (present snapshot : Graph) (objects : List Object) (class page block chosen i to j : ℕ) (p q : Page) (new : Store) → ArePages h.store.pages → Consistent h present snapshot → h.phase ≡ phases.Moving (moves.Emptying class page block chosen)
    → page_at h.store.pages page ≡ Some p → p.evacuating ≡ true → IsNext p block i → position (is_usable p.class) h.store.pages ≡ Some to → page_at h.store.pages to ≡ Some q → slice_get q.allocated j ≡ Some false
    → MovesBlock h.store new (address_of p.class page i) (address_of p.class to j) → new.pages ≡ set h.store.pages to (Some (record (with_allocated q j true) { is_target = true })) → IsTidy h.store objects → IsTidy new objects
tidy_move h present snapshot objects class page block chosen i to j p q new pages c e at evacuating next place there empty m is w = record {
  class = λ b l. elim (blocks b l) [
    | inl s ↦ (let f = s.1 in ap (λ z. class_by z (record_of new b).part) f.shape ∙ ap (class_by (record_of h.store b).shape) f.part ∙ w.class b s.0 ∙ sym (classes (b / 2048)))
    | inr s ↦ (let f = s.1 in ap (λ z. class_by z (record_of new b).part) f.shape ∙ ap (class_by (record_of h.store from).shape) f.part ∙ w.class from main.0 ∙ from_class ∙ sym (classes (b / 2048) ∙ ap (λ z. class_in (page_at h.store.pages (z / 2048))) s.0 ∙ to_class))
  ];
  part = λ b l. elim (blocks b l) [
    | inl s ↦ (let f = s.1 in let v = w.part b s.0 in let u : parts_in (cells_of (record_of new b).shape) ≡ parts_in (cells_of (record_of h.store b).shape) = ap (λ z. parts_in (cells_of z)) f.shape in let x = f.part in omega (arith, u, v, x))
    | inr s ↦ (let f = s.1 in let v = w.part from main.0 in let u : parts_in (cells_of (record_of new b).shape) ≡ parts_in (cells_of (record_of h.store from).shape) = ap (λ z. parts_in (cells_of z)) f.shape in let x = f.part in omega (arith, u, v, x))
  ];
  given = λ b l. elim (blocks b l) [
    | inl s ↦ (let x = s.1.identity in let v = w.given b s.0 in omega (arith, x, v))
    | inr s ↦ (let x = s.1.identity in let v = w.given from main.0 in omega (arith, x, v))
  ];
  shape = λ b l. elim (blocks b l) [
    | inl s ↦ (let f = s.1 in f.shape ∙ w.shape b s.0 ∙ ap (λ z. (object_of objects z).shape) (sym f.identity))
    | inr s ↦ (let f = s.1 in f.shape ∙ w.shape from main.0 ∙ ap (λ z. (object_of objects z).shape) (sym f.identity))
  ];
  one = λ a b l n f g x y. by_two a b l n f g x y (blocks a l) (blocks b n);
  one_old = λ a b l n f g x y. two_old a b f g x y (blocks a l) (blocks b n) (a == from) refl (b == from) refl;
  old = λ b l. elim (blocks b l) [
    | inr s ↦ inl (ap (λ z. (record_of new z).forward) s.0 ∙ ap (λ (z : BlockRecord). z.forward) m.copy ∙ sym s.0)
    | inl s ↦ by_from b s.0 (b == from) refl
  ];
}
  where
    from : ℕ
    from = address_of p.class page i

    goal : ℕ
    goal = address_of p.class to j

    main : (is_allocated h.store from ≡ true) × ((record_of h.store from).forward ≡ from)
    main = let z = moved_main h present snapshot class page block chosen i p pages c e at next in (z.0, z.1)

    fits : (q.class ≡ p.class) × (q.evacuating ≡ false)
    fits = usable_fits p.class q (ap (is_usable p.class) (sym there) ∙ (position-Some (is_usable p.class) h.store.pages to None place).1)

    within : to < length h.store.pages
    within = page_within h.store.pages to q there

    apart : (b : ℕ) → is_allocated h.store b ≡ true → b ≢ goal
    apart b l z = let y : false ≡ true = sym m.free ∙ sym (ap (is_allocated h.store) z) ∙ l in cc

    -- each is one that was allocated, or the copy
    blocks : (b : ℕ) → is_allocated new b ≡ true → ((is_allocated h.store b ≡ true) × SameName (record_of new b) (record_of h.store b)) ⊎ ((b ≡ goal) × SameName (record_of new b) (record_of h.store from))
    blocks b l = by_goal (b == goal) refl
      where
        name_by : (x y : BlockRecord) (v : ℕ) → x ≡ with_forward y v → SameName x y
        name_by x y v z = record { identity = ap (λ (n : BlockRecord). n.identity) z; part = ap (λ (n : BlockRecord). n.part) z; shape = ap (λ (n : BlockRecord). n.shape) z }

        by_old : is_allocated h.store b ≡ true → (t : Bool) → (b == from) ≡ t → SameName (record_of new b) (record_of h.store b)
        by_old k true t = let here = same_number b from t in subst (λ z. SameName (record_of new z) (record_of h.store z)) (sym here) (name_by (record_of new from) (record_of h.store from) goal m.forward)
        by_old k false t = let ne = not_same b from t in let z = m.nodes b ne k in record { identity = ap (λ (n : BlockRecord). n.identity) z; part = ap (λ (n : BlockRecord). n.part) z; shape = ap (λ (n : BlockRecord). n.shape) z }

        by_goal : (t : Bool) → (b == goal) ≡ t → ((is_allocated h.store b ≡ true) × SameName (record_of new b) (record_of h.store b)) ⊎ ((b ≡ goal) × SameName (record_of new b) (record_of h.store from))
        by_goal true t = let here = same_number b goal t in inr (here, subst (λ z. SameName (record_of new z) (record_of h.store from)) (sym here) (name_by (record_of new goal) (record_of h.store from) goal m.copy))
        by_goal false t = let ne = not_same b goal t in let k : is_allocated h.store b ≡ true = sym (m.same b ne) ∙ l in inl (k, by_old k (b == from) refl)

    classes : (k : ℕ) → class_in (page_at new.pages k) ≡ class_in (page_at h.store.pages k)
    classes k = class_put h.store.pages new.pages to _ within is (ap class_in (sym there)) k

    from_page : from / 2048 ≡ page
    from_page = place_page h.store page i p pages at (slice_get_within p.allocated i true next.allocated)

    to_page : goal / 2048 ≡ to
    to_page = let z = place_page h.store to j q pages there (slice_get_within q.allocated j false empty) in ap (λ c. address_of c to j / 2048) (sym fits.0) ∙ z

    from_class : class_in (page_at h.store.pages (from / 2048)) ≡ Some p.class
    from_class = ap (λ z. class_in (page_at h.store.pages z)) from_page ∙ ap class_in at

    to_class : class_in (page_at h.store.pages (goal / 2048)) ≡ Some p.class
    to_class = let z : goal / 2048 ≡ to = to_page in ap (λ y. class_in (page_at h.store.pages y)) z ∙ ap class_in there ∙ ap Some fits.0

    -- the old copy isn't a main one
    main_before : (b : ℕ) → is_allocated h.store b ≡ true → (record_of new b).forward ≡ b → (b ≢ from) × ((record_of h.store b).forward ≡ b)
    main_before b k f = by_here (b == from) refl
      where
        by_here : (t : Bool) → (b == from) ≡ t → (b ≢ from) × ((record_of h.store b).forward ≡ b)
        by_here true t =
            let here = same_number b from t in
            let z : goal ≡ b = sym (ap (λ (n : BlockRecord). n.forward) m.forward) ∙ sym (ap (λ z. (record_of new z).forward) here) ∙ f in
            absurd (apart b k (sym z))
        by_here false t = let ne = not_same b from t in (ne, sym (ap (λ (n : BlockRecord). n.forward) (m.nodes b ne k)) ∙ f)

    by_two : (a b : ℕ) → is_allocated new a ≡ true → is_allocated new b ≡ true → (record_of new a).forward ≡ a → (record_of new b).forward ≡ b → (record_of new a).identity ≡ (record_of new b).identity → (record_of new a).part ≡ (record_of new b).part
        → ((is_allocated h.store a ≡ true) × SameName (record_of new a) (record_of h.store a)) ⊎ ((a ≡ goal) × SameName (record_of new a) (record_of h.store from))
        → ((is_allocated h.store b ≡ true) × SameName (record_of new b) (record_of h.store b)) ⊎ ((b ≡ goal) × SameName (record_of new b) (record_of h.store from)) → a ≡ b
    by_two a b l n f g x y (inl s) (inl r) = w.one a b s.0 r.0 (main_before a s.0 f).1 (main_before b r.0 g).1 (sym s.1.identity ∙ x ∙ r.1.identity) (sym s.1.part ∙ y ∙ r.1.part)
    by_two a b l n f g x y (inr s) (inr r) = s.0 ∙ sym r.0
    by_two a b l n f g x y (inl s) (inr r) = absurd ((main_before a s.0 f).0 (w.one a from s.0 main.0 (main_before a s.0 f).1 main.1 (sym s.1.identity ∙ x ∙ r.1.identity) (sym s.1.part ∙ y ∙ r.1.part)))
    by_two a b l n f g x y (inr s) (inl r) = absurd ((main_before b r.0 g).0 (w.one b from r.0 main.0 (main_before b r.0 g).1 main.1 (sym r.1.identity ∙ sym x ∙ s.1.identity) (sym r.1.part ∙ sym y ∙ s.1.part)))

    -- before, no part of a main copy on this page had an old one: that would forward to a target page
    none_before : (b : ℕ) → is_allocated h.store b ≡ true → (record_of h.store b).forward ≢ b → (record_of h.store b).identity ≡ (record_of h.store from).identity → (record_of h.store b).part ≡ (record_of h.store from).part → ⊥
    none_before b l old x y =
        let st = stage_at (collector_of h) (view present) (view snapshot) c.parts In_moves (ap (progress_of h.store.pages) e) in
        let allocated_b : (seen h).allocated (b + 1) ≡ true = behind true (λ z. is_allocated h.store z) b ∙ l in
        let allocated_from : (seen h).allocated (from + 1) ≡ true = behind true (λ z. is_allocated h.store z) from ∙ main.0 in
        let forward_b : (seen h).forward (b + 1) ≡ (record_of h.store b).forward + 1 = behind 0 (λ z. (record_of h.store z).forward + 1) b in
        let forward_from : (seen h).forward (from + 1) ≡ from + 1 = behind 0 (λ z. (record_of h.store z).forward + 1) from ∙ ap (λ z. z + 1) main.1 in
        let names : (seen h).name (b + 1) ≡ (seen h).name (from + 1) = behind null (λ z. named (record_of h.store z)) b ∙ same_name (record_of h.store b) (record_of h.store from) x y ∙ sym (behind null (λ z. named (record_of h.store z)) from) in
        let to_from : (seen h).forward (b + 1) ≡ from + 1 = st.0.forward (b + 1) allocated_b ∙ ap c.parts.at names ∙ sym (st.0.forward (from + 1) allocated_from) ∙ forward_from in
        elim (st.1.old (b + 1) allocated_b) [
          | inl z ↦ old (let v : (record_of h.store b).forward + 1 ≡ b + 1 = sym forward_b ∙ z in omega (arith, v))
          | inr z ↦ (let v : is_target_page (page_at h.store.pages ((from + 1 - 1) / 2048)) ≡ true = ap (λ k. is_target_page (page_of h.store.pages k)) (sym to_from) ∙ z in
              let k : (from + 1 - 1) / 2048 ≡ page = ap (λ k. k / 2048) (let k : from + 1 - 1 ≡ from = omega arith in k) ∙ from_page in
              never p.evacuating p.is_target evacuating (ap is_target_page (sym at) ∙ ap (λ k. is_target_page (page_at h.store.pages k)) (sym k) ∙ v) (is_page h.store page p pages at).marks)
        ]
      where
        named : BlockRecord → Name
        named n = record { identity = n.identity; part = n.part }

        same_name : (m n : BlockRecord) → m.identity ≡ n.identity → m.part ≡ n.part → named m ≡ named n
        same_name m n f g t = record { identity = f t; part = g t }

        never : (a b : Bool) → a ≡ true → b ≡ true → (a && b) ≡ false → ⊥
        never a b f g z = cc

    same_as : (b : ℕ) → (t : Bool) → (b == from) ≡ t → t ≡ false → is_allocated h.store b ≡ true → (record_of new b).forward ≢ b → (record_of h.store b).forward ≢ b
    same_as b true t z k f g = absurd (cc)
    same_as b false t z k f g = f (ap (λ (n : BlockRecord). n.forward) (m.nodes b (not_same b from t) k) ∙ g)

    copy_main : (a : ℕ) → a ≡ goal → (record_of new a).forward ≡ a
    copy_main a z = ap (λ y. (record_of new y).forward) z ∙ ap (λ (y : BlockRecord). y.forward) m.copy ∙ sym z

    two_old : (a b : ℕ) → (record_of new a).forward ≢ a → (record_of new b).forward ≢ b → (record_of new a).identity ≡ (record_of new b).identity → (record_of new a).part ≡ (record_of new b).part
        → ((is_allocated h.store a ≡ true) × SameName (record_of new a) (record_of h.store a)) ⊎ ((a ≡ goal) × SameName (record_of new a) (record_of h.store from))
        → ((is_allocated h.store b ≡ true) × SameName (record_of new b) (record_of h.store b)) ⊎ ((b ≡ goal) × SameName (record_of new b) (record_of h.store from))
        → (t : Bool) → (a == from) ≡ t → (u : Bool) → (b == from) ≡ u → a ≡ b
    two_old a b f g x y (inr s) r t d u o = absurd (f (copy_main a s.0))
    two_old a b f g x y (inl s) (inr r) t d u o = absurd (g (copy_main b r.0))
    two_old a b f g x y (inl s) (inl r) true d true o = same_number a from d ∙ sym (same_number b from o)
    two_old a b f g x y (inl s) (inl r) true d false o =
        let here = same_number a from d in
        absurd (none_before b r.0 (same_as b false o refl r.0 g) (sym r.1.identity ∙ sym x ∙ s.1.identity ∙ ap (λ z. (record_of h.store z).identity) here) (sym r.1.part ∙ sym y ∙ s.1.part ∙ ap (λ z. (record_of h.store z).part) here))
    two_old a b f g x y (inl s) (inl r) false d true o =
        let here = same_number b from o in
        absurd (none_before a s.0 (same_as a false d refl s.0 f) (sym s.1.identity ∙ x ∙ r.1.identity ∙ ap (λ z. (record_of h.store z).identity) here) (sym s.1.part ∙ y ∙ r.1.part ∙ ap (λ z. (record_of h.store z).part) here))
    two_old a b f g x y (inl s) (inl r) false d false o = w.one_old a b s.0 r.0 (same_as a false d refl s.0 f) (same_as b false o refl r.0 g) (sym s.1.identity ∙ x ∙ r.1.identity) (sym s.1.part ∙ y ∙ r.1.part)

    keeps_evacuating : (k : ℕ) → is_evacuating (page_at h.store.pages k) ≡ true → is_evacuating (page_at new.pages k) ≡ true
    keeps_evacuating k on = leave_put h.store.pages new.pages to _ within is (λ z. absurd (let y : false ≡ true = sym fits.1 ∙ sym (ap is_evacuating there) ∙ z in cc)) k on

    from_evacuating : is_evacuating (page_at h.store.pages (from / 2048)) ≡ true
    from_evacuating = ap (λ z. is_evacuating (page_at h.store.pages z)) from_page ∙ ap is_evacuating at ∙ evacuating

    by_from : (b : ℕ) → is_allocated h.store b ≡ true → (t : Bool) → (b == from) ≡ t → ((record_of new b).forward ≡ b) ⊎ (is_evacuating (page_at new.pages (b / 2048)) ≡ true)
    by_from b k true t = let here = same_number b from t in inr (keeps_evacuating (b / 2048) (ap (λ z. is_evacuating (page_at h.store.pages (z / 2048))) here ∙ from_evacuating))
    by_from b k false t = let ne = not_same b from t in elim (w.old b k) [
      | inl z ↦ inl (ap (λ (n : BlockRecord). n.forward) (m.nodes b ne k) ∙ z)
      | inr z ↦ inr (keeps_evacuating (b / 2048) z)
    ]
