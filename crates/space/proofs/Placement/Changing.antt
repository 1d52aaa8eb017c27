-- The pages and the blocks after a command.
use Rattle.std.proofs.Common.{◌≡◌, ◌≢◌, ℕ, ◌+◌, ◌-◌, ◌/◌, ◌<◌, ◌≤◌, ◌⊎◌, inl, inr, Bool, true, false, ◌==◌, if◌then◌else◌, List, [], ◌∷◌, ◌++◌, Option, Some, None, length, set, ap, ◌∙◌, sym, subst, arith, refl, length-append}
use Rattle.std.specs.Prelude.{position}
use Rattle.std.proofs.lemmas.Bool.Decides.{eqb_tells}
use Rattle.std.proofs.lemmas.List.Quantifiers.{position-Some}
use Rattle.size_classes.specs.declared.class.TheConstants.{CLASSES}
use Rattle.graph_heap.specs.declared.command.Shape.{Shape}
use Rattle.graph_heap.specs.declared.command.Change.{Change}
use Rattle.graph_heap.specs.declared.command.Change.TheVariants as changes
use Rattle.graph_heap.specs.Graph.{Object, Graph, object_of, put_object, new_object, changed, first_slot}
use Rattle.graph_heap.proofs.Edits.{put_object-past}
use Rattle.size_classes.specs.Sizes.{class_for}
use Rattle.size_classes.specs.Parts.{cells_of, parts_in, part_words}
use Rattle.heap_model.specs.Block.{BlockRecord, new_record}
use Rattle.heap_model.specs.Pages.{Page, ArePages, page_at, first_of, is_usable, is_free, page_of_class, TakesBlock}
use Rattle.heap_model.specs.Store.{Store, is_allocated, record_of}
use Rattle.heap_model.specs.Collector.{contains}
use Rattle.heap_model.specs.State.{HeapState, is_evacuating}
use Rattle.heap_model.specs.Making.{made, Making, Nothing_made, Part_made, MakesObject}
use Rattle.heap_model.specs.Taking.{Takes, Nothing_taken, Part_taken}
use Rattle.heap_model.specs.Placed.{KeepsPages}
use Rattle.heap_model.specs.Change.{Records, Records_nothing, Records_main, Clears, Clears_none, Clears_next, DoesChange, Does_nothing, Does_root, Does_ref, Does_word, Does_new, Does_join, Does_leave}
use Rattle.heap_model.proofs.Store.Allocated.{set_page_here, allocated_block}
use Rattle.heap_model.proofs.Action.Moving.{same_number, usable_fits}
use Rattle.heap_model.proofs.Cut.Changes.{put_each, object-append}
use Rattle.heap_model.proofs.Placed.{page_for_within, takes_keeps}
use Rattle.heap_model.proofs.Taking.{takes_keep}
use Rattle.heap_model.proofs.Event.Freed.{objects_stay}
use Rattle.heap_model.proofs.Change.Recording.{records_stay}
use Rattle.space.specs.Demand.{asked_by}
use Rattle.space.specs.Counts.{main_blocks, evacuating_pages, IsBounded}
use Rattle.space.specs.Placement.{class_in, IsTidy, KeepsOnly, HasBoundedPages, KeepsShapes, MayEvacuate}
use Rattle.space.proofs.Counts.{takes_bounded, zero_or}
use Rattle.heap_model.specs.Settings.{HeapSettings}
use Rattle.heap_model.proofs.Settings.{change_settings}
use Rattle.space.proofs.Space.{KeepsSettings, may_spare, shades_same, bounded_same, bounded_pages}
use Rattle.space.proofs.Placement.Tidying.{SameHead, same_head, head_then, head_is, not_same, Shrinks, shrinks_none, shrinks_then, shrinks_writes, shrinks_shades, class_by, tidy_same, only_less}

-- shapes stay
put_shape : (xs : List Object) (id : ℕ) (o : Object) → o.shape ≡ (object_of xs id).shape → (k : ℕ) → (object_of (put_object xs id o) k).shape ≡ (object_of xs k).shape
put_shape xs id o e k = by_zero (id == 0) refl
  where
    low : (id ≤ length xs) ⊎ (length xs < id)
    low = grind arith

    by_zero : (t : Bool) → (id == 0) ≡ t → (object_of (put_object xs id o) k).shape ≡ (object_of xs k).shape
    by_zero true t = ap (λ b. (object_of (if b then xs else set xs (id - 1) o) k).shape) t
    by_zero false t = elim low [
      | inl l ↦ put_each (λ (z : Object). z.shape) xs id o (let n : id ≢ 0 = not_same id 0 t in omega arith) l e k
      | inr l ↦ ap (λ z. (object_of z k).shape) (put_object-past xs id o l)
    ]

pub shapes_kept : (g : Graph) (c : Change) → KeepsShapes g.objects (changed g c).objects
shapes_kept g changes.Nothing = record { more = objects_stay g changes.Nothing; shape = λ id l. refl }
shapes_kept g (changes.Root cell id) = record { more = objects_stay g (changes.Root cell id); shape = λ k l. refl }
shapes_kept g (changes.Ref id i value) = record { more = objects_stay g (changes.Ref id i value); shape = λ k l. put_shape g.objects id _ refl k }
shapes_kept g (changes.Word id i value) = record { more = objects_stay g (changes.Word id i value); shape = λ k l. put_shape g.objects id _ refl k }
shapes_kept g (changes.New cell id shape) = record {
  more = objects_stay g (changes.New cell id shape);
  shape = λ k l. ap (λ (z : Object). z.shape) (object-append g.objects (new_object shape) k ∙ ap (λ b. if b then new_object shape else object_of g.objects k) (other k l));
}
  where
    other : (k : ℕ) → k ≤ length g.objects → (k == length g.objects + 1) ≡ false
    other k l = grind arith
shapes_kept g (changes.Join m) = record { more = objects_stay g (changes.Join m); shape = λ k l. refl }
shapes_kept g (changes.Leave m) = record { more = objects_stay g (changes.Leave m); shape = λ k l. refl }

pub shapes_then : (a b c : List Object) → KeepsShapes a b → KeepsShapes b c → KeepsShapes a c
shapes_then a b c f g = record { more = (let x = f.more in let y = g.more in omega arith); shape = λ id l. g.shape id (let x = f.more in omega arith) ∙ f.shape id l }

pub tidy_objects : (s : Store) (old new : List Object) → KeepsShapes old new → IsTidy s old → IsTidy s new
tidy_objects s old new k w = record {
  class = w.class;
  part = w.part;
  given = λ b l. (let x = w.given b l in let y = k.more in omega arith);
  shape = λ b l. w.shape b l ∙ sym (k.shape (record_of s b).identity (w.given b l));
  one = w.one;
  one_old = w.one_old;
  old = w.old;
}

-- a block of a new object
pub record IsMade (n : BlockRecord) (at : ℕ → ℕ) (p id : ℕ) (s : Shape) : Type 0 where
  pub identity : n.identity ≡ id
  pub part : n.part ≡ p
  pub shape : n.shape ≡ s
  pub forward : n.forward ≡ at p

made_head : (m n : BlockRecord) (at : ℕ → ℕ) (p id : ℕ) (shape : Shape) → SameHead m n → IsMade n at p id shape → IsMade m at p id shape
made_head m n at p id shape h w = record { identity = h.identity ∙ w.identity; part = h.part ∙ w.part; shape = h.shape ∙ w.shape; forward = h.forward ∙ w.forward }

made_is : (n : BlockRecord) (shape : Shape) (colour : Bool) (at : ℕ → ℕ) (p id : ℕ) → n ≡ new_record (at p) (record { shape = shape; part = p; colour = colour }) id → IsMade n at p id shape
made_is n shape colour at p id e = record { identity = ap (λ (z : BlockRecord). z.identity) e; part = ap (λ (z : BlockRecord). z.part) e; shape = ap (λ (z : BlockRecord). z.shape) e; forward = ap (λ (z : BlockRecord). z.forward) e }

abbrev pub WasOrMade : Store → Store → (ℕ → ℕ) → ℕ → ℕ → Shape → ℕ → Type 0
WasOrMade old new at k id shape b = ((is_allocated old b ≡ true) × SameHead (record_of new b) (record_of old b)) ⊎ ((p : ℕ) × (p < k) × (b ≡ at p) × IsMade (record_of new b) at p id shape)

was_more : (old s t : Store) (at : ℕ → ℕ) (k n id : ℕ) (shape : Shape) (b : ℕ) → k ≤ n → SameHead (record_of t b) (record_of s b) → WasOrMade old s at k id shape b → WasOrMade old t at n id shape b
was_more old s t at k n id shape b l h (inl w) = inl (w.0, head_then (record_of t b) (record_of s b) (record_of old b) h w.1)
was_more old s t at k n id shape b l h (inr w) = inr (w.0, (let x = w.1 in omega arith), w.2, made_head (record_of t b) (record_of s b) at w.0 id shape h w.3)

pub made_blocks : (old : Store) (shape : Shape) (colour : Bool) (id : ℕ) (at : ℕ → ℕ) (k : ℕ) (new : Store) → Making old (made shape colour id) at k new → (b : ℕ) → is_allocated new b ≡ true → WasOrMade old new at k id shape b
made_blocks old shape colour id at k new Nothing_made b allocated = inl (allocated, same_head (record_of old b))
made_blocks old shape colour id at k new (Part_made part s t u m a first linked) b allocated = by_part (zero_or part) (λ l. by_here (b == at part) refl (λ x. made_blocks old shape colour id at part s m b x) l)
  where
    by_here : (w : Bool) → (b == at part) ≡ w → (is_allocated s b ≡ true → WasOrMade old s at part id shape b) → is_allocated t b ≡ true → WasOrMade old t at (part + 1) id shape b
    by_here true e rec l = let here = same_number b (at part) e in inr (part, omega arith, here, made_is (record_of t b) shape colour at part id (ap (record_of t) here ∙ a.here))
    by_here false e rec l =
        let ne = not_same b (at part) e in
        let before : is_allocated s b ≡ true = sym (a.same b ne) ∙ l in
        was_more old s t at part (part + 1) id shape b (omega arith) (head_is (record_of t b) (record_of s b) (a.others b before)) (rec before)

    by_part : (part ≡ 0) ⊎ (0 < part) → (is_allocated t b ≡ true → WasOrMade old t at (part + 1) id shape b) → WasOrMade old u at (part + 1) id shape b
    by_part (inl none) rec = let same = first none in subst (λ z. WasOrMade old z at (part + 1) id shape b) (sym same) (rec (sym (ap (λ z. is_allocated z b) same) ∙ allocated))
    by_part (inr some) rec =
        let f = shrinks_writes t u _ _ (linked some) (record { identity = refl; part = refl; shape = refl; forward = refl }) in
        was_more old t u at (part + 1) (part + 1) id shape b (omega arith) (f.head b allocated) (rec (f.allocated b allocated))

-- on which pages
keeps_class : (old new : List (Option Page)) → KeepsPages old new → (k class : ℕ) → class_in (page_at old k) ≡ Some class → class_in (page_at new k) ≡ Some class
keeps_class old new w k class e = by_page (page_at old k) refl e
  where
    by_page : (o : Option Page) → page_at old k ≡ o → class_in o ≡ Some class → class_in (page_at new k) ≡ Some class
    by_page None f e = absurd (cc)
    by_page (Some p) f e = let r = w.used k p f in ap class_in r.1 ∙ ap Some r.2.class ∙ e

keeps_evacuating : (old new : List (Option Page)) → KeepsPages old new → (k : ℕ) → is_evacuating (page_at old k) ≡ true → is_evacuating (page_at new k) ≡ true
keeps_evacuating old new w k e = by_page (page_at old k) refl e
  where
    by_page : (o : Option Page) → page_at old k ≡ o → is_evacuating o ≡ true → is_evacuating (page_at new k) ≡ true
    by_page None f e = absurd (cc)
    by_page (Some p) f e = let r = w.used k p f in ap is_evacuating r.1 ∙ r.2.evacuating ∙ e

block_class : (old new : List (Option Page)) (class page index : ℕ) → TakesBlock old class page index new → class_in (page_at new page) ≡ Some class
block_class old new class page index t =
    ap class_in (ap (λ z. page_at z page) t.new_is ∙ set_page_here old page _ (page_for_within old class page t.page_is)) ∙ by_usable (position (is_usable class) old) refl t.page_is
  where
    by_page : (o : Option Page) → page_at old page ≡ o → (is_usable class o ≡ true) ⊎ (is_free o ≡ true) → Some (page_of_class class o).class ≡ Some class
    by_page None e u = refl
    by_page (Some p) e (inl u) = ap Some (usable_fits class p u).0
    by_page (Some p) e (inr u) = absurd (cc)

    by_usable : (o : Option ℕ) → position (is_usable class) old ≡ o → first_of (position (is_usable class) old) (position is_free old) ≡ Some page → Some (page_of_class class (page_at old page)).class ≡ Some class
    by_usable (Some k) e h =
        let here : position (is_usable class) old ≡ Some page = e ∙ (sym (ap (λ z. first_of z (position is_free old)) e) ∙ h) in
        by_page (page_at old page) refl (inl (position-Some (is_usable class) old page None here).1)
    by_usable None e h =
        let here : position is_free old ≡ Some page = sym (ap (λ z. first_of z (position is_free old)) e) ∙ h in
        by_page (page_at old page) refl (inr (position-Some is_free old page None here).1)

takes_class : (cells : ℕ) (at : ℕ → ℕ) (old : List (Option Page)) (parts : ℕ) (new : List (Option Page)) → Takes cells at old parts new → (p : ℕ) → p < parts → (class : ℕ) × (class_for (part_words cells p) ≡ Some class) × (class_in (page_at new (at p / 2048)) ≡ Some class)
takes_class cells at old parts new Nothing_taken p l = absurd (omega arith)
takes_class cells at old parts new (Part_taken part class index s t takes f b) p l = elim (eqb_tells p part) [
  | inl e ↦ (class, ap (λ z. class_for (part_words cells z)) e.1 ∙ f, ap (λ z. class_in (page_at t (at z / 2048))) e.1 ∙ block_class s t class (at part / 2048) index b)
  | inr d ↦ (let r = takes_class cells at old part s takes p (let n = d.1 in omega arith) in (r.0, r.1, keeps_class s t (takes_keeps s t class (at part / 2048) index b) (at p / 2048) r.0 r.2))
]

-- a new object
tidy_new : (s new : Store) (objects : List Object) (shape : Shape) (colour : Bool) (id : ℕ) (at : ℕ → ℕ) → id ≡ length objects + 1 → MakesObject s shape colour id at new → Takes (cells_of shape) at s.pages (parts_in (cells_of shape)) new.pages
    → IsTidy s objects → IsTidy new (objects ++ new_object shape ∷ [])
tidy_new s new objects shape colour id at same makes takes w = record {
  class = λ b l. elim (blocks b l) [
    | inl q ↦ (let h = q.1 in let p = allocated_block s b q.0 in
        ap (λ z. class_by z (record_of new b).part) h.shape ∙ ap (class_by (record_of s b).shape) h.part ∙ w.class b q.0 ∙ ap class_in p.2.page ∙ sym (keeps_class s.pages new.pages keeps (b / 2048) p.0.class (ap class_in p.2.page)))
    | inr q ↦ (let m = q.3 in let t = takes_class (cells_of shape) at s.pages (parts_in (cells_of shape)) new.pages takes q.0 q.1 in
        ap (λ z. class_by z (record_of new b).part) m.shape ∙ ap (class_by shape) m.part ∙ t.1 ∙ sym (ap (λ z. class_in (page_at new.pages (z / 2048))) q.2 ∙ t.2))
  ];
  part = λ b l. elim (blocks b l) [
    | inl q ↦ (let h = q.1 in let p = w.part b q.0 in let e : parts_in (cells_of (record_of new b).shape) ≡ parts_in (cells_of (record_of s b).shape) = ap (λ z. parts_in (cells_of z)) h.shape in let x = h.part in omega (arith, e, p, x))
    | inr q ↦ (let m = q.3 in let e : parts_in (cells_of (record_of new b).shape) ≡ parts_in (cells_of shape) = ap (λ z. parts_in (cells_of z)) m.shape in let x = m.part in let y = q.1 in omega (arith, e, x, y))
  ];
  given = λ b l. elim (blocks b l) [
    | inl q ↦ (let x = q.1.identity in let y = w.given b q.0 in let z = longer in omega (arith, x, y, z))
    | inr q ↦ (let x = q.3.identity in let z = longer in omega (arith, x, z, same))
  ];
  shape = λ b l. elim (blocks b l) [
    | inl q ↦ (let h = q.1 in h.shape ∙ w.shape b q.0 ∙ sym (ap (λ z. (object_of (objects ++ new_object shape ∷ []) z).shape) h.identity ∙ old_shape (record_of s b).identity (w.given b q.0)))
    | inr q ↦ (let m = q.3 in m.shape ∙ sym (ap (λ z. (object_of (objects ++ new_object shape ∷ []) z).shape) (m.identity ∙ same) ∙ new_shape))
  ];
  one = λ a b l n f g x y. by_two a b f g x y (blocks a l) (blocks b n);
  one_old = λ a b l n f g x y. two_old a b f g x y (blocks a l) (blocks b n);
  old = λ b l. elim (blocks b l) [
    | inl q ↦ elim (w.old b q.0) [ inl z ↦ inl (q.1.forward ∙ z) | inr z ↦ inr (keeps_evacuating s.pages new.pages keeps (b / 2048) z) ]
    | inr q ↦ inl (q.3.forward ∙ sym q.2)
  ];
}
  where
    blocks : (b : ℕ) → is_allocated new b ≡ true → WasOrMade s new at (parts_in (cells_of shape)) id shape b
    blocks b l = made_blocks s shape colour id at (parts_in (cells_of shape)) new makes b l

    keeps : KeepsPages s.pages new.pages
    keeps = takes_keep (cells_of shape) at s.pages (parts_in (cells_of shape)) new.pages takes

    longer : length (objects ++ new_object shape ∷ []) ≡ length objects + 1
    longer = length-append objects (new_object shape ∷ [])

    old_shape : (k : ℕ) → k ≤ length objects → (object_of (objects ++ new_object shape ∷ []) k).shape ≡ (object_of objects k).shape
    old_shape k l = let e : (k == length objects + 1) ≡ false = other k l in ap (λ (z : Object). z.shape) (object-append objects (new_object shape) k ∙ ap (λ b. if b then new_object shape else object_of objects k) e)
      where
        other : (k : ℕ) → k ≤ length objects → (k == length objects + 1) ≡ false
        other k l = grind arith

    new_shape : (object_of (objects ++ new_object shape ∷ []) (length objects + 1)).shape ≡ shape
    new_shape = ap (λ (z : Object). z.shape) (object-append objects (new_object shape) (length objects + 1) ∙ ap (λ b. if b then new_object shape else object_of objects (length objects + 1)) here)
      where
        here : (length objects + 1 == length objects + 1) ≡ true
        here = grind arith

    by_two : (a b : ℕ) → (record_of new a).forward ≡ a → (record_of new b).forward ≡ b → (record_of new a).identity ≡ (record_of new b).identity → (record_of new a).part ≡ (record_of new b).part
        → WasOrMade s new at (parts_in (cells_of shape)) id shape a → WasOrMade s new at (parts_in (cells_of shape)) id shape b → a ≡ b
    by_two a b f g x y (inl p) (inl q) = w.one a b p.0 q.0 (sym p.1.forward ∙ f) (sym q.1.forward ∙ g) (sym p.1.identity ∙ x ∙ q.1.identity) (sym p.1.part ∙ y ∙ q.1.part)
    by_two a b f g x y (inr p) (inr q) = p.2 ∙ ap at (sym p.3.part ∙ y ∙ q.3.part) ∙ sym q.2
    by_two a b f g x y (inl p) (inr q) = absurd (let u = w.given a p.0 in let i = p.1.identity in let j = q.3.identity in omega (arith, u, i, j, x, same))
    by_two a b f g x y (inr p) (inl q) = absurd (let u = w.given b q.0 in let i = q.1.identity in let j = p.3.identity in omega (arith, u, i, j, x, same))

    two_old : (a b : ℕ) → (record_of new a).forward ≢ a → (record_of new b).forward ≢ b → (record_of new a).identity ≡ (record_of new b).identity → (record_of new a).part ≡ (record_of new b).part
        → WasOrMade s new at (parts_in (cells_of shape)) id shape a → WasOrMade s new at (parts_in (cells_of shape)) id shape b → a ≡ b
    two_old a b f g x y (inl p) (inl q) = w.one_old a b p.0 q.0 (λ z. f (p.1.forward ∙ z)) (λ z. g (q.1.forward ∙ z)) (sym p.1.identity ∙ x ∙ q.1.identity) (sym p.1.part ∙ y ∙ q.1.part)
    two_old a b f g x y (inr p) q = absurd (f (p.3.forward ∙ sym p.2))
    two_old a b f g x y (inl p) (inr q) = absurd (g (q.3.forward ∙ sym q.2))

-- the barrier
pub shrinks_records : (h k : HeapState) (x : ℕ) → Records h x k → Shrinks h.store k.store × (k.store.pages ≡ h.store.pages) × KeepsSettings h k
shrinks_records h k x (Records_nothing e) = (shrinks_none h.store, refl, record { most = refl; below = refl })
shrinks_records h k x (Records_main k0 e sh) = let f = shrinks_shades h k _ sh in let g = shades_same h k _ sh in (f.0, f.1, g.0)

-- roots that get null, one after the other
pub record LeavesBlocks (h k : HeapState) : Type 0 where
  pub shrinks : Shrinks h.store k.store
  pub pages : k.store.pages ≡ h.store.pages
  pub settings : KeepsSettings h k
  phase : k.phase ≡ h.phase

pub clears_leave : (h : HeapState) (first n : ℕ) (k : HeapState) → Clears h first n k → LeavesBlocks h k
clears_leave h first n k Clears_none = record { shrinks = shrinks_none h.store; pages = refl; settings = record { most = refl; below = refl }; phase = refl }
clears_leave h first n k (Clears_next n0 j k0 c r) =
    let w = clears_leave h first n0 j c in
    let f = shrinks_records j k0 _ r in
    record {
      shrinks = shrinks_then h.store j.store k0.store w.shrinks f.0;
      pages = f.1 ∙ w.pages;
      settings = record { most = f.2.most ∙ w.settings.most; below = f.2.below ∙ w.settings.below };
      phase = (records_stay j k0 _ r).phase ∙ w.phase;
    }

pub tidy_change : (h after : HeapState) (g : Graph) (c : Change) → h.next ≡ length g.objects + 1 → DoesChange h g c after → IsTidy h.store g.objects → IsTidy after.store (changed g c).objects
tidy_change h after g c next Does_nothing w = w
tidy_change h after g c next (Does_root cell id y k r i) w = let f = shrinks_records h k _ r in tidy_same h.store k.store g.objects f.0 f.1 w
tidy_change h after g c next (Does_ref id i value address y k new at r main writes) w =
    let f = shrinks_records h k _ r in
    tidy_objects new g.objects _ (shapes_kept g (changes.Ref id i value))
    (tidy_same h.store new g.objects (shrinks_then h.store k.store new f.0 (shrinks_writes k.store new address _ writes (record { identity = refl; part = refl; shape = refl; forward = refl }))) (writes.pages ∙ f.1) w)
tidy_change h after g c next (Does_word id i word address new at writes) w =
    tidy_objects new g.objects _ (shapes_kept g (changes.Word id i word))
    (tidy_same h.store new g.objects (shrinks_writes h.store new address _ writes (record { identity = refl; part = refl; shape = refl; forward = refl })) writes.pages w)
tidy_change h after g c next (Does_new cell id shape k new at r makes takes) w =
    let f = shrinks_records h k _ r in
    let s = records_stay h k _ r in
    tidy_new k.store new g.objects shape k.mark_parity k.next at (s.next ∙ next) makes takes (tidy_same h.store k.store g.objects f.0 f.1 w)
tidy_change h after g c next (Does_join m) w = w
tidy_change h after g c next (Does_leave m k clears) w = let f = clears_leave h (first_slot g.limits m) g.limits.slots k clears in tidy_same h.store k.store g.objects f.shrinks f.pages w

pub only_change : (h after : HeapState) (g : Graph) (c : Change) (base : ℕ) (ids : List ℕ) → h.next ≡ length g.objects + 1 → base ≤ length g.objects → DoesChange h g c after → KeepsOnly h.store base ids → KeepsOnly after.store base ids
only_change h after g c base ids next low Does_nothing w = w
only_change h after g c base ids next low (Does_root cell id y k r i) w = only_less h.store k.store base ids (shrinks_records h k _ r).0 w
only_change h after g c base ids next low (Does_ref id i value address y k new at r main writes) w =
    only_less h.store new base ids (shrinks_then h.store k.store new (shrinks_records h k _ r).0 (shrinks_writes k.store new address _ writes (record { identity = refl; part = refl; shape = refl; forward = refl }))) w
only_change h after g c base ids next low (Does_word id i word address new at writes) w =
    only_less h.store new base ids (shrinks_writes h.store new address _ writes (record { identity = refl; part = refl; shape = refl; forward = refl })) w
only_change h after g c base ids next low (Does_new cell id shape k new at r makes takes) w = λ b l main small. elim (made_blocks k.store shape k.mark_parity k.next at (parts_in (cells_of shape)) new makes b l) [
  | inl q ↦ (let i = q.1.identity in ap (contains ids) i ∙ before b q.0 (sym q.1.forward ∙ main) (omega (arith, i, small)))
  | inr q ↦ absurd (let i = q.3.identity in let n = (records_stay h k _ r).next in omega (arith, i, n, next, low, small))
]
  where
    before : KeepsOnly k.store base ids
    before = only_less h.store k.store base ids (shrinks_records h k _ r).0 w
only_change h after g c base ids next low (Does_join m) w = w
only_change h after g c base ids next low (Does_leave m k clears) w = only_less h.store k.store base ids (clears_leave h (first_slot g.limits m) g.limits.slots k clears).shrinks w

-- the pages
pub bounded_change : (h after : HeapState) (g : Graph) (c : Change) (blocks : ℕ → ℕ) (spare : ℕ) → ArePages h.store.pages → ((k : ℕ) → k < CLASSES → main_blocks h.store.pages k + asked_by c k ≤ blocks k) → DoesChange h g c after → HasBoundedPages h blocks spare → HasBoundedPages after blocks spare
bounded_change h after g c blocks spare pages asks Does_nothing w = w
bounded_change h after g c blocks spare pages asks (Does_root cell id y k r i) w =
    let f = shrinks_records h k _ r in
    bounded_same h _ blocks spare w (record { most = f.2.most; below = f.2.below }) f.1 (subst (MayEvacuate spare h.defrag_pages (evacuating_pages h.store.pages)) (sym (records_stay h k _ r).phase) w.evacuating)
bounded_change h after g c blocks spare pages asks (Does_ref id i value address y k new at r main writes) w =
    let f = shrinks_records h k _ r in
    bounded_same h _ blocks spare w (record { most = f.2.most; below = f.2.below }) (writes.pages ∙ f.1) (subst (MayEvacuate spare h.defrag_pages (evacuating_pages h.store.pages)) (sym (records_stay h k _ r).phase) w.evacuating)
bounded_change h after g c blocks spare pages asks (Does_word id i word address new at writes) w = bounded_same h _ blocks spare w (record { most = refl; below = refl }) writes.pages w.evacuating
bounded_change h after g c blocks spare pages asks (Does_new cell id shape k new at r makes takes) w =
    let f = shrinks_records h k _ r in
    let b : IsBounded k.store.pages blocks spare = subst (λ z. IsBounded z blocks spare) (sym f.1) (bounded_pages h blocks spare w) in
    let a : ArePages k.store.pages = subst ArePages (sym f.1) pages in
    let t = takes_bounded (cells_of shape) at k.store.pages (parts_in (cells_of shape)) new.pages blocks spare a b (λ n l. (let q = asks n l in let e : main_blocks k.store.pages n ≡ main_blocks h.store.pages n = ap (λ z. main_blocks z n) f.1 in omega (arith, q, e))) takes in
    let same : evacuating_pages new.pages ≡ evacuating_pages h.store.pages = t.evacuating ∙ ap evacuating_pages f.1 in
    record {
      used = t.bounded.used;
      evacuating = subst (λ z. MayEvacuate spare z (evacuating_pages new.pages) k.phase) (sym f.2.most) (subst (λ z. MayEvacuate spare h.defrag_pages z k.phase) (sym same) (subst (MayEvacuate spare h.defrag_pages (evacuating_pages h.store.pages)) (sym (records_stay h k _ r).phase) w.evacuating));
      same = may_spare h after blocks spare (record { most = f.2.most; below = f.2.below }) (ap (λ (s : HeapSettings). s.pages) (change_settings h after g c (Does_new cell id shape k new at r makes takes))) w.same;
    }
bounded_change h after g c blocks spare pages asks (Does_join m) w = bounded_same h _ blocks spare w (record { most = refl; below = refl }) refl w.evacuating
bounded_change h after g c blocks spare pages asks (Does_leave m k clears) w =
    let f = clears_leave h (first_slot g.limits m) g.limits.slots k clears in
    bounded_same h _ blocks spare w (record { most = f.settings.most; below = f.settings.below }) f.pages (subst (MayEvacuate spare h.defrag_pages (evacuating_pages h.store.pages)) (sym f.phase) w.evacuating)
