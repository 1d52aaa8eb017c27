-- The view of the heap after a write to one block, or to a root.
use Rattle.std.proofs.Common.{◌≡◌, ◌≢◌, ℕ, ◌+◌, ◌-◌, ◌/◌, ◌%◌, ◌<◌, Bool, true, false, List, [], length, set, drop, get_or, refl, ap, sym, ◌∙◌, arith, ◌==◌, ◌&&◌, if◌then◌else◌, length-set, get_or-set_other}
use Rattle.std.proofs.lemmas.List.{drop-set-lt, drop-set-add}
use Rattle.heap_model.specs.Block.{BlockRecord, with_cell}
use Rattle.heap_model.specs.Pages.{page_at}
use Rattle.heap_model.specs.Store.{Store, Writes, allocated_in, is_allocated, record_of}
use Rattle.heap_model.specs.Core.{Name, null, Heap}
use Rattle.heap_model.specs.State.{HeapState, seen, width_at, same_colour}
use Rattle.heap_model.proofs.Core.Same.{SameBlocks}
use Rattle.heap_model.proofs.Core.Edits.{set_root, set_cell, set_word}
use Rattle.heap_model.proofs.Cut.Changes.{read-set}

-- which blocks are allocated, the pages tell
pub allocated_pages : (s t : Store) (b : ℕ) → t.pages ≡ s.pages → is_allocated t b ≡ is_allocated s b
unfolding is_allocated
allocated_pages s t b e = ap (λ p. allocated_in (page_at p (b / 2048)) (b % 2048)) e

pub node_kept : {A : Type 0} (f : BlockRecord → A) (old new : Store) (a : ℕ) (n : BlockRecord) → Writes old new a n → (b : ℕ) → is_allocated old b ≡ true → (b ≡ a → f n ≡ f (record_of old a)) → f (record_of new b) ≡ f (record_of old b)
node_kept f old new a n w b l e = by_here (b == a) refl
  where
    by_here : (t : Bool) → (b == a) ≡ t → f (record_of new b) ≡ f (record_of old b)
    by_here true q = let same : b ≡ a = grind arith in ap (λ z. f (record_of new z)) same ∙ ap f w.here ∙ e same ∙ ap (λ z. f (record_of old z)) (sym same)
    by_here false q = let ne : b ≢ a = grind arith in ap f (w.others b l ne)

-- The same field stays, by reference.
pub field_kept : {A : Type 0} (none : A) (f : BlockRecord → A) (old new : Store) (a : ℕ) (n : BlockRecord) → Writes old new a n → (x : ℕ) → (if x == 0 then true else is_allocated old (x - 1)) ≡ true → (x ≡ a + 1 → f n ≡ f (record_of old a))
    → (if x == 0 then none else f (record_of new (x - 1))) ≡ (if x == 0 then none else f (record_of old (x - 1)))
field_kept none f old new a n w x l e = by_null (x == 0) refl l
  where
    by_null : (t : Bool) → (x == 0) ≡ t → (if t then true else is_allocated old (x - 1)) ≡ true → (if t then none else f (record_of new (x - 1))) ≡ (if t then none else f (record_of old (x - 1)))
    by_null true q l = refl
    by_null false q l = node_kept f old new a n w (x - 1) l (λ s. e (let some : x ≢ 0 = grind arith in omega arith))

-- what stands behind a reference that isn't null
pub behind : {A : Type 0} (none : A) (f : ℕ → A) (a : ℕ) → (if (a + 1) == 0 then none else f ((a + 1) - 1)) ≡ f a
behind none f a = let e : ((a + 1) == 0) ≡ false = grind arith in let g : (a + 1) - 1 ≡ a = omega arith in rw (e, g) refl

-- one block is taken, or given back
pub allocated_put : (old new : Store) (a : ℕ) (v : Bool) → is_allocated new a ≡ v → ((b : ℕ) → b ≢ a → is_allocated new b ≡ is_allocated old b) → (x : ℕ) → (if x == 0 then true else is_allocated new (x - 1)) ≡ (if x == a + 1 then v else (if x == 0 then true else is_allocated old (x - 1)))
allocated_put old new a v at others x = by_here (x == a + 1) refl
  where
    by_null : (t : Bool) → (x == 0) ≡ t → x ≢ a + 1 → (if t then true else is_allocated new (x - 1)) ≡ (if t then true else is_allocated old (x - 1))
    by_null true q ne = refl
    by_null false q ne = others (x - 1) (let some : x ≢ 0 = grind arith in omega arith)

    by_here : (t : Bool) → (x == a + 1) ≡ t → (if x == 0 then true else is_allocated new (x - 1)) ≡ (if t then v else (if x == 0 then true else is_allocated old (x - 1)))
    by_here true q = let same : x ≡ a + 1 = grind arith in ap (λ z. if z == 0 then true else is_allocated new (z - 1)) same ∙ behind true (λ z. is_allocated new z) a ∙ at
    by_here false q = by_null (x == 0) refl (grind arith)

-- a root is written
other_roots : (h : Heap) (root root' : ℕ → ℕ) (roots : ℕ) → roots ≡ h.roots → ((j : ℕ) → j < h.roots → root' j ≡ root j) → SameBlocks (record h { root = root }) (record h { roots = roots; root = root' })
other_roots h root root' roots n e = grind arith

pub root_seen : (h : HeapState) (j y : ℕ) → j < length h.roots → SameBlocks (set_root (seen h) j y) (seen (record h { roots = set h.roots j y }))
root_seen h j y l = other_roots (seen h) _ _ _ (length-set h.roots j y) (λ k m. read-set h.roots j y k l)

-- a block gets another colour and other cells: the rest of what it shows stays
pub write_seen : (h : HeapState) (new : Store) (a : ℕ) (colour : Bool) (cells : List ℕ) (words : ℕ → List ℕ) (marked : ℕ → Bool) (cell : ℕ → ℕ → ℕ) → Writes h.store new a (record (record_of h.store a) { colour = colour; cells = cells })
    → ((x : ℕ) → (seen h).allocated x ≡ true → (seen (record h { store = new })).words x ≡ words x)
    → ((x : ℕ) → (seen h).allocated x ≡ true → (seen (record h { store = new })).marked x ≡ marked x)
    → ((x i : ℕ) → (seen h).allocated x ≡ true → i < (seen h).width x → (seen (record h { store = new })).cell x i ≡ cell x i)
    → SameBlocks (record (seen h) { words = words; marked = marked; cell = cell }) (seen (record h { store = new }))
write_seen h new a colour cells words marked cell w same_words same_marks same_cells =
    let n : BlockRecord = record (record_of h.store a) { colour = colour; cells = cells } in
    record {
      next = refl;
      roots = refl;
      root = λ j m. refl;
      allocated = λ x. ap (λ b. if x == 0 then true else b) (allocated_pages h.store new (x - 1) w.pages);
      says = record {
        forward = λ x m. field_kept 0 (λ z. z.forward + 1) h.store new a n w x m (λ e. refl);
        name = λ x m. let f = λ (z : BlockRecord). let y : Name = record { identity = z.identity; part = z.part } in y in field_kept null f h.store new a n w x m (λ e. refl);
        width = λ x m. field_kept 0 width_at h.store new a n w x m (λ e. refl);
        words = same_words;
        shape = λ x m. let f = λ (z : BlockRecord). z.shape in field_kept _ f h.store new a n w x m (λ e. refl);
        marked = same_marks;
        cell = same_cells;
      };
    }

-- a cell is written
cell_after : (h : HeapState) (new : Store) (a i v : ℕ) → Writes h.store new a (with_cell (record_of h.store a) i v) → i < length (record_of h.store a).cells → (x k : ℕ) → (seen h).allocated x ≡ true
    → (seen (record h { store = new })).cell x k ≡ (set_cell (seen h) (a + 1) i v).cell x k
cell_after h new a i v w l x k m = by_null (x == 0) refl m
  where
    here : (t : Bool) → (x == a + 1) ≡ t → (x == 0) ≡ false → is_allocated h.store (x - 1) ≡ true → get_or (record_of new (x - 1)).cells k 0 ≡ (if (x == a + 1) && (k == i) then v else get_or (record_of h.store (x - 1)).cells k 0)
    here true e q m =
        let same : x - 1 ≡ a = (let f : x ≡ a + 1 = grind arith in omega arith) in
        let r = read-set (record_of h.store a).cells i v k l in
        let g : get_or (record_of new (x - 1)).cells k 0 ≡ get_or (set (record_of h.store a).cells i v) k 0 = ap (λ z. get_or (record_of new z).cells k 0) same ∙ ap (λ (n : BlockRecord). get_or n.cells k 0) w.here in
        let u : get_or (record_of h.store (x - 1)).cells k 0 ≡ get_or (record_of h.store a).cells k 0 = ap (λ z. get_or (record_of h.store z).cells k 0) same in
        rw (e, u) (g ∙ r)
    here false e q m = let ne : x - 1 ≢ a = (let f : x ≢ a + 1 = grind arith in let p : x ≢ 0 = grind arith in omega arith) in rw e (ap (λ (n : BlockRecord). get_or n.cells k 0) (w.others (x - 1) m ne))

    by_null : (t : Bool) → (x == 0) ≡ t → (if t then true else is_allocated h.store (x - 1)) ≡ true → (if t then 0 else get_or (record_of new (x - 1)).cells k 0) ≡ (if (x == a + 1) && (k == i) then v else (if t then 0 else get_or (record_of h.store (x - 1)).cells k 0))
    by_null true q m = let e : (x == a + 1) ≡ false = (let z : x ≡ 0 = grind arith in grind arith) in rw e refl
    by_null false q m = here (x == a + 1) refl q m

pub cell_seen : (h : HeapState) (new : Store) (a i v : ℕ) → Writes h.store new a (with_cell (record_of h.store a) i v) → i < length (record_of h.store a).cells → i < width_at (record_of h.store a)
    → SameBlocks (set_cell (seen h) (a + 1) i v) (seen (record h { store = new }))
cell_seen h new a i v w l lw =
    let n = with_cell (record_of h.store a) i v in
    write_seen h new a _ _ _ _ _ w
    (λ x m. let f = λ (z : BlockRecord). drop (width_at z) z.cells in field_kept [] f h.store new a n w x m (λ e. drop-set-lt (width_at (record_of h.store a)) (record_of h.store a).cells i v lw))
    (λ x m. field_kept true (λ z. same_colour h.mark_parity z.colour) h.store new a n w x m (λ e. refl))
    (λ x k m b. cell_after h new a i v w l x k m)

-- a word cell is written
words_after : (h : HeapState) (new : Store) (a c v : ℕ) → Writes h.store new a (with_cell (record_of h.store a) (width_at (record_of h.store a) + c) v) → (x : ℕ) → (seen h).allocated x ≡ true
    → (seen (record h { store = new })).words x ≡ (set_word (seen h) (a + 1) c v).words x
words_after h new a c v w x m = by_null (x == 0) refl m
  where
    here : (t : Bool) → (x == a + 1) ≡ t → (x == 0) ≡ false → is_allocated h.store (x - 1) ≡ true → drop (width_at (record_of new (x - 1))) (record_of new (x - 1)).cells ≡ (if x == a + 1 then set (drop (width_at (record_of h.store (x - 1))) (record_of h.store (x - 1)).cells) c v else drop (width_at (record_of h.store (x - 1))) (record_of h.store (x - 1)).cells)
    here true e q m =
        let same : x - 1 ≡ a = (let f : x ≡ a + 1 = grind arith in omega arith) in
        let f = λ (n : BlockRecord). drop (width_at n) n.cells in
        let r = drop-set-add (width_at (record_of h.store a)) (record_of h.store a).cells c v in
        rw e (ap (λ z. f (record_of new z)) same ∙ ap f w.here ∙ r ∙ ap (λ z. set (f (record_of h.store z)) c v) (sym same))
    here false e q m = let ne : x - 1 ≢ a = (let f : x ≢ a + 1 = grind arith in let p : x ≢ 0 = grind arith in omega arith) in rw e (ap (λ (n : BlockRecord). drop (width_at n) n.cells) (w.others (x - 1) m ne))

    by_null : (t : Bool) → (x == 0) ≡ t → (if t then true else is_allocated h.store (x - 1)) ≡ true → (if t then [] else drop (width_at (record_of new (x - 1))) (record_of new (x - 1)).cells) ≡ (if x == a + 1 then set (if t then [] else drop (width_at (record_of h.store (x - 1))) (record_of h.store (x - 1)).cells) c v else (if t then [] else drop (width_at (record_of h.store (x - 1))) (record_of h.store (x - 1)).cells))
    by_null true q m = let e : (x == a + 1) ≡ false = (let z : x ≡ 0 = grind arith in grind arith) in rw e refl
    by_null false q m = here (x == a + 1) refl q m

low_after : (h : HeapState) (new : Store) (a c v : ℕ) → Writes h.store new a (with_cell (record_of h.store a) (width_at (record_of h.store a) + c) v) → (x k : ℕ) → (seen h).allocated x ≡ true → k < (seen h).width x
    → (seen (record h { store = new })).cell x k ≡ (seen h).cell x k
low_after h new a c v w x k m b = field_kept 0 (λ z. get_or z.cells k 0) h.store new a (with_cell (record_of h.store a) (width_at (record_of h.store a) + c) v) w x m (λ e.
    get_or-set_other (record_of h.store a).cells (width_at (record_of h.store a) + c) k v 0 (let f : (seen h).width x ≡ width_at (record_of h.store a) = ap (seen h).width e ∙ behind 0 (λ z. width_at (record_of h.store z)) a in omega arith))

pub word_seen : (h : HeapState) (new : Store) (a c v : ℕ) → Writes h.store new a (with_cell (record_of h.store a) (width_at (record_of h.store a) + c) v)
    → SameBlocks (set_word (seen h) (a + 1) c v) (seen (record h { store = new }))
word_seen h new a c v w =
    let n = with_cell (record_of h.store a) (width_at (record_of h.store a) + c) v in
    write_seen h new a _ _ _ _ _ w (λ x m. words_after h new a c v w x m) (λ x m. field_kept true (λ z. same_colour h.mark_parity z.colour) h.store new a n w x m (λ e. refl)) (λ x k m b. low_after h new a c v w x k m b)
