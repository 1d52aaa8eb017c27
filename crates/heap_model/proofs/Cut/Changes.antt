-- A change of the graph heap is a change of its part graph.
use Rattle.std.proofs.Common.{◌≡◌, ℕ, ◌+◌, ◌-◌, ◌*◌, ◌/◌, ◌%◌, ◌<◌, ◌≤◌, ◌≢◌, ◌⊎◌, inl, inr, Bool, true, false, List, [], ◌∷◌, ◌++◌, length, get_or, set, take, drop, replicate, arith, refl, ap, sym, ◌∙◌, ◌==◌, ◌&&◌, if◌then◌else◌, length-set, get_or-set_other, nat_lt}
use Rattle.std.proofs.lemmas.List.{get_or_past, get_or-replicate, get_or_push, length-replicate, get_or_append_left, take-set-le, drop-set-lt, drop-set-add}
use Rattle.std.proofs.lemmas.Grind.{get_or-set_at, length_at_push}
use Rattle.std.proofs.Math.Path.{fun_ext}
use Rattle.std.proofs.Math.Seq.{take-set-lt}
use Rattle.graph_heap.specs.declared.command.Shape.{Shape}
use Rattle.graph_heap.specs.declared.command.Change.TheVariants as changes
use Rattle.graph_heap.specs.Shape.{ref_cells}
use Rattle.graph_heap.specs.Graph.{Object, Graph, no_object, object_of, put_object, with_ref, with_word, new_object, changed}
use Rattle.size_classes.specs.Parts.{PartContents, pieces_of, spines_of, parts_in, run_of, first_by, count_by, part_in, column_in}
use Rattle.size_classes.proofs.Cutting.{Pieces, Spines, pieces_are, spines_are, holds, cell_stands}
use Rattle.heap_model.specs.Core.{Name, PartGraph}
use Rattle.heap_model.specs.Cut.{count_of, width_by, width_in, width_of, name_of, target_by, target_of, words_of, view}
use Rattle.heap_model.proofs.Core.NewParts.{AreParts, link_by, link_name, made, parts_of}
use Rattle.heap_model.proofs.Core.Edits.{write_root, write_target, write_word}
use Rattle.heap_model.proofs.Cut.Reaching.{part_at, column_at}

put_some : (xs : List Object) (id : ℕ) (o : Object) → 0 < id → put_object xs id o ≡ set xs (id - 1) o
put_some xs id o p = grind arith

pub object-put_same : (xs : List Object) (id : ℕ) (o : Object) → 0 < id → id ≤ length xs → object_of (put_object xs id o) id ≡ o
unfolding object_of
object-put_same xs id o p l =
    let e = put_some xs id o p in
    let f : get_or (set xs (id - 1) o) (id - 1) no_object ≡ o = get_or-set_at xs (id - 1) (id - 1) o no_object refl (omega arith) in
    rw e (grind arith)

pub object-put_other : (xs : List Object) (id : ℕ) (o : Object) (k : ℕ) → 0 < id → k ≢ id → object_of (put_object xs id o) k ≡ object_of xs k
unfolding object_of
object-put_other xs id o k p ne = rw (put_some xs id o p) (by_null (k == 0) refl)
  where
    by_null : (b : Bool) → (k == 0) ≡ b → (if k == 0 then no_object else get_or (set xs (id - 1) o) (k - 1) no_object) ≡ (if k == 0 then no_object else get_or xs (k - 1) no_object)
    by_null true e = rw e refl
    by_null false e = let some : k ≢ 0 = grind arith in rw e (get_or-set_other xs (id - 1) (k - 1) o no_object (omega arith))

pub length-put : (xs : List Object) (id : ℕ) (o : Object) → length (put_object xs id o) ≡ length xs
length-put xs id o = by_null (id == 0)
  where
    by_null : (b : Bool) → length (if b then xs else set xs (id - 1) o) ≡ length xs
    by_null true = refl
    by_null false = length-set xs (id - 1) o

pub same_graph : (f g : PartGraph) → f.next ≡ g.next → f.root ≡ g.root → f.count ≡ g.count → f.width ≡ g.width → f.target ≡ g.target → f.words ≡ g.words → f.shape ≡ g.shape → f ≡ g
same_graph f g a b c d e w s = λ i. record { next = a i; root = b i; count = c i; width = d i; target = e i; words = w i; shape = s i }

-- what a function of an object says after one object was put
pub put_each : {A : Type 0} (f : Object → A) (xs : List Object) (id : ℕ) (o : Object) → 0 < id → id ≤ length xs → f o ≡ f (object_of xs id) → (k : ℕ) → f (object_of (put_object xs id o) k) ≡ f (object_of xs k)
put_each f xs id o p l e k = go (k == id) refl
  where
    go : (b : Bool) → (k == id) ≡ b → f (object_of (put_object xs id o) k) ≡ f (object_of xs k)
    go true t = let same : k ≡ id = grind arith in ap (λ z. f (object_of (put_object xs id o) z)) same ∙ ap f (object-put_same xs id o p l) ∙ e ∙ ap (λ z. f (object_of xs z)) (sym same)
    go false t = let ne : k ≢ id = grind arith in ap f (object-put_other xs id o k p ne)

-- an object with as many cells has as many parts, each as wide
count_same : (o p : Object) → length p.refs ≡ length o.refs → length p.words ≡ length o.words → count_of p ≡ count_of o
unfolding count_of
count_same o p refs words = rw (refs, words) refl

width_same : (o p : Object) (k : ℕ) → length p.refs ≡ length o.refs → length p.words ≡ length o.words → width_of p k ≡ width_of o k
width_same o p k refs words = rw (refs, words) refl

-- an object with one reference written
ref_words : (o : Object) (i v p : ℕ) → words_of (with_ref o i v) p ≡ words_of o p
unfolding words_of
ref_words o i v p = rw length-set refl

pub read-set : (xs : List ℕ) (i v j : ℕ) → i < length xs → get_or (set xs i v) j 0 ≡ (if j == i then v else get_or xs j 0)
read-set xs i v j l = grind (arith, get_or-set_at, get_or-set_other)

-- a cell of a piece is one of the object's
hit : (n k s : ℕ) → Pieces n k → Spines k s → (i p c : ℕ) → i < n → p ≡ s + i / 252 → c ≡ i % 252 → (nat_lt p s ≡ false) × (c < count_by n k s p) × (first_by s p + c ≡ i)
hit n k s a b i p c l e f = let q = cell_stands n k s a b i l in rw (e, f) (past s (i / 252), q.2, q.3)
  where
    past : (s x : ℕ) → nat_lt (s + x) s ≡ false
    past s x = grind arith

miss : (n k s i p c : ℕ) → nat_lt p s ≡ false → c < count_by n k s p → first_by s p + c ≡ i → (p ≡ s + i / 252) × (c ≡ i % 252)
miss n k s i p c e l f = (grind arith, grind arith)

target_set : (r : PartContents) (identity : ℕ) (refs : List ℕ) (i v p q c d : ℕ) → i < length refs → (p ≡ q → c ≡ d → (r.spine ≡ false) × (c < r.count) × (r.first + c ≡ i)) → (r.spine ≡ false → c < r.count → r.first + c ≡ i → (p ≡ q) × (c ≡ d))
    → target_by r identity (set refs i v) c ≡ (if (p == q) && (c == d) then name_of v else target_by r identity refs c)
target_set r identity refs i v p q c d l there back = let e = read-set refs i v (r.first + c) l in grind arith

ref_target : (identity : ℕ) (o : Object) (i v p c : ℕ) → i < length o.refs → target_of identity (with_ref o i v) p c ≡ (if (p == part_at o i) && (c == column_at o i) then name_of v else target_of identity o p c)
unfolding target_of part_in column_in
ref_target identity o i v p c l =
    let n = length o.refs + length o.words in
    rw length-set
    (target_set (run_of n p) identity o.refs i v p (spines_of n + i / 252) c (i % 252) l
    (λ e f. hit n (pieces_of n) (spines_of n) (pieces_are n) (spines_are n) i p c (omega arith) e f)
    (λ e m f. miss n (pieces_of n) (spines_of n) i p c e m f))

put_target : (g : Graph) (id i v : ℕ) → 0 < id → id ≤ length g.objects → i < length (object_of g.objects id).refs → (n : Name) (c : ℕ)
    → (view (changed g (changes.Ref id i v))).target n c ≡ (write_target (view g) (record { identity = id; part = part_at (object_of g.objects id) i }) (column_at (object_of g.objects id) i) (name_of v)).target n c
put_target g id i v p l b n c = go (n.identity == id) refl
  where
    o : Object
    o = object_of g.objects id

    go : (t : Bool) → (n.identity == id) ≡ t → (view (changed g (changes.Ref id i v))).target n c ≡ (write_target (view g) (record { identity = id; part = part_at (object_of g.objects id) i }) (column_at (object_of g.objects id) i) (name_of v)).target n c
    go true t =
        let same : n.identity ≡ id = grind arith in
        let e : object_of (put_object g.objects id (with_ref o i v)) n.identity ≡ with_ref o i v = ap (λ z. object_of (put_object g.objects id (with_ref o i v)) z) same ∙ object-put_same g.objects id (with_ref o i v) p l in
        let f : object_of g.objects n.identity ≡ o = ap (object_of g.objects) same in
        rw (e, f, t) (ref_target n.identity o i v n.part c b)
    go false t = let ne : n.identity ≢ id = grind arith in rw (object-put_other g.objects id (with_ref o i v) n.identity p ne, t) refl

-- a reference cell is written
pub view-ref : (g : Graph) (id i v : ℕ) → 0 < id → id ≤ length g.objects → i < length (object_of g.objects id).refs
    → view (changed g (changes.Ref id i v)) ≡ write_target (view g) (record { identity = id; part = part_at (object_of g.objects id) i }) (column_at (object_of g.objects id) i) (name_of v)
view-ref g id i v p l b =
    let o = object_of g.objects id in
    same_graph _ _
    (ap (λ z. z + 1) (length-put g.objects id (with_ref o i v)))
    refl
    (fun_ext (λ k. put_each count_of g.objects id (with_ref o i v) p l (count_same o (with_ref o i v) (length-set o.refs i v) refl) k))
    (fun_ext (λ n. put_each (λ z. width_of z n.part) g.objects id (with_ref o i v) p l (width_same o (with_ref o i v) n.part (length-set o.refs i v) refl) n.identity))
    (fun_ext (λ n. fun_ext (λ c. put_target g id i v p l b n c)))
    (fun_ext (λ n. put_each (λ z. words_of z n.part) g.objects id (with_ref o i v) p l (ref_words o i v n.part) n.identity))
    (fun_ext (λ n. put_each (λ z. z.shape) g.objects id (with_ref o i v) p l refl n.identity))

-- a root is written
pub view-root : (g : Graph) (j v : ℕ) → j < length g.roots → view (changed g (changes.Root j v)) ≡ write_root (view g) j (name_of v)
view-root g j v l = same_graph _ _ refl (fun_ext (λ k. let e = read-set g.roots j v k l in root_at k e)) refl refl refl refl refl
  where
    root_at : (k : ℕ) → get_or (set g.roots j v) k 0 ≡ (if k == j then v else get_or g.roots k 0) → name_of (get_or (set g.roots j v) k 0) ≡ (if k == j then name_of v else name_of (get_or g.roots k 0))
    root_at k e = grind arith

-- a piece of a list with one word written
piece_before : (ws : List ℕ) (k i w : ℕ) → i < k → take 252 (drop k (set ws i w)) ≡ take 252 (drop k ws)
piece_before ws k i w l = ap (take 252) (drop-set-lt k ws i w l)

piece_here : (ws : List ℕ) (k i d w : ℕ) → i ≡ k + d → d < 252 → take 252 (drop k (set ws i w)) ≡ set (take 252 (drop k ws)) d w
piece_here ws k i d w e l = rw e (ap (take 252) (drop-set-add k ws d w) ∙ take-set-lt 252 (drop k ws) d w l)

piece_behind : (ws : List ℕ) (k i d w : ℕ) → i ≡ k + d → 252 ≤ d → take 252 (drop k (set ws i w)) ≡ take 252 (drop k ws)
piece_behind ws k i d w e l = rw e (ap (take 252) (drop-set-add k ws d w) ∙ take-set-le 252 (drop k ws) d w l)

-- which piece it is, and where in it
here_place : (s i p : ℕ) → s ≤ p → p ≡ s + i / 252 → (i ≡ 252 * (p - s) + i % 252) × (i % 252 < 252)
here_place s i p k e = (grind arith, grind arith)

other_place : (s i p : ℕ) → s ≤ p → p ≢ s + i / 252 → (i < 252 * (p - s)) ⊎ ((252 * (p - s) ≤ i) × (252 ≤ i - 252 * (p - s)))
other_place s i p k e = grind arith

other_piece : (ws : List ℕ) (s i w p : ℕ) → s ≤ p → p ≢ s + i / 252 → take 252 (drop (252 * (p - s)) (set ws i w)) ≡ take 252 (drop (252 * (p - s)) ws)
other_piece ws s i w p k e = elim (other_place s i p k e) [ inl l ↦ piece_before ws (252 * (p - s)) i w l | inr l ↦ piece_behind ws (252 * (p - s)) i (i - 252 * (p - s)) w (let l0 = l.0 in omega arith) l.1 ]

this_piece : (ws : List ℕ) (s i w p : ℕ) → s ≤ p → p ≡ s + i / 252 → take 252 (drop (252 * (p - s)) (set ws i w)) ≡ set (take 252 (drop (252 * (p - s)) ws)) (i % 252) w
this_piece ws s i w p k e = let h = here_place s i p k e in piece_here ws (252 * (p - s)) i (i % 252) w h.0 h.1

first_piece : (s p : ℕ) → s ≤ p → first_by s p ≡ 252 * (p - s)
first_piece s p l = grind arith

words_set : (ws : List ℕ) (s f i w p : ℕ) → (s ≤ p → f ≡ 252 * (p - s)) → (if nat_lt p s then [] else take 252 (drop f (set ws i w)))
    ≡ (if p == s + i / 252 then set (if nat_lt p s then [] else take 252 (drop f ws)) (i % 252) w else (if nat_lt p s then [] else take 252 (drop f ws)))
words_set ws s f i w p e = by_spine (nat_lt p s) refl
  where
    later : (s p : ℕ) → nat_lt p s ≡ false → s ≤ p
    later s p t = grind arith

    sooner : (s p i : ℕ) → nat_lt p s ≡ true → (p == s + i / 252) ≡ false
    sooner s p i t = grind arith

    by_here : s ≤ p → (b : Bool) → (p == s + i / 252) ≡ b → take 252 (drop f (set ws i w)) ≡ (if b then set (take 252 (drop f ws)) (i % 252) w else take 252 (drop f ws))
    by_here l true t = let q : p ≡ s + i / 252 = grind arith in rw (e l) (this_piece ws s i w p l q)
    by_here l false t = let q : p ≢ s + i / 252 = grind arith in rw (e l) (other_piece ws s i w p l q)

    by_spine : (b : Bool) → nat_lt p s ≡ b → (if b then [] else take 252 (drop f (set ws i w))) ≡ (if p == s + i / 252 then set (if b then [] else take 252 (drop f ws)) (i % 252) w else (if b then [] else take 252 (drop f ws)))
    by_spine true t = rw (sooner s p i t) refl
    by_spine false t = by_here (later s p t) (p == s + i / 252) refl

-- an object with one word written
word_target : (identity : ℕ) (o : Object) (i w p c : ℕ) → target_of identity (with_word o i w) p c ≡ target_of identity o p c
unfolding target_of
word_target identity o i w p c = rw length-set refl

word_words : (o : Object) (i w p : ℕ) → words_of (with_word o i w) p ≡ (if p == part_at o i then set (words_of o p) (column_at o i) w else words_of o p)
unfolding words_of part_in column_in
word_words o i w p =
    let s = spines_of (length o.refs + length o.words) in
    rw length-set (words_set o.words s (first_by s p) i w p (first_piece s p))

-- a word cell is written
pub view-word : (g : Graph) (id i w : ℕ) → 0 < id → id ≤ length g.objects
    → view (changed g (changes.Word id i w)) ≡ write_word (view g) (record { identity = id; part = part_at (object_of g.objects id) i }) (column_at (object_of g.objects id) i) w
view-word g id i w p l =
    same_graph _ _
    (ap (λ z. z + 1) (length-put g.objects id o'))
    refl
    (fun_ext (λ k. put_each count_of g.objects id o' p l (count_same o o' refl (length-set o.words i w)) k))
    (fun_ext (λ n. put_each (λ z. width_of z n.part) g.objects id o' p l (width_same o o' n.part refl (length-set o.words i w)) n.identity))
    (fun_ext (λ n. fun_ext (λ c. put_each (λ z. target_of n.identity z n.part c) g.objects id o' p l (word_target n.identity o i w n.part c) n.identity)))
    (fun_ext (λ n. words_at n (n.identity == id) refl))
    (fun_ext (λ n. put_each (λ z. z.shape) g.objects id o' p l refl n.identity))
  where
    o : Object
    o = object_of g.objects id

    o' : Object
    o' = with_word o i w

    words_at : (n : Name) (t : Bool) → (n.identity == id) ≡ t → words_of (object_of (put_object g.objects id o') n.identity) n.part ≡ (if (n.identity == id) && (n.part == part_at o i) then set (words_of (object_of g.objects n.identity) n.part) (column_at o i) w else words_of (object_of g.objects n.identity) n.part)
    words_at n true t =
        let same : n.identity ≡ id = grind arith in
        let e : object_of (put_object g.objects id o') n.identity ≡ o' = ap (λ z. object_of (put_object g.objects id o') z) same ∙ object-put_same g.objects id o' p l in
        let f : object_of g.objects n.identity ≡ o = ap (object_of g.objects) same in
        rw (e, f, t) (word_words o i w n.part)
    words_at n false t = let ne : n.identity ≢ id = grind arith in rw (object-put_other g.objects id o' n.identity p ne, t) refl

-- an object is made
push_left : (xs : List Object) (e : Object) (k : ℕ) → k < length xs → get_or (xs ++ e ∷ []) k no_object ≡ get_or xs k no_object
push_left xs e k l = get_or_append_left xs (e ∷ []) no_object k l

push_here : (xs : List Object) (e : Object) (k : ℕ) → k ≡ length xs → get_or (xs ++ e ∷ []) k no_object ≡ e
push_here xs e k l = get_or_push xs e no_object k (sym l)

push_past : (xs : List Object) (e : Object) (k : ℕ) → length xs < k → get_or (xs ++ e ∷ []) k no_object ≡ get_or xs k no_object
push_past xs e k l = get_or_past (xs ++ e ∷ []) k no_object (omega (arith, (length_at_push xs e).1)) ∙ sym (get_or_past xs k no_object (omega arith))

push_each : (xs : List Object) (e : Object) (k : ℕ) → get_or (xs ++ e ∷ []) k no_object ≡ (if k == length xs then e else get_or xs k no_object)
push_each xs e k = grind (arith, push_left, push_here, push_past)

pub object-append : (xs : List Object) (e : Object) (k : ℕ) → object_of (xs ++ e ∷ []) k ≡ (if k == length xs + 1 then e else object_of xs k)
unfolding object_of
object-append xs e k = let p = push_each xs e (k - 1) in grind arith

append_each : {A : Type 0} (f : Object → A) (xs : List Object) (e : Object) (k : ℕ) → f (object_of (xs ++ e ∷ []) k) ≡ (if k == length xs + 1 then f e else f (object_of xs k))
append_each f xs e k = ap f (object-append xs e k) ∙ pulled (k == length xs + 1)
  where
    pulled : (b : Bool) → f (if b then e else object_of xs k) ≡ (if b then f e else f (object_of xs k))
    pulled true = refl
    pulled false = refl

link_below : (r : PartContents) (refs i parts : ℕ) → 0 < parts → i < width_by r refs → (r.spine ≡ true → i < r.count → r.first + i < parts) → link_by r i < parts
link_below r refs i parts some l below = grind arith

pub parts_are : (shape : Shape) → AreParts (parts_of shape)
unfolding count_of width_in
parts_are shape =
    let o = new_object shape in
    let n = length o.refs + length o.words in
    record {
      some = some_parts n;
      link = λ p i l k. link_below (run_of n p) (length o.refs) i (parts_in n) (some_parts n) k (λ e m. (holds n (pieces_of n) (spines_of n) (pieces_are n) (spines_are n) p i (among (spines_of n) p e) m).1);
    }
  where
    some_parts : (n : ℕ) → 0 < parts_in n
    some_parts n = grind arith

    among : (s p : ℕ) → nat_lt p s ≡ true → p < s
    among s p e = grind arith

-- every reference of a new object is null
pub no_refs : (n i : ℕ) → get_or {A = ℕ} (replicate n 0) i 0 ≡ 0
no_refs n i = let l = length-replicate {A = ℕ} n 0 in grind (arith, get_or-replicate, get_or_past)

empty_by : (r : PartContents) (identity : ℕ) (refs : List ℕ) (i : ℕ) → (r.spine ≡ true → 0 < r.first) → ((j : ℕ) → get_or refs j 0 ≡ 0) → target_by r identity refs i ≡ link_name identity (link_by r i)
empty_by r identity refs i some none = let a = none (r.first + i) in grind arith

first_some : (s p : ℕ) → nat_lt p s ≡ true → 0 < first_by s p
first_some s p e = grind arith

empty_target : (identity : ℕ) (shape : Shape) (p i : ℕ) → target_of identity (new_object shape) p i ≡ link_name identity ((parts_of shape).link p i)
unfolding target_of
empty_target identity shape p i =
    let o = new_object shape in
    let n = length o.refs + length o.words in
    empty_by (run_of n p) identity o.refs i (first_some (spines_of n) p) (no_refs (ref_cells shape))

-- the graph heap with an object that no root names yet
abbrev pub appended : Graph → Shape → Graph
appended g shape = record g { objects = g.objects ++ new_object shape ∷ [] }

append_target : (g : Graph) (shape : Shape) (n : Name) (i : ℕ) → (view (appended g shape)).target n i ≡ (made (view g) (parts_of shape)).target n i
append_target g shape n i = append_each (λ o. target_of n.identity o n.part i) g.objects (new_object shape) n.identity ∙ swapped (n.identity == length g.objects + 1) refl
  where
    swapped : (b : Bool) → (n.identity == length g.objects + 1) ≡ b → (if n.identity == length g.objects + 1 then target_of n.identity (new_object shape) n.part i else target_of n.identity (object_of g.objects n.identity) n.part i) ≡ (if n.identity == length g.objects + 1 then link_name (length g.objects + 1) ((parts_of shape).link n.part i) else target_of n.identity (object_of g.objects n.identity) n.part i)
    swapped true t = let same : n.identity ≡ length g.objects + 1 = grind arith in rw t (empty_target n.identity shape n.part i ∙ ap (λ z. link_name z ((parts_of shape).link n.part i)) same)
    swapped false t = rw t refl

pub view-appended : (g : Graph) (shape : Shape) → view (appended g shape) ≡ made (view g) (parts_of shape)
view-appended g shape = same_graph _ _
    (ap (λ z. z + 1) ((length_at_push g.objects (new_object shape)).1))
    refl
    (fun_ext (λ k. append_each count_of g.objects (new_object shape) k))
    (fun_ext (λ n. append_each (λ o. width_of o n.part) g.objects (new_object shape) n.identity))
    (fun_ext (λ n. fun_ext (λ i. append_target g shape n i)))
    (fun_ext (λ n. append_each (λ o. words_of o n.part) g.objects (new_object shape) n.identity))
    (fun_ext (λ n. append_each (λ o. o.shape) g.objects (new_object shape) n.identity))
