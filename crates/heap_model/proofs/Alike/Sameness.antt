-- Two graph heaps that agree with one heap can't be told apart.
use Rattle.graph_heap.specs.declared.command.Change.TheVariants as changes
use Rattle.size_classes.specs.Parts.{part_in, column_in}
use Rattle.heap_model.proofs.Cut.Changes.{object-put_same, object-put_other, length-put, object-append, no_refs, read-set}
use Rattle.graph_heap.specs.declared.command.Change.{Change}
use Rattle.graph_heap.specs.declared.command.Shape.{Shape}
use Rattle.std.proofs.lemmas.Grind.{length_at_push}
use Rattle.graph_heap.specs.Shape.{ref_cells, word_cells}
use Rattle.std.proofs.Common.{◌≡◌, List, ℕ, zero, suc, ◌+◌, ◌<◌, ◌⊎◌, inl, inr, length, get_or, refl, ap, subst, sym, ◌∙◌, arith, ◌≢◌, Bool, true, false, [], ◌∷◌, ◌++◌, set, if◌then◌else◌, length-set, ◌≤◌, ◌==◌}
use Rattle.std.proofs.lemmas.List.{ext_get_or}
use Rattle.graph_heap.specs.Graph.{Object, Graph, nulled, first_slot, object_of, put_object, with_ref, with_word, new_object, changed}
use Rattle.graph_heap.specs.Reach.{Path, Reaches}
use Rattle.heap_model.specs.Core.{Name, Reach}
use Rattle.heap_model.specs.Agree.{Reads}
use Rattle.heap_model.specs.Cut.{count_of, width_of, words_of, target_of, name_of, view}
use Rattle.heap_model.specs.State.{HeapState, seen}
use Rattle.heap_model.specs.Agreement.{HasItsCells, Agrees}
use Rattle.heap_model.specs.Written.{IsKnown}
use Rattle.heap_model.specs.Alike.{IsAlike, IsFounded}
use Rattle.heap_model.proofs.Agree.{Alike, alike, alike_reach}
use Rattle.heap_model.proofs.Agreements.Implied.{by_parts}
use Rattle.heap_model.proofs.Cut.Reaching.{part_at, column_at, reaches_reach, reach_reaches, count_some, part_below, column_below, cell_at, word_below}
use Rattle.heap_model.proofs.Readings.Shown.{word_at}

name_same : (a b : ℕ) → name_of a ≡ name_of b → a ≡ b
name_same a b e = ap (λ (n : Name). n.identity) e

-- Two graph heaps with which a heap agrees have the same object, part by part.
object_same : (h : HeapState) (f g : Graph) → Agrees h f → Agrees h g → (id : ℕ) → Reaches f id → object_of f.objects id ≡ object_of g.objects id
object_same h f g p q id r =
    let al : Alike (length h.roots) (view f) (view g) = alike (seen h) (view f) (view g) (by_parts h f p) (by_parts h g q) in
    let reach : (n : Name) → Reaches f n.identity → n.part < count_of (object_of f.objects n.identity) → Reach (length h.roots) (view f) n = λ n e l. subst (λ z. Reach z (view f) n) (sym p.roots) (reaches_reach f n e l) in
    let o = object_of f.objects id in
    let o' = object_of g.objects id in
    let n0 = name_of id in
    let r0 = reach n0 r (count_some o) in
    let rg : Reaches g id = (reach_reaches g n0 (subst (λ z. Reach z (view g) n0) q.roots (alike_reach (seen h) (view f) (view g) (by_parts h f p) (by_parts h g q) n0 r0).1) (let s = some_id r in omega arith)).0 in
    let shape : o.shape ≡ o'.shape = al.shape n0 r0 in
    let c = (p.given id r).cells in
    let c' = (q.given id rg).cells in
    let refs_length : length o.refs ≡ length o'.refs = c.refs ∙ ap ref_cells shape ∙ sym c'.refs in
    let words_length : length o.words ≡ length o'.words = c.words ∙ ap word_cells shape ∙ sym c'.words in
    let sum : length o.refs + length o.words ≡ length o'.refs + length o'.words = omega arith in
    let refs : o.refs ≡ o'.refs = ext_get_or 0 o.refs o'.refs refs_length (λ i l.
    let n : Name = record { identity = id; part = part_at o i } in
    let t = al.target n (column_at o i) (reach n r (part_below o i l)) (column_below o i l) in
    let t' : target_of id o' (part_at o i) (column_at o i) ≡ name_of (get_or o'.refs i 0) = subst (λ z. target_of id o' (part_in z i) (column_in i) ≡ name_of (get_or o'.refs i 0)) (sym sum) (cell_at id o' i (subst (λ z. i < z) refs_length l)) in
    name_same _ _ (sym (cell_at id o i l) ∙ t ∙ t')) in
    let words : o.words ≡ o'.words = ext_get_or 0 o.words o'.words words_length (λ k l.
    let n : Name = record { identity = id; part = part_at o k } in
    let t : words_of o (part_at o k) ≡ words_of o' (part_at o k) = al.words n (reach n r (word_below o k l)) in
    let t' : get_or (words_of o' (part_at o k)) (column_at o k) 0 ≡ get_or o'.words k 0 = subst (λ z. get_or (words_of o' (part_in z k)) (column_in k) 0 ≡ get_or o'.words k 0) (sym sum) (word_at o' k) in
    sym (word_at o k) ∙ ap (λ z. get_or z (column_at o k) 0) t ∙ t') in
    λ i. record { shape = shape i; refs = refs i; words = words i }
  where
    some_id : Reaches f id → 0 < id
    some_id e = unfold Reaches in e.0

pub told : (h : HeapState) (f g : Graph) → Agrees h f → Agrees h g → IsAlike f g
told h f g p q = record {
  limits = sym p.limits ∙ q.limits;
  live = sym p.live ∙ q.live;
  count = let a = p.next in let b = q.next in omega arith;
  roots = let al : Alike (length h.roots) (view f) (view g) = alike (seen h) (view f) (view g) (by_parts h f p) (by_parts h g q) in
      ext_get_or 0 f.roots g.roots (sym p.roots ∙ q.roots) (λ j l. name_same _ _ (al.root j (subst (λ z. j < z) (sym p.roots) l)));
  object = object_same h f g p q;
}

-- induction along a path of objects
pub path_induction : (g : Graph) (P : ℕ → Type 0) → ((j : ℕ) → j < length g.roots → P (get_or g.roots j 0))
    → ((from i : ℕ) → P from → i < length (object_of g.objects from).refs → P (get_or (object_of g.objects from).refs i 0)) → (k id : ℕ) → Path g k id → P id
path_induction g P base step zero id w = subst P w.2 (base w.0 w.1)
path_induction g P base step (suc k) id w = subst P w.4 (step w.0 w.1 (path_induction g P base step k w.0 w.2) w.3)

pub reaches_induction : (g : Graph) (P : ℕ → Type 0) → ((j : ℕ) → j < length g.roots → P (get_or g.roots j 0))
    → ((from i : ℕ) → P from → i < length (object_of g.objects from).refs → P (get_or (object_of g.objects from).refs i 0)) → (id : ℕ) → Reaches g id → P id
unfolding Reaches
reaches_induction g P base step id r = path_induction g P base step r.1 id r.2

-- what a root or a cell of a known object holds is known
pub known_root : (g : Graph) (j : ℕ) → j < length g.roots → IsKnown g (get_or g.roots j 0)
unfolding Reaches
known_root g j l = by_null (get_or g.roots j 0) refl
  where
    by_null : (x : ℕ) → get_or g.roots j 0 ≡ x → (x ≡ 0) ⊎ Reaches g x
    by_null zero e = inl refl
    by_null (suc n) e = inr (omega arith, 0, (j, l, e))

no_cells : (g : Graph) (i : ℕ) → i < length (object_of g.objects 0).refs → ⊥
unfolding object_of
no_cells g i l = omega arith

pub known_ref : (g : Graph) (from i : ℕ) → IsKnown g from → i < length (object_of g.objects from).refs → IsKnown g (get_or (object_of g.objects from).refs i 0)
unfolding Reaches
known_ref g from i k l = elim k [ inl e ↦ absurd (no_cells g i (subst (λ z. i < length (object_of g.objects z).refs) e l)) | inr r ↦ by_null (get_or (object_of g.objects from).refs i 0) refl r ]
  where
    by_null : (x : ℕ) → get_or (object_of g.objects from).refs i 0 ≡ x → Reaches g from → (x ≡ 0) ⊎ Reaches g x
    by_null zero e r = inl refl
    by_null (suc n) e r = inr (omega arith, suc r.1, (from, i, r.2, l, e))

pub known_reaches : (g : Graph) (id : ℕ) → IsKnown g id → 0 < id → Reaches g id
known_reaches g id k p = elim k [ inl e ↦ absurd (omega arith) | inr r ↦ r ]

-- alike graph heaps reach the same
pub object_known : (f g : Graph) → IsAlike f g → (id : ℕ) → IsKnown f id → object_of f.objects id ≡ object_of g.objects id
unfolding object_of
object_known f g a id k = elim k [ inl e ↦ (let z : object_of f.objects 0 ≡ object_of g.objects 0 = refl in subst (λ i. object_of f.objects i ≡ object_of g.objects i) (sym e) z) | inr r ↦ a.object id r ]

pub alike_back : (f g : Graph) → IsAlike f g → (id : ℕ) → Reaches g id → Reaches f id
alike_back f g a id r = known_reaches f id (reaches_induction g (λ z. IsKnown f z)
    (λ j l. subst (λ z. IsKnown f (get_or z j 0)) a.roots (known_root f j (subst (λ z. j < length z) (sym a.roots) l)))
    (λ from i k l. let e = object_known f g a from k in subst (λ (z : Object). IsKnown f (get_or z.refs i 0)) e (known_ref f from i k (subst (λ (z : Object). i < length z.refs) (sym e) l))) id r) (unfold Reaches in r.0)

pub alike_sym : (f g : Graph) → IsAlike f g → IsAlike g f
alike_sym f g a = record { limits = sym a.limits; live = sym a.live; count = sym a.count; roots = sym a.roots; object = λ id r. sym (a.object id (alike_back f g a id r)) }

-- a heap that agrees with one agrees with the other
pub agrees_alike : (h : HeapState) (f g : Graph) → Agrees h f → IsAlike f g → Agrees h g
agrees_alike h f g p a = record {
  limits = p.limits ∙ a.limits;
  live = p.live ∙ a.live;
  next = p.next ∙ ap (λ z. z + 1) a.count;
  roots = p.roots ∙ ap length a.roots;
  root = λ j l. subst (λ z. Reads (seen h) (get_or h.roots j 0) (name_of (get_or z j 0))) a.roots (p.root j l);
  null = p.null;
  given = λ id r. let q = alike_back f g a id r in let w = p.given id q in record { below = (let b = w.below in let c = a.count in omega arith); cells = subst HasItsCells (a.object id q) w.cells };
  shows = λ id part r l. let q = alike_back f g a id r in let e = a.object id q in let w = p.shows id part q (subst (λ z. part < count_of z) (sym e) l) in record {
    place = w.place;
    main = w.main;
    only = w.only;
    width = w.width ∙ ap (λ z. width_of z part) e;
    words = w.words ∙ ap (λ z. words_of z part) e;
    shape = w.shape ∙ ap (λ (z : Object). z.shape) e;
    cells = λ i b. subst (λ z. Reads (seen h) ((seen h).cell w.place i) (target_of id z part i)) e (w.cells i (subst (λ z. i < width_of z part) (sym e) b));
  };
}

-- what can be reached after a change was there before, or is the new object
pub after_root : (f : Graph) (j v : ℕ) → j < length f.roots → IsKnown f v → (id : ℕ) → Reaches (changed f (changes.Root j v)) id → IsKnown f id
after_root f j v l k = reaches_induction (changed f (changes.Root j v)) (λ z. IsKnown f z)
    (λ i b. let b' : i < length f.roots = subst (λ z. i < z) (length-set f.roots j v) b in subst (λ z. IsKnown f z) (sym (read-set f.roots j v i l)) (by_here i b' (i == j)))
    (λ from i q b. known_ref f from i q b)
  where
    by_here : (i : ℕ) → i < length f.roots → (t : Bool) → IsKnown f (if t then v else get_or f.roots i 0)
    by_here i b true = k
    by_here i b false = known_root f i b

pub after_put : (f : Graph) (id : ℕ) (o : Object) → 0 < id → id ≤ length f.objects → ((i : ℕ) → i < length o.refs → IsKnown f (get_or o.refs i 0)) → (k : ℕ) → Reaches (record f { objects = put_object f.objects id o }) k → IsKnown f k
after_put f id o p l refs = reaches_induction (record f { objects = put_object f.objects id o }) (λ z. IsKnown f z) (known_root f)
    (λ from i q b. by_here from i q (from == id) refl b)
  where
    by_here : (from i : ℕ) → IsKnown f from → (t : Bool) → (from == id) ≡ t → i < length (object_of (put_object f.objects id o) from).refs → IsKnown f (get_or (object_of (put_object f.objects id o) from).refs i 0)
    by_here from i q true e b =
        let same : from ≡ id = grind arith in
        let here : object_of (put_object f.objects id o) from ≡ o = ap (object_of (put_object f.objects id o)) same ∙ object-put_same f.objects id o p l in
        subst (λ (z : Object). IsKnown f (get_or z.refs i 0)) (sym here) (refs i (subst (λ (z : Object). i < length z.refs) here b))
    by_here from i q false e b =
        let ne : from ≢ id = grind arith in
        let there : object_of (put_object f.objects id o) from ≡ object_of f.objects from = object-put_other f.objects id o from p ne in
        subst (λ (z : Object). IsKnown f (get_or z.refs i 0)) (sym there) (known_ref f from i q (subst (λ (z : Object). i < length z.refs) there b))

pub after_new : (f : Graph) (j : ℕ) (shape : Shape) → j < length f.roots → (id : ℕ) → Reaches (changed f (changes.New j (length f.objects + 1) shape)) id → (IsKnown f id) ⊎ (id ≡ length f.objects + 1)
after_new f j shape l = reaches_induction (changed f (changes.New j (length f.objects + 1) shape)) (λ z. (IsKnown f z) ⊎ (z ≡ length f.objects + 1))
    (λ i b. let b' : i < length f.roots = subst (λ z. i < z) (length-set f.roots j (length f.objects + 1)) b in subst (λ z. (IsKnown f z) ⊎ (z ≡ length f.objects + 1)) (sym (read-set f.roots j (length f.objects + 1) i l)) (by_here i b' (i == j)))
    (λ from i q b. by_new from i q (from == length f.objects + 1) refl b)
  where
    by_here : (i : ℕ) → i < length f.roots → (t : Bool) → (IsKnown f (if t then length f.objects + 1 else get_or f.roots i 0)) ⊎ ((if t then length f.objects + 1 else get_or f.roots i 0) ≡ length f.objects + 1)
    by_here i b true = inr refl
    by_here i b false = inl (known_root f i b)

    by_new : (from i : ℕ) → (IsKnown f from) ⊎ (from ≡ length f.objects + 1) → (t : Bool) → (from == length f.objects + 1) ≡ t → i < length (object_of (f.objects ++ new_object shape ∷ []) from).refs
        → (IsKnown f (get_or (object_of (f.objects ++ new_object shape ∷ []) from).refs i 0)) ⊎ (get_or (object_of (f.objects ++ new_object shape ∷ []) from).refs i 0 ≡ length f.objects + 1)
    by_new from i q true e b =
        let here : object_of (f.objects ++ new_object shape ∷ []) from ≡ new_object shape = object-append f.objects (new_object shape) from ∙ (rw e refl) in
        inl (inl (ap (λ (z : Object). get_or z.refs i 0) here ∙ no_refs (ref_cells shape) i))
    by_new from i q false e b =
        let there : object_of (f.objects ++ new_object shape ∷ []) from ≡ object_of f.objects from = object-append f.objects (new_object shape) from ∙ (rw e refl) in
        let known : IsKnown f from = elim q [ inl k ↦ k | inr s ↦ absurd (let ne : from ≢ length f.objects + 1 = grind arith in ne s) ] in
        inl (subst (λ (z : Object). IsKnown f (get_or z.refs i 0)) (sym there) (known_ref f from i known (subst (λ (z : Object). i < length z.refs) there b)))

-- who is live says nothing of what can be reached
pub after_live : (f : Graph) (live : List Bool) (id : ℕ) → Reaches (record f { live = live }) id → IsKnown f id
after_live f live = reaches_induction (record f { live = live }) (λ z. IsKnown f z) (known_root f) (known_ref f)

-- roots that get null, one after the other
pub length-nulled : (roots : List ℕ) (first n : ℕ) → length (nulled roots first n) ≡ length roots
length-nulled roots first zero = refl
length-nulled roots first (suc n) = length-set (nulled roots first n) (first + n) 0 ∙ length-nulled roots first n

pub after_nulled : (f : Graph) (first n : ℕ) → first + n ≤ length f.roots → (id : ℕ) → Reaches (record f { roots = nulled f.roots first n }) id → IsKnown f id
after_nulled f first zero l id r = inr r
after_nulled f first (suc n) l id r =
    let before : Graph = record f { roots = nulled f.roots first n } in
    let e = length-nulled f.roots first n in
    elim (after_root before (first + n) 0 (omega arith) (inl refl) id r) [ inl z ↦ inl z | inr q ↦ after_nulled f first n (omega arith) id q ]

pub after_leave : (f : Graph) (m : ℕ) → first_slot f.limits m + f.limits.slots ≤ length f.roots → (id : ℕ) → Reaches (changed f (changes.Leave m)) id → IsKnown f id
after_leave f m l id r =
    let before : Graph = record f { roots = nulled f.roots (first_slot f.limits m) f.limits.slots } in
    elim (after_live before (set f.live m false) id r) [ inl z ↦ inl z | inr q ↦ after_nulled f (first_slot f.limits m) f.limits.slots l id q ]

-- objects that are put alike
put_alike : (f g : Graph) (id : ℕ) (o p : Object) → IsAlike f g → 0 < id → id ≤ length f.objects → o ≡ p → (k : ℕ) → IsKnown f k → object_of (put_object f.objects id o) k ≡ object_of (put_object g.objects id p) k
put_alike f g id o p a some l e k q = by_here (k == id) refl
  where
    by_here : (t : Bool) → (k == id) ≡ t → object_of (put_object f.objects id o) k ≡ object_of (put_object g.objects id p) k
    by_here true t =
        let same : k ≡ id = grind arith in
        let l' : id ≤ length g.objects = (let c = a.count in omega arith) in
        ap (object_of (put_object f.objects id o)) same ∙ object-put_same f.objects id o some l ∙ e ∙ sym (object-put_same g.objects id p some l') ∙ sym (ap (object_of (put_object g.objects id p)) same)
    by_here false t = let ne : k ≢ id = grind arith in object-put_other f.objects id o k some ne ∙ object_known f g a k q ∙ sym (object-put_other g.objects id p k some ne)

alike_put : (f g : Graph) (id : ℕ) (o p : Object) → IsAlike f g → 0 < id → id ≤ length f.objects → o ≡ p → ((k : ℕ) → Reaches (record f { objects = put_object f.objects id o }) k → IsKnown f k)
    → IsAlike (record f { objects = put_object f.objects id o }) (record g { objects = put_object g.objects id p })
alike_put f g id o p a some l e known = record {
  limits = a.limits;
  live = a.live;
  count = length-put f.objects id o ∙ a.count ∙ sym (length-put g.objects id p);
  roots = a.roots;
  object = λ k r. put_alike f g id o p a some l e k (known k r);
}

pub reach_some : (g : Graph) (id : ℕ) → Reaches g id → 0 < id
unfolding Reaches
reach_some g id r = r.0

-- the same change leaves graph heaps alike
pub alike_changed : (f g : Graph) (c : Change) → IsAlike f g → IsFounded f c → IsAlike (changed f c) (changed g c)
alike_changed f g changes.Nothing a w = a
alike_changed f g (changes.Root j v) a w = record {
  limits = a.limits;
  live = a.live;
  count = a.count;
  roots = ap (λ z. set z j v) a.roots;
  object = λ id r. object_known f g a id (after_root f j v w.0 w.1 id r);
}
alike_changed f g (changes.Ref id i v) a w =
    let o = object_of f.objects id in
    let some = reach_some f id w.0 in
    let known = after_put f id (with_ref o i v) some w.1 (λ n b. let b' : n < length o.refs = subst (λ z. n < z) (length-set o.refs i v) b in subst (λ z. IsKnown f z) (sym (read-set o.refs i v n w.2)) (by_here n b' (n == i))) in
    alike_put f g id (with_ref o i v) (with_ref (object_of g.objects id) i v) a some w.1 (ap (λ z. with_ref z i v) (a.object id w.0)) known
  where
    by_here : (n : ℕ) → n < length (object_of f.objects id).refs → (t : Bool) → IsKnown f (if t then v else get_or (object_of f.objects id).refs n 0)
    by_here n b true = w.3
    by_here n b false = known_ref f id n (inr w.0) b
alike_changed f g (changes.Word id i word) a w =
    let o = object_of f.objects id in
    let some = reach_some f id w.0 in
    alike_put f g id (with_word o i word) (with_word (object_of g.objects id) i word) a some w.1 (ap (λ z. with_word z i word) (a.object id w.0)) (after_put f id (with_word o i word) some w.1 (λ n b. known_ref f id n (inr w.0) b))
alike_changed f g (changes.New j id shape) a w =
    let count : length f.objects + 1 ≡ length g.objects + 1 = ap (λ z. z + 1) a.count in
    record {
      limits = a.limits;
      live = a.live;
      count = (length_at_push f.objects (new_object shape)).1 ∙ count ∙ sym (length_at_push g.objects (new_object shape)).1;
      roots = ap (λ z. set z j id) a.roots;
      object = λ k r. object-append f.objects (new_object shape) k
          ∙ by_new k (k == length f.objects + 1) refl (after_new f j shape w.0 k (subst (λ z. Reaches (changed f (changes.New j z shape)) k) w.1 r))
          ∙ ap (λ z. if k == z then new_object shape else object_of g.objects k) count ∙ sym (object-append g.objects (new_object shape) k);
    }
  where
    by_new : (k : ℕ) (t : Bool) → (k == length f.objects + 1) ≡ t → (IsKnown f k) ⊎ (k ≡ length f.objects + 1) → (if t then new_object shape else object_of f.objects k) ≡ (if t then new_object shape else object_of g.objects k)
    by_new k true e q = refl
    by_new k false e q = elim q [ inl n ↦ object_known f g a k n | inr s ↦ absurd (let ne : k ≢ length f.objects + 1 = grind arith in ne s) ]
alike_changed f g (changes.Join m) a w = record {
  limits = a.limits;
  live = ap (λ z. set z m true) a.live;
  count = a.count;
  roots = a.roots;
  object = λ id r. object_known f g a id (after_live f (set f.live m true) id r);
}
alike_changed f g (changes.Leave m) a w = record {
  limits = a.limits;
  live = ap (λ z. set z m false) a.live;
  count = a.count;
  roots = ap (λ z. nulled z (first_slot f.limits m) f.limits.slots) a.roots ∙ ap (λ l. nulled g.roots (first_slot l m) l.slots) a.limits;
  object = λ id r. object_known f g a id (after_leave f m w id r);
}

-- For every graph heap: if the heap goes on to agree with one, it agrees with each other.
pub each_changed : (h after : HeapState) (f g : Graph) (c : Change) → Agrees h f → Agrees h g → IsFounded f c → Agrees after (changed f c) → Agrees after (changed g c)
each_changed h after f g c p q w r = agrees_alike after (changed f c) (changed g c) r (alike_changed f g c (told h f g p q) w)
