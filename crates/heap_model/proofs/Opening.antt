-- The opening heap represents the opening graph heap.
use Rattle.std.proofs.Common.{◌≡◌, ℕ, ◌-◌, ◌/◌, ◌%◌, ◌<◌, Bool, true, false, [], length, get_or, replicate, refl, ap, subst, sym, ◌∙◌, arith, inl, inr, ◌==◌, if◌then◌else◌}
use Rattle.std.specs.Prelude.{Option, None}
use Rattle.std.proofs.lemmas.List.{length-replicate, get_or-replicate, get_or_past}
use Rattle.graph_heap.specs.declared.command.Limits.{Limits}
use Rattle.graph_heap.specs.declared.command.Shape.TheVariants.{Plain}
use Rattle.graph_heap.specs.Graph.{Object, no_object, object_of, opening, root_cells}
use Rattle.heap_model.specs.Pages.{Page, page_at}
use Rattle.heap_model.specs.Store.{is_allocated, allocated_in}
use Rattle.heap_model.specs.Core.{Name, null, PartGraph, Heap, Kept, Grows, Base}
use Rattle.heap_model.specs.Cut.{width_in, width_of, words_of, name_of, view}
use Rattle.heap_model.specs.Collector.{In_idle}
use Rattle.heap_model.specs.State.{HeapState, seen, collector_of, progress_of}
use Rattle.heap_model.specs.Agreement.{HasItsCells, Consistent}
use Rattle.heap_model.specs.Opening.{IsOpening}
use Rattle.heap_model.proofs.Core.Kept.{kept_null, kept_cases, kept_reach, reach_induction, fresh_none}
use Rattle.heap_model.proofs.Collector.Barrier.{staged}
use Rattle.heap_model.proofs.Cut.Changes.{no_refs}

pub page_none : (n k : ℕ) → page_at (replicate n None) k ≡ None
page_none n k = let l = length-replicate {A = Option Page} n None in grind (arith, get_or-replicate, get_or_past)

none_allocated : (h : HeapState) → IsOpening h → (b : ℕ) → is_allocated h.store b ≡ false
unfolding is_allocated
none_allocated h o b = ap (λ p. allocated_in p (b % 2048)) (ap (λ z. page_at z (b / 2048)) o.pages ∙ page_none (length h.store.pages) (b / 2048))

allocated_null : (h : HeapState) → IsOpening h → (x : ℕ) → (seen h).allocated x ≡ true → x ≡ 0
allocated_null h o x l = by_null (x == 0) refl l
  where
    by_null : (t : Bool) → (x == 0) ≡ t → (if t then true else is_allocated h.store (x - 1)) ≡ true → x ≡ 0
    by_null true q l = grind arith
    by_null false q l = absurd (let e = none_allocated h o (x - 1) in let f : false ≡ true = sym e ∙ l in cc)

none_there : (k : ℕ) → object_of [] k ≡ no_object
unfolding object_of
none_there k = grind arith

none_wide : (p : ℕ) → width_of no_object p ≡ 0
unfolding width_in
none_wide p = grind arith

no_words : words_of no_object 0 ≡ []
unfolding words_of
no_words = grind arith

opening_wide : (l : Limits) (n : Name) → (view (opening l)).width n ≡ 0
opening_wide l n = ap (λ o. width_of o n.part) (none_there n.identity) ∙ none_wide n.part

opening_kept : (l : Limits) (roots : ℕ) (n : Name) → Kept roots (view (opening l)) (view (opening l)) n → n ≡ null
opening_kept l roots n k = elim (kept_cases roots (view (opening l)) (view (opening l)) n k) [
  | inl r ↦ reach_induction roots (view (opening l)) (λ m. m ≡ null) refl (λ j b. ap name_of (no_refs (root_cells l) j)) (λ m i e b. absurd (let w = opening_wide l m in omega arith)) n r
  | inr f ↦ absurd (fresh_none (view (opening l)) n f)
]

opening_root : (h : HeapState) → IsOpening h → (j : ℕ) → (seen h).root j ≡ 0
opening_root h o j = ap (λ z. get_or z j 0) o.roots ∙ no_refs (root_cells h.limits) j

-- if null alone is allocated, and nothing else is kept, each block lies where null lies
null_alone : (h : Heap) (g : PartGraph) → Grows h.roots g g → h.next ≡ g.next → 0 < h.next → h.allocated 0 ≡ true → h.forward 0 ≡ 0 → h.name 0 ≡ null → h.width 0 ≡ 0 → h.words 0 ≡ [] → h.shape 0 ≡ Plain 0 0
    → g.words null ≡ [] → ((n : Name) → g.shape n ≡ Plain 0 0) → ((n : Name) → g.width n ≡ 0) → ((n : Name) → Kept h.roots g g n → n ≡ null) → ((x : ℕ) → h.allocated x ≡ true → x ≡ 0) → ((j : ℕ) → h.root j ≡ 0)
    → Base h g g (λ n. 0)
null_alone h g grows next some allocated forward name width words shape no_words plain narrow none only root = grind arith

pub opening_represents : (h : HeapState) → IsOpening h → Consistent h (opening h.limits) (opening h.limits)
opening_represents h o =
    let g = view (opening h.limits) in
    let roots = length h.roots in
    let none = opening_kept h.limits roots in
    let k0 = kept_null roots g g in
    let row : length h.roots ≡ root_cells h.limits = ap length o.roots ∙ length-replicate {A = ℕ} (root_cells h.limits) 0 in
    let row' : length h.roots ≡ length (opening h.limits).roots = row ∙ sym (length-replicate {A = ℕ} (root_cells h.limits) 0) in
    let allocated = allocated_null h o in
    let root = opening_root h o in
    let grows : Grows roots g g = record {
      next = omega arith;
      width = λ n l. refl;
      count = λ k l. refl;
      reached = λ n r. let e = none n (kept_reach roots g g n r) in subst (λ (z : Name). z.identity < g.next) (sym e) (omega arith);
      kept_root = λ j l. subst (λ z. Kept roots g g z) (sym (ap name_of (no_refs (root_cells h.limits) j))) k0;
      kept_target = λ n i k l. absurd (let w = opening_wide h.limits n in omega arith);
    } in
    let words = ap (λ z. words_of z 0) (none_there 0) ∙ no_words in
    let shape = λ (n : Name). ap (λ (z : Object). z.shape) (none_there n.identity) in
    let base = null_alone (seen h) g grows o.next (let p : h.next ≡ 1 = o.next in omega arith) refl refl refl refl refl refl words shape (opening_wide h.limits) none allocated root in
    record {
      limits = refl;
      live = o.live;
      row = row;
      present_row = row';
      snapshot_row = row';
      cells = λ id. subst HasItsCells (sym (none_there id)) (record { refs = refl; words = refl });
      whole = λ b l. absurd (let e = none_allocated h o b in let f : false ≡ true = sym e ∙ l in cc);
      parts = staged (collector_of h) (λ n. 0) g g In_idle (ap (progress_of h.store.pages) o.phase) base (record {
        marked = λ x l. ap (seen h).marked (allocated x l);
        kept = λ x l. subst (λ z. Kept roots g g ((seen h).name z)) (sym (allocated x l)) k0;
        forward = λ x l. ap (seen h).forward (allocated x l);
      });
    }
