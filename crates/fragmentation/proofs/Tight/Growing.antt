-- New objects: what they leave of how few pages there are.
use Rattle.std.proofs.Common.{◌≡◌, ℕ, ◌+◌, ◌-◌, ◌*◌, ◌/◌, ◌<◌, ◌≤◌, ◌⊎◌, inl, inr, Bool, true, false, ◌&&◌, ◌==◌, if◌then◌else◌, List, Option, Some, None, length, ap, ◌∙◌, sym, subst, arith, refl}
use Rattle.std.proofs.lemmas.Bool.{eq-eqb, eqb-true}
use Rattle.std.proofs.lemmas.List.Sums.{count_by-le-length}
use Rattle.std.proofs.lemmas.Bool.Decides.{eqb_tells}
use Rattle.std.proofs.lemmas.Nat.{le-div}
use Rattle.std.proofs.Math.Bool.{and-false}
use Rattle.graph_heap.specs.declared.command.Shape.{Shape}
use Rattle.graph_heap.specs.declared.command.Change.{Change}
use Rattle.graph_heap.specs.Graph.{Graph, first_slot}
use Rattle.size_classes.specs.declared.class.TheConstants.{CLASSES}
use Rattle.size_classes.specs.Sizes.{blocks_in, class_for}
use Rattle.size_classes.specs.Parts.{cells_of, parts_in, part_words}
use Rattle.size_classes.specs.Need.{blocks_needed, needed}
use Rattle.size_classes.proofs.Table.{blocks_some}
use Rattle.heap_model.specs.declared.phase.Phase.{Phase}
use Rattle.heap_model.specs.Pages.{Page, ArePages, with_allocated, fresh_page, TakesBlock, page_at, free_blocks, whole_pages}
use Rattle.heap_model.specs.Store.{Store}
use Rattle.heap_model.specs.State.{HeapState, is_evacuating}
use Rattle.heap_model.specs.Placed.{KeepsPages, IsPlaced}
use Rattle.heap_model.specs.Taking.{Takes, Nothing_taken, Part_taken}
use Rattle.heap_model.specs.Making.{MakesObject}
use Rattle.heap_model.specs.Change.{DoesChange, Does_nothing, Does_root, Does_ref, Does_word, Does_new, Does_join, Does_leave, Clears, Clears_none, Clears_next}
use Rattle.heap_model.proofs.Placed.{page_for_within, takes_keeps}
use Rattle.heap_model.proofs.Rooms.{no_blocks, more_needed}
use Rattle.heap_model.proofs.Action.Moving.{same_number, usable_fits}
use Rattle.heap_model.proofs.Left.{change_left}
use Rattle.heap_model.proofs.Marks.{taken_placed}
use Rattle.heap_model.proofs.Taking.{class_low, takes_pages, takes_keep}
use Rattle.space.specs.Demand.{asked_by}
use Rattle.space.specs.Counts.{is_of, main_blocks, evacuating_pages, used_pages, IsBounded}
use Rattle.space.proofs.Counts.{one_if, own, both_true, takes_bounded}
use Rattle.space.proofs.Placement.Tidying.{Shrinks, shrinks_none, shrinks_then, shrinks_writes}
use Rattle.space.proofs.Placement.Changing.{made_blocks, shrinks_records}
use Rattle.fragmentation.specs.Tight.{staying_pages}
use Rattle.fragmentation.proofs.Tight.IsFew.{IsFew}
use Rattle.fragmentation.specs.Suffice.{gathered_pages}
use Rattle.fragmentation.proofs.Tight.IsLeftover.{evacuates, IsStranded, one_evacuating, kept_pages, IsLeftover}
use Rattle.fragmentation.proofs.Tight.Taken.{FromFree, took}
use Rattle.fragmentation.proofs.Suffice.Paging.{gathered_more, gathered_least, gathered_enough}
use Rattle.fragmentation.proofs.Tight.FewTaken.{block_few}
use Rattle.fragmentation.proofs.Tight.Leftover.{staying_set, Goes, goes_same, goes_then, leftover_goes}
use Rattle.fragmentation.proofs.Gathering.Steps.{takes_tight, clears_pages}

-- blocks that are taken are allocated, and no page becomes evacuating: space counts them within any bound, so within one that is great enough
takes_counts : (cells : ℕ) (at : ℕ → ℕ) (old : List (Option Page)) (parts : ℕ) (new : List (Option Page)) → ArePages old → Takes cells at old parts new → (evacuating_pages new ≡ evacuating_pages old) × ((k : ℕ) → main_blocks new k ≡ main_blocks old k + blocks_needed cells parts k)
takes_counts cells at old parts new a takes = let t = takes_bounded cells at old parts new blocks (length old) a bounded (λ k l. omega arith) takes in (t.evacuating, t.main)
  where
    blocks : ℕ → ℕ
    blocks k = main_blocks old k + blocks_needed cells parts k + 1

    bounded : IsBounded old blocks (length old)
    bounded = record { used = λ k l. by_none k (blocks k == 0) refl; evacuating = count_by-le-length is_evacuating old }
      where
        by_none : (k : ℕ) (b : Bool) → (blocks k == 0) ≡ b → used_pages old k ≤ (if b then 0 else whole_pages k (blocks k) + length old)
        by_none k true e = absurd (let z = eqb-true (blocks k) 0 e in omega (arith, z))
        by_none k false e = let l = count_by-le-length (is_of k) old in omega (arith, l)

-- a block that is taken opens a page only if none of the class's blocks was free
block_stays : (old new : List (Option Page)) (class page index k : ℕ) → TakesBlock old class page index new → (staying_pages new k ≡ staying_pages old k) ⊎ ((class ≡ k) × (staying_pages new k ≡ staying_pages old k + 1) × (free_blocks old k ≡ 0))
block_stays old new class page index k t = elim (took old new class page index t) [
  | inl u ↦ inl (let s = staying_set old new page (Some u.source) (Some (with_allocated u.source index true)) within u.at u.is k in omega (arith, s))
  | inr f ↦ from_free f
]
  where
    within : page < length old
    within = page_for_within old class page t.page_is

    from_free : FromFree old class page index new → (staying_pages new k ≡ staying_pages old k) ⊎ ((class ≡ k) × (staying_pages new k ≡ staying_pages old k + 1) × (free_blocks old k ≡ 0))
    from_free f = by_class (class == k) refl
      where
        set_stay : staying_pages new k ≡ staying_pages old k + one_if ((class == k) && true)
        set_stay = let s = staying_set old new page None (Some (with_allocated (fresh_page class) index true)) within f.at f.is k in omega (arith, s)

        by_class : (b : Bool) → (class == k) ≡ b → (staying_pages new k ≡ staying_pages old k) ⊎ ((class ≡ k) × (staying_pages new k ≡ staying_pages old k + 1) × (free_blocks old k ≡ 0))
        by_class true e = let same = same_number class k e in inr (same, set_stay ∙ ap (λ b. staying_pages old k + one_if (b && true)) e, subst (λ z. free_blocks old z ≡ 0) same (no_blocks old class f.none))
        by_class false e = inl (let o : one_if ((class == k) && true) ≡ 0 = ap (λ b. one_if (b && true)) e in omega (arith, set_stay, o))

-- The blocks of an object are taken. No class has fewer pages that stay than before. It has as many as before, or no more
-- than `need` blocks take.
record Grew (old new : List (Option Page)) (need : ℕ → ℕ) : Type 0 where
  more : (k : ℕ) → staying_pages old k ≤ staying_pages new k
  staying : (k : ℕ) → k < CLASSES → (staying_pages new k ≡ staying_pages old k) ⊎ (staying_pages new k ≤ whole_pages k (need k))

grew_then : (cells : ℕ) (at : ℕ → ℕ) (old : List (Option Page)) (part : ℕ) (s t : List (Option Page)) (class page index : ℕ) (need : ℕ → ℕ) → ArePages old → ((k : ℕ) → k < CLASSES → main_blocks old k + blocks_needed cells (part + 1) k ≤ need k) → class_for (part_words cells part) ≡ Some class
    → Takes cells at old part s → TakesBlock s class page index t → Grew old s need → Grew old t need
grew_then cells at old part s t class page index need a fits f takes b r = record {
  more = λ k. (let m = r.more k in elim (g k) [ inl e ↦ omega (arith, m, e) | inr e ↦ (let z = e.1 in omega (arith, m, z)) ]);
  staying = λ k l. stay k l (g k) (r.staying k l);
}
  where
    g : (k : ℕ) → (staying_pages t k ≡ staying_pages s k) ⊎ ((class ≡ k) × (staying_pages t k ≡ staying_pages s k + 1) × (free_blocks s k ≡ 0))
    g k = block_stays s t class page index k b

    stay : (k : ℕ) → k < CLASSES → (staying_pages t k ≡ staying_pages s k) ⊎ ((class ≡ k) × (staying_pages t k ≡ staying_pages s k + 1) × (free_blocks s k ≡ 0)) → (staying_pages s k ≡ staying_pages old k) ⊎ (staying_pages s k ≤ whole_pages k (need k))
        → (staying_pages t k ≡ staying_pages old k) ⊎ (staying_pages t k ≤ whole_pages k (need k))
    stay k l (inl e) (inl d) = inl (e ∙ d)
    stay k l (inl e) (inr d) = inr (omega (arith, e, d))
    stay k l (inr e) d =
        let some = blocks_some k l in
        let o = own k s (takes_pages cells at old part s a takes) in
        let m = (takes_counts cells at old part s a takes).1 k in
        let n = more_needed cells part class k f in
        let one : one_if (class == k) ≡ 1 = ap one_if (eq-eqb class k e.0) in
        let x = fits k l in
        let p = e.1 in
        let z = e.2 in
        let d : blocks_in k * (staying_pages s k + 1) ≡ blocks_in k * staying_pages s k + blocks_in k = omega arith in
        let c : (staying_pages s k + 1) * blocks_in k ≡ blocks_in k * (staying_pages s k + 1) = omega arith in
        let q = le-div (staying_pages s k + 1) (need k + (blocks_in k - 1)) (blocks_in k) some (omega (arith, o, m, n, one, x, z, d, c, some)) in
        inr (omega (arith, p, q))

takes_grew : (cells : ℕ) (at : ℕ → ℕ) (old : List (Option Page)) (parts : ℕ) (new : List (Option Page)) (need : ℕ → ℕ) → ArePages old → ((k : ℕ) → k < CLASSES → main_blocks old k + blocks_needed cells parts k ≤ need k) → Takes cells at old parts new → Grew old new need
takes_grew cells at old parts new need a fits Nothing_taken = record { more = λ k. omega arith; staying = λ k l. inl refl }
takes_grew cells at old parts new need a fits (Part_taken part class index s t takes f b) =
    grew_then cells at old part s t class (at part / 2048) index need a fits f takes b (takes_grew cells at old part s need a (λ k l. (let n = more_needed cells part class k f in let x = fits k l in omega (arith, n, x))) takes)

-- an evacuating page stays as it is, and no other becomes evacuating
pub leaves_kept : (old new : List (Option Page)) (class k : ℕ) → KeepsPages old new → evacuates class (page_at new k) ≡ evacuates class (page_at old k)
leaves_kept old new class k w = by_page (page_at old k) refl (page_at new k) refl
  where
    by_page : (o : Option Page) → page_at old k ≡ o → (n : Option Page) → page_at new k ≡ n → evacuates class (page_at new k) ≡ evacuates class (page_at old k)
    by_page (Some p) e n f = let r = w.used k p e in ap (evacuates class) r.1 ∙ (let a = r.2.class in let b = r.2.evacuating in cc) ∙ sym (ap (evacuates class) e)
    by_page None e None f = ap (evacuates class) f ∙ sym (ap (evacuates class) e)
    by_page None e (Some q) f = let r = w.free k q e f in let z : ((q.class == class) && q.evacuating) ≡ false = ap (λ b. (q.class == class) && b) r.0 ∙ and-false (q.class == class) in ap (evacuates class) f ∙ z ∙ sym (ap (evacuates class) e)

-- a need that is greater, with the same store
pub leftover_more : (s : Store) (p : Phase) (need more : ℕ → ℕ) → ((k : ℕ) → k < CLASSES → need k ≤ more k) → IsLeftover s p need → IsLeftover s p more
leftover_more s p need more l w = leftover_goes s s need more (goes_same s s need more (shrinks_none s) refl l) p w

-- a new object
module _ (s new : Store) (shape : Shape) (colour : Bool) (id : ℕ) (at : ℕ → ℕ) (need more : ℕ → ℕ) (a : ArePages s.pages) (makes : MakesObject s shape colour id at new) (takes : Takes (cells_of shape) at s.pages (parts_in (cells_of shape)) new.pages)
    (l : (k : ℕ) → k < CLASSES → need k ≤ more k) (fits : (k : ℕ) → k < CLASSES → main_blocks s.pages k + needed shape k ≤ more k) where
  keeps : KeepsPages s.pages new.pages
  keeps = takes_keep (cells_of shape) at s.pages (parts_in (cells_of shape)) new.pages takes

  grew : Grew s.pages new.pages more
  grew = takes_grew (cells_of shape) at s.pages (parts_in (cells_of shape)) new.pages more a fits takes

  -- a part of the new object stands on a page that stays
  made_stays : (class p : ℕ) → p < parts_in (cells_of shape) → evacuates class (page_at new.pages (at p / 2048)) ≡ true → ⊥
  made_stays class p low on = takes_stay (cells_of shape) s.pages (parts_in (cells_of shape)) new.pages takes p low on
    where
      block_stay : (old t : List (Option Page)) (taken page index : ℕ) → TakesBlock old taken page index t → evacuates class (page_at t page) ≡ true → ⊥
      block_stay old t taken page index b on =
          let same = leaves_kept old t class page (takes_keeps old t taken page index b) in
          let x : evacuates class (page_at old page) ≡ true = sym same ∙ on in
          elim (took old t taken page index b) [
            | inl u ↦ (let y = (both_true (u.source.class == class) u.source.evacuating (sym (ap (evacuates class) u.at) ∙ x)).1 in let z : false ≡ true = sym (usable_fits taken u.source u.usable).1 ∙ y in cc)
            | inr f ↦ (let z : false ≡ true = sym (ap (evacuates class) f.at) ∙ x in cc)
          ]

      takes_stay : (cells : ℕ) (old : List (Option Page)) (parts : ℕ) (t : List (Option Page)) → Takes cells at old parts t → (p : ℕ) → p < parts → evacuates class (page_at t (at p / 2048)) ≡ true → ⊥
      takes_stay cells old parts t Nothing_taken p low on = absurd (omega (arith, low))
      takes_stay cells old parts t (Part_taken part taken index u v takes f b) p low on = elim (eqb_tells p part) [
        | inl e ↦ block_stay u v taken (at part / 2048) index b (ap (λ z. evacuates class (page_at v (at z / 2048))) (sym e.1) ∙ on)
        | inr d ↦ takes_stay cells old part u takes p (let n = d.1 in omega (arith, n, low)) (sym (leaves_kept u v class (at p / 2048) (takes_keeps u v taken (at part / 2048) index b)) ∙ on)
      ]

  stranded_before : (class b : ℕ) → IsStranded new class b → IsStranded s class b
  stranded_before class b x = elim (made_blocks s shape colour id at (parts_in (cells_of shape)) new makes b x.allocated) [
    | inl q ↦ record { allocated = q.0; main = sym q.1.forward ∙ x.main; on = sym (leaves_kept s.pages new.pages class (b / 2048) keeps) ∙ x.on }
    | inr q ↦ absurd (made_stays class q.0 q.1 (ap (λ z. evacuates class (page_at new.pages (z / 2048))) (sym q.2) ∙ x.on))
  ]

  kept_new : (k page : ℕ) → k < CLASSES → kept_pages s.pages k page ≤ gathered_pages k (need k) → (evacuates k (page_at s.pages page) ≡ true → blocks_in k ≤ need k) → kept_pages new.pages k page ≤ gathered_pages k (more k)
  kept_new k page small f some = elim (grew.staying k small) [
    | inl e ↦ (let g = gathered_more k (need k) (more k) small (l k small) in omega (arith, e, one, f, g))
    | inr e ↦ by_leaves e (evacuates k (page_at s.pages page)) refl
  ]
    where
      same : evacuates k (page_at new.pages page) ≡ evacuates k (page_at s.pages page)
      same = leaves_kept s.pages new.pages k page keeps

      one : one_evacuating k (page_at new.pages page) ≡ one_evacuating k (page_at s.pages page)
      one = ap (λ b. if b then 1 else 0) same

      by_leaves : staying_pages new.pages k ≤ whole_pages k (more k) → (b : Bool) → evacuates k (page_at s.pages page) ≡ b → kept_pages new.pages k page ≤ gathered_pages k (more k)
      by_leaves e true on =
          let x = some on in let m = l k small in
          let g = gathered_enough k (more k) (omega (arith, x, m)) in
          let o : one_evacuating k (page_at s.pages page) ≡ 1 = ap (λ b. if b then 1 else 0) on in
          omega (arith, e, g, one, o)
      by_leaves e false on =
          let g = gathered_least k (more k) in
          let o : one_evacuating k (page_at s.pages page) ≡ 0 = ap (λ b. if b then 1 else 0) on in
          omega (arith, e, g, one, o)

  pub goes_new : Goes s new need more
  goes_new = record {
    strands = λ k. record { less = stranded_before k; on = λ page on. sym (leaves_kept s.pages new.pages k page keeps) ∙ on };
    stays = λ k page on. leaves_kept s.pages new.pages k page keeps ∙ on;
    kept = kept_new;
    tight = λ k w. takes_tight (cells_of shape) at s.pages (parts_in (cells_of shape)) new.pages k takes w;
    staying = grew.more;
    evacuating = (let e = (takes_counts (cells_of shape) at s.pages (parts_in (cells_of shape)) new.pages a takes).0 in omega (arith, e));
    less = l;
  }

-- what a command changes
clears_shrink : (h : HeapState) (first n : ℕ) (k : HeapState) → Clears h first n k → Shrinks h.store k.store
clears_shrink h first n k Clears_none = shrinks_none h.store
clears_shrink h first n k (Clears_next n0 j k0 c r) = shrinks_then h.store j.store k0.store (clears_shrink h first n0 j c) (shrinks_records j k0 _ r).0

pub change_goes : (h after : HeapState) (g : Graph) (c : Change) (need more : ℕ → ℕ) → ArePages h.store.pages → ((k : ℕ) → k < CLASSES → need k ≤ more k) → ((k : ℕ) → k < CLASSES → main_blocks h.store.pages k + asked_by c k ≤ more k) → DoesChange h g c after → Goes h.store after.store need more
change_goes h after g c need more a l fits Does_nothing = goes_same h.store h.store need more (shrinks_none h.store) refl l
change_goes h after g c need more a l fits (Does_root cell id y k r i) = let f = shrinks_records h k _ r in goes_same h.store k.store need more f.0 f.1 l
change_goes h after g c need more a l fits (Does_ref id i value address y k new at r main writes) =
    let f = shrinks_records h k _ r in
    goes_same h.store new need more (shrinks_then h.store k.store new f.0 (shrinks_writes k.store new address _ writes (record { identity = refl; part = refl; shape = refl; forward = refl }))) (writes.pages ∙ f.1) l
change_goes h after g c need more a l fits (Does_word id i word address new at writes) =
    goes_same h.store new need more (shrinks_writes h.store new address _ writes (record { identity = refl; part = refl; shape = refl; forward = refl })) writes.pages l
change_goes h after g c need more a l fits (Does_new cell id shape k new at r makes takes) =
    let f = shrinks_records h k _ r in
    goes_then h.store k.store new need need more (goes_same h.store k.store need need f.0 f.1 (λ n b. omega arith))
    (goes_new k.store new shape k.mark_parity k.next at need more (subst ArePages (sym f.1) a) makes takes l (λ n b. (let q = fits n b in let e : main_blocks k.store.pages n ≡ main_blocks h.store.pages n = ap (λ z. main_blocks z n) f.1 in omega (arith, q, e))))
change_goes h after g c need more a l fits (Does_join m) = goes_same h.store h.store need more (shrinks_none h.store) refl l
change_goes h after g c need more a l fits (Does_leave m k clears) = goes_same h.store k.store need more (clears_shrink h (first_slot g.limits m) g.limits.slots k clears) (clears_pages h (first_slot g.limits m) g.limits.slots k clears).0 l

pub leftover_change : (h after : HeapState) (g : Graph) (c : Change) (need more : ℕ → ℕ) → ArePages h.store.pages → ((k : ℕ) → k < CLASSES → need k ≤ more k) → ((k : ℕ) → k < CLASSES → main_blocks h.store.pages k + asked_by c k ≤ more k) → DoesChange h g c after
    → IsLeftover h.store h.phase need → IsLeftover after.store after.phase more
leftover_change h after g c need more a l fits does w = subst (λ p. IsLeftover after.store p more) (sym (change_left h after g c does).phase) (leftover_goes h.store after.store need more (change_goes h after g c need more a l fits does) h.phase w)

-- and how few pages there are
pub few_made : (pages : List (Option Page)) (p : Phase) (first made more : ℕ → ℕ) → ((k : ℕ) → made k ≡ more k) → IsFew pages p first made → IsFew pages p first more
few_made pages p first made more e w = record {
  few = λ k l. subst (λ z. used_pages pages k ≤ first k + whole_pages k z) (e k) (w.few k l);
  fair = λ k l. (let a = w.fair k l in let b = e k in omega (arith, a, b));
  still = w.still;
}

pub takes_few : (cells : ℕ) (at : ℕ → ℕ) (old : List (Option Page)) (parts : ℕ) (new : List (Option Page)) (p : Phase) (first made : ℕ → ℕ) → IsPlaced old p → Takes cells at old parts new → IsFew old p first made → IsFew new p first (λ k. made k + blocks_needed cells parts k)
takes_few cells at old parts new p first made placed Nothing_taken w = few_made old p first made _ (λ k. omega arith) w
takes_few cells at old parts new p first made placed (Part_taken part class index s t takes f b) w =
    let r = takes_few cells at old part s p first made placed takes w in
    let x = block_few s t class (at part / 2048) index p first _ (class_low (part_words cells part) class f) (taken_placed old s p placed (takes_keep cells at old part s takes)) b r in
    few_made t p first _ _ (λ k. (let n = more_needed cells part class k f in omega (arith, n))) x
