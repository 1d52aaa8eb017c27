-- However many pages a cycle may empty: through each action and each change.
use Rattle.std.proofs.Common.{◌≡◌, ℕ, ◌+◌, ◌-◌, ◌*◌, ◌<◌, ◌≤◌, inl, Bool, true, false, if◌then◌else◌, nat_lt, Option, Some, None, length, set, ap, ◌∙◌, sym, subst, arith, refl}
use Rattle.std.specs.Prelude.{slice_get}
use Rattle.std.proofs.lemmas.List.Quantifiers.{position-Some}
use Rattle.std.proofs.Math.Nat.{div-mul-le_self, lt_of_mul-lt-mul_left}
use Rattle.graph_heap.specs.Graph.{Graph}
use Rattle.size_classes.specs.declared.class.TheConstants.{CLASSES}
use Rattle.size_classes.specs.Sizes.{blocks_in}
use Rattle.size_classes.proofs.Table.{blocks_some}
use Rattle.heap_model.specs.declared.phase.Phase.{Phase}
use Rattle.heap_model.specs.declared.phase.Phase.TheVariants as phases
use Rattle.heap_model.specs.declared.phase.Moving.TheVariants as moves
use Rattle.heap_model.specs.declared.phase.Candidate.{Candidate}
use Rattle.heap_model.specs.Pages.{Page, ArePages, is_usable, with_allocated, page_at, free_blocks, whole_pages}
use Rattle.heap_model.specs.Store.{Store, address_of}
use Rattle.heap_model.specs.State.{HeapState}
use Rattle.heap_model.specs.Marks.{HasNoMark, AreClosed}
use Rattle.heap_model.specs.Represents.{Represents, is_sweeping}
use Rattle.heap_model.specs.Action.{KeepsBlocks, MovesBlock, IsNext, IsDone, Action, Scans_root, Ends_roots, Scans_header, Scans_cell, Ends_marking, Frees_block, Passes_block, Closes_page, Ends_sweep, Looks_at_page, Chooses_page, Chooses_none, Moves_block, Ends_moving, AtPass, In_pass, After_page, MovingDone, No_class, No_page, is_sparse, is_choosable}
use Rattle.heap_model.proofs.Marks.{no_mark}
use Rattle.space.proofs.Counts.{both_true}
use Rattle.space.proofs.Placement.Tidying.{Shrinks, shrinks_then, shrinks_writes, shrinks_shades, shrinks_frees}
use Rattle.fragmentation.specs.Tight.{IsTight, staying_pages}
use Rattle.fragmentation.specs.Gathering.{AreUsed, IsGathering}
use Rattle.fragmentation.specs.Suffice.{gathered_pages}
use Rattle.fragmentation.proofs.Tight.IsLeftover.{one_evacuating, IsSettled, IsEmptied, AreSettled}
use Rattle.fragmentation.proofs.Suffice.IsSparse.{IsPassed, ArePassed, Empties, IsSparse}
use Rattle.fragmentation.proofs.Tight.Emptied.{chosen_staying, chosen_two, chosen_emptied, moved_store, moved_emptied}
use Rattle.fragmentation.proofs.Tight.Free.{chosen_free}
use Rattle.fragmentation.proofs.Tight.Few.{moving_not}
use Rattle.fragmentation.proofs.Gathering.Passing.{in_pass}
use Rattle.fragmentation.proofs.Gathering.Steps.{tight_action}
use Rattle.fragmentation.proofs.Tight.Leftover.{Strands, settled_less, moved_less, by_phase, Goes, settled_goes, moved_goes, emptied_goes, goes_same, settled_freed, settled_closed, settled_used, none_leaves, done_left, emptied_all}
use Rattle.fragmentation.proofs.Tight.Evacuating.{none_left}

passed_less : (s t : Store) (class need : ℕ) → Strands s t class → staying_pages t.pages class ≤ staying_pages s.pages class → (IsTight s.pages class → IsTight t.pages class) → IsPassed s class need → IsPassed t class need
passed_less s t class need f l tight w = record { settled = settled_less s t class need f l w.settled; moved = moved_less s t class need need f tight (omega arith) w.moved }

module _ (s t : Store) (need more : ℕ → ℕ) (g : Goes s t need more) where
  passed_goes : (k : ℕ) → k < CLASSES → IsPassed s k (need k) → IsPassed t k (more k)
  passed_goes k l w = record { settled = settled_goes s t need more g k l w.settled; moved = moved_goes s t need more g k l w.moved }

  empties_goes : (page block chosen : ℕ) → Empties s page block need → Empties t page block more
  empties_goes page block chosen w = record {
    class = w.class;
    emptied = emptied_goes s t need more g w.class page block _ _ passed_goes w.emptied;
    few = g.kept w.class page w.emptied.small w.few (λ on. w.enough);
    enough = (let a = w.enough in let b = g.less w.class w.emptied.small in omega (arith, a, b));
  }

  pub sparse_goes : (p : Phase) → IsSparse s p need → IsSparse t p more
  sparse_goes p w = by_phase p (λ a k l. settled_goes s t need more g k l (a k l)) (λ n a k l. passed_goes k l (a k l)) empties_goes w

pub sparse_same : (s t : Store) (p : Phase) (need : ℕ → ℕ) → Shrinks s t → t.pages ≡ s.pages → IsSparse s p need → IsSparse t p need
sparse_same s t p need f e w = sparse_goes s t need need (goes_same s t need need f e (λ k l. omega arith)) p w

pub sparse_phase : (s : Store) (p q : Phase) (need : ℕ → ℕ) → p ≡ q → IsSparse s p need → IsSparse s q need
sparse_phase s p q need e w = subst (λ z. IsSparse s z need) e w

-- each class is settled, in each phase
empties_settled : (s : Store) (page block : ℕ) (need : ℕ → ℕ) → (w : Empties s page block need) → IsSettled s w.class (need w.class)
empties_settled s page block need w = record { page = page; left = record { only = w.emptied.only; some = λ on. w.enough }; few = w.few }

pub all_settled : (s : Store) (p : Phase) (need : ℕ → ℕ) → IsSparse s p need → AreSettled s need
all_settled s phases.Idle need w = w
all_settled s (phases.Roots next) need w = w
all_settled s (phases.Marking part cell) need w = w
all_settled s (phases.Sweeping page block) need w = w
all_settled s (phases.Moving (moves.Pass class page best chosen)) need w = λ k l. (w k l).settled
all_settled s (phases.Moving (moves.Emptying class page block chosen)) need w = emptied_all s w.class page block _ (λ k. IsSettled s k (need k)) (λ k o. o.settled) w.emptied (empties_settled s page block need w)

-- a page that is done
done_passed : (s : Store) (page block : ℕ) (p : Page) (need : ℕ → ℕ) → ArePages s.pages → page_at s.pages page ≡ Some p → IsDone s.pages p block → Empties s page block need → ArePassed s need
done_passed s page block p need a at done w = emptied_all s w.class page block _ (λ k. IsPassed s k (need k)) (λ k o. o) w.emptied (record {
  settled = empties_settled s page block need w;
  moved = done_left s w.class page block (need w.class) _ p a at done (λ none. w.enough) w.emptied;
})

pass_sparse : (h : HeapState) (class page : ℕ) (best : Option Candidate) (chosen : ℕ) (need : ℕ → ℕ) → ArePages h.store.pages → IsSparse h.store h.phase need → AtPass h class page best chosen → ArePassed h.store need
pass_sparse h class page best chosen need a w (In_pass class0 page0 best0 chosen0 e) = sparse_phase h.store h.phase (phases.Moving (moves.Pass class page best chosen)) need e w
pass_sparse h class page best chosen need a w (After_page class0 page0 block chosen0 p e at on done few) = done_passed h.store page0 block p need a at done (sparse_phase h.store h.phase (phases.Moving (moves.Emptying class page0 block chosen)) need e w)

-- with two pages of a class there are as many blocks of it as one has
two_pages : (class need n : ℕ) → class < CLASSES → 2 ≤ n → n ≤ gathered_pages class need → blocks_in class ≤ need
two_pages class need n small two l = by_test (nat_lt need (blocks_in class)) refl
  where
    few : nat_lt need (blocks_in class) ≡ true → whole_pages class need ≤ 1
    few t =
        let some = blocks_some class small in
        let b = less need (blocks_in class) t in
        let d = div-mul-le_self (need + (blocks_in class - 1)) (blocks_in class) in
        let h : blocks_in class * whole_pages class need < blocks_in class * 2 = omega (arith, d, b, some) in
        let r : whole_pages class need < 2 = lt_of_mul-lt-mul_left (blocks_in class) h in
        omega (arith, r)
      where
        less : (a b : ℕ) → nat_lt a b ≡ true → a < b
        less a b t = grind arith

    by_test : (b : Bool) → nat_lt need (blocks_in class) ≡ b → blocks_in class ≤ need
    by_test true t = absurd (let f = few t in let g : gathered_pages class need ≡ whole_pages class need = ap (λ b. if b then whole_pages class need else whole_pages class need + 1) t in omega (arith, f, g, two, l))
    by_test false t = not_less need (blocks_in class) t
      where
        not_less : (a b : ℕ) → nat_lt a b ≡ false → b ≤ a
        not_less a b t = grind arith

-- a page that is chosen
chosen_sparse : (s t : Store) (class page : ℕ) (p : Page) (need : ℕ → ℕ) → ArePages s.pages → AreUsed s.pages (length s.pages) → page_at s.pages page ≡ Some p → is_choosable class (Some p) ≡ true → blocks_in class ≤ free_blocks s.pages class → class < CLASSES
    → KeepsBlocks s t → t.pages ≡ set s.pages page (Some (record p { evacuating = true })) → ((k : ℕ) → IsTight s.pages k → IsTight t.pages k) → ArePassed s need → Empties t page 0 need
chosen_sparse s t class page p need a used at good free small keeps is tight w = record {
  class = class;
  emptied = emptied;
  few = (let x = chosen_staying s t class page p at good keeps is in let y : one_evacuating class (page_at t.pages page) ≡ 1 = ap (λ b. if b then 1 else 0) emptied.on in let m = few in omega (arith, x, y, m));
  enough = two_pages class (need class) (staying_pages s.pages class) small (chosen_two s t class page p at good keeps is a used free) few;
}
  where
    emptied : IsEmptied t class page 0 (λ k. IsPassed t k (need k))
    emptied = chosen_emptied s t class page p at good keeps is _ small (none_left s class (need class) free (w class small).moved) (λ k l f n. passed_less s t k (need k) f n (tight k) (w k l))

    few : staying_pages s.pages class ≤ gathered_pages class (need class)
    few = settled_used s class (need class) (w class small).settled

-- a block that is moved
moved_sparse : (s t : Store) (page block i to j : ℕ) (p q : Page) (need : ℕ → ℕ) → ArePages s.pages → page_at s.pages page ≡ Some p → p.evacuating ≡ true → IsNext p block i → is_usable p.class (Some q) ≡ true → page_at s.pages to ≡ Some q → slice_get q.allocated j ≡ Some false
    → MovesBlock s t (address_of p.class page i) (address_of p.class to j) → t.pages ≡ set s.pages to (Some (record (with_allocated q j true) { is_target = true })) → ((k : ℕ) → IsTight s.pages k → IsTight t.pages k)
    → Empties s page block need → Empties t page (i + 1) need
moved_sparse s t page block i to j p q need a at evacuating next usable there empty m is tight w = record {
  class = w.class;
  emptied = moved_emptied s t page block i to j p q a at evacuating next usable there empty m is w.class _ _ (passed_goes s t need need g) w.emptied;
  few = g.kept w.class page w.emptied.small w.few (λ on. w.enough);
  enough = w.enough;
}
  where
    g : Goes s t need need
    g = moved_store s t page block i to j p q a at evacuating next usable there empty m is need tight

-- Each action keeps the pages sparse.
pub sparse_action : (h after : HeapState) (cost : ℕ) (present snapshot : Graph) (need : ℕ → ℕ) → Represents h present snapshot → IsGathering h.store.pages (length h.store.pages) h.phase → Action h cost after → IsSparse h.store h.phase need → IsSparse after.store after.phase need
sparse_action h after cost g s need st ga (Scans_root next k e l sh) w = let f = shrinks_shades _ k _ sh in sparse_same h.store k.store (phases.Roots (next + 1)) need f.0 f.1 (sparse_phase h.store h.phase (phases.Roots next) need e w)
sparse_action h after cost g s need st ga (Ends_roots next e l) w = sparse_phase h.store h.phase (phases.Roots next) need e w
sparse_action h after cost g s need st ga (Scans_header part cell x front back e f n) w = sparse_phase h.store h.phase (phases.Marking part cell) need e w
sparse_action h after cost g s need st ga (Scans_cell part cell new k e l w0 sh) w =
    let f = shrinks_shades _ k _ sh in
    sparse_same h.store k.store (phases.Marking part (cell + 1)) need (shrinks_then h.store new k.store (shrinks_writes h.store new (part - 1) _ w0 (record { identity = refl; part = refl; shape = refl; forward = refl })) f.0) (f.1 ∙ w0.pages) (sparse_phase h.store h.phase (phases.Marking part cell) need e w)
sparse_action h after cost g s need st ga (Ends_marking part cell e f n) w = sparse_phase h.store h.phase (phases.Marking part cell) need e w
sparse_action h after cost g s need st ga (Frees_block page block p new e f was unmarked w0 pages) w =
    let q : (class : ℕ) → class < CLASSES → IsSettled h.store class (need class) = sparse_phase h.store h.phase (phases.Sweeping page block) need e w in
    λ class l. settled_freed h.store new page block class (need class) p (shrinks_frees h.store new _ w0) f pages (q class l)
sparse_action h after cost g s need st ga (Passes_block page block p e f l marked) w = sparse_phase h.store h.phase (phases.Sweeping page block) need e w
sparse_action h after cost g s need st ga (Closes_page page block new e l f w0 pages) w =
    let q : (class : ℕ) → class < CLASSES → IsSettled h.store class (need class) = sparse_phase h.store h.phase (phases.Sweeping page block) need e w in
    λ class small. settled_closed h g s page block class (need class) new small st e l f w0 pages (q class small)
sparse_action h after cost g s need st ga (Ends_sweep page block e l) w = by_sparse (is_sparse h)
  where
    q : (class : ℕ) → class < CLASSES → IsSettled h.store class (need class)
    q = sparse_phase h.store h.phase (phases.Sweeping page block) need e w

    none : (k : ℕ) → HasNoMark (page_at h.store.pages k)
    none = no_mark h.store.pages page (subst (AreClosed h.store.pages) e st.closed) l

    by_sparse : (b : Bool) → IsSparse h.store (if b then phases.Moving (moves.Pass 0 0 None 0) else phases.Idle) need
    by_sparse true = λ class small. record { settled = q class small; moved = inl (none_leaves h.store class none) }
    by_sparse false = q
sparse_action h after cost g s need st ga (Looks_at_page class page best chosen at few more) w = pass_sparse h class page best chosen need st.pages w at
sparse_action h after cost g s need st ga (Chooses_page class page best chosen k p new at few last is good there w0 pages) w =
    let i = in_pass h class page best chosen ga at in
    let ok : is_choosable class (Some p) ≡ true = sym (ap (is_choosable class) there) ∙ (both_true _ _ good).0 in
    chosen_sparse h.store new class k.page p need st.pages i.used there ok (chosen_free h.store.pages class k st.pages good) few w0 pages
    (λ c t. tight_action h _ 1 c st.pages (moving_not h class page best chosen at) (Chooses_page class page best chosen k p new at few last is good there w0 pages) t) (pass_sparse h class page best chosen need st.pages w at)
sparse_action h after cost g s need st ga (Chooses_none class page best chosen at few last is) w = pass_sparse h class page best chosen need st.pages w at
sparse_action h after cost g s need st ga (Moves_block class page block chosen i to j p q new e at evacuating next place there empty w0 pages) w =
    let usable : is_usable p.class (Some q) ≡ true = ap (is_usable p.class) (sym there) ∙ (position-Some (is_usable p.class) h.store.pages to None place).1 in
    moved_sparse h.store new page block i to j p q need st.pages at evacuating next usable there empty w0 pages
    (λ c t. tight_action h _ _ c st.pages (ap is_sweeping e) (Moves_block class page block chosen i to j p q new e at evacuating next place there empty w0 pages) t)
    (sparse_phase h.store h.phase (phases.Moving (moves.Emptying class page block chosen)) need e w)
sparse_action h after cost g s need st ga (Ends_moving done) w = ended done
  where
    ended : MovingDone h → (class : ℕ) → class < CLASSES → IsSettled h.store class (need class)
    ended (No_class page best chosen e) class small =
        let q : ArePassed h.store need = sparse_phase h.store h.phase (phases.Moving (moves.Pass CLASSES page best chosen)) need e w in (q class small).settled
    ended (No_page k page block chosen p e at done most) class small =
        let q : Empties h.store page block need = sparse_phase h.store h.phase (phases.Moving (moves.Emptying k page block chosen)) need e w in
        (done_passed h.store page block p need st.pages at done q class small).settled
