-- At most one page of each class is left with main copies: through each action.
use Rattle.std.proofs.Common.{◌≡◌, ℕ, suc, ◌+◌, ◌*◌, ◌/◌, ◌<◌, ◌≤◌, ◌⊎◌, inl, inr, Bool, true, false, not, ◌&&◌, ◌==◌, if◌then◌else◌, List, [], ◌∷◌, Option, Some, None, length, set, ap, ◌∙◌, sym, subst, arith, refl}
use Rattle.std.specs.Prelude.{count_by, slice_get}
use Rattle.std.proofs.lemmas.Bool.{eq-eqb}
use Rattle.std.proofs.lemmas.List.Sums.{sum_by-cons}
use Rattle.std.proofs.lemmas.Option.{slice_get_within, slice_get-get_or, get_or_from_slice_get, same_Some}
use Rattle.std.proofs.Math.Bool.{and-false}
use Rattle.std.proofs.Math.Nat.{mul-le-mul_right, mul-le-mul_left}
use Rattle.graph_heap.specs.Graph.{Graph}
use Rattle.size_classes.specs.declared.class.TheConstants.{CLASSES}
use Rattle.size_classes.specs.Sizes.{size_of, blocks_in}
use Rattle.size_classes.proofs.Table.{blocks_some}
use Rattle.heap_model.specs.declared.phase.Phase.{Phase}
use Rattle.heap_model.specs.declared.phase.Phase.TheVariants as phases
use Rattle.heap_model.specs.declared.phase.Moving.TheVariants as moves
use Rattle.heap_model.specs.declared.phase.Candidate.{Candidate}
use Rattle.heap_model.specs.Pages.{Page, ArePages, with_allocated, page_at, free_blocks}
use Rattle.heap_model.specs.Store.{Store, is_allocated, address_of}
use Rattle.heap_model.specs.State.{HeapState, is_evacuating}
use Rattle.heap_model.specs.Marks.{HasNoMark}
use Rattle.heap_model.specs.Represents.{Represents}
use Rattle.heap_model.specs.Action.{KeepsBlocks, IsDone, AtPass, In_pass, After_page, allocated_on, closed, is_looked_at}
use Rattle.heap_model.proofs.Store.Allocated.{set_page, page_within, allocated_block, allocated_at, size_some}
use Rattle.heap_model.proofs.Rooms.{no_blocks, set_sum}
use Rattle.heap_model.proofs.Action.Moving.{same_number}
use Rattle.space.specs.Counts.{stays, main_blocks, evacuating_pages}
use Rattle.space.proofs.Counts.{one_if, own, both_true}
use Rattle.space.proofs.Placement.Tidying.{Shrinks, shrinks_keeps, closes_main, place_page}
use Rattle.fragmentation.specs.Tight.{IsTight, staying_pages}
use Rattle.fragmentation.specs.Suffice.{gathered_pages}
use Rattle.fragmentation.proofs.Suffice.Paging.{gathered_more}
use Rattle.fragmentation.proofs.Tight.IsLeftover.{evacuates, IsStranded, NoneStranded, one_evacuating, kept_pages, LeftOn, IsSettled, IsMoved, IsEmptied, IsEmptying, ByPhase, AtLook, IsLeftover}

-- One page replaces another in the list.
module _ (old new : List (Option Page)) (page : ℕ) (o v : Option Page) (l : page < length old) (at : page_at old page ≡ o) (is : new ≡ set old page v) where
  pub staying_set : (k : ℕ) → staying_pages new k + one_if (stays k o) ≡ staying_pages old k + one_if (stays k v)
  staying_set k = ap (λ z. staying_pages z k + one_if (stays k o)) is ∙ set_sum (λ z. one_if (stays k z)) old page o v None l at

  pub page_set : (k : ℕ) → page_at new k ≡ (if k == page then v else page_at old k)
  page_set k = ap (λ z. page_at z k) is ∙ set_page old page k v l

-- from one store to another no main copy becomes stranded, and no page of the class becomes evacuating
pub record Strands (s t : Store) (class : ℕ) : Type 0 where
  pub less : (b : ℕ) → IsStranded t class b → IsStranded s class b
  pub on : (k : ℕ) → evacuates class (page_at t.pages k) ≡ true → evacuates class (page_at s.pages k) ≡ true

pub strands_shrink : (s t : Store) (class : ℕ) → Shrinks s t → ((k : ℕ) → evacuates class (page_at t.pages k) ≡ true → evacuates class (page_at s.pages k) ≡ true) → Strands s t class
strands_shrink s t class f l = record { less = λ b w. record { allocated = f.allocated b w.allocated; main = sym (f.head b w.allocated).forward ∙ w.main; on = l (b / 2048) w.on }; on = l }

one_fewer : (s t : Store) (class page : ℕ) → Strands s t class → one_evacuating class (page_at t.pages page) ≤ one_evacuating class (page_at s.pages page)
one_fewer s t class page f = by_leaves (evacuates class (page_at t.pages page)) refl
  where
    by_leaves : (b : Bool) → evacuates class (page_at t.pages page) ≡ b → (if b then 1 else 0) ≤ one_evacuating class (page_at s.pages page)
    by_leaves true x = let y : one_evacuating class (page_at s.pages page) ≡ 1 = ap (λ b. if b then 1 else 0) (f.on page x) in omega (arith, y)
    by_leaves false x = omega arith

strands_left : (s t : Store) (class m n page : ℕ) → Strands s t class → m ≤ n → LeftOn s class m page → LeftOn t class n page
strands_left s t class m n page f l w = record { only = λ b x. w.only b (f.less b x); some = λ on. (let x = w.some (f.on page on) in omega (arith, x, l)) }

-- with no more pages that stay, a class that is settled stays so; and so does one that moving is past
pub settled_less : (s t : Store) (class need : ℕ) → Strands s t class → staying_pages t.pages class ≤ staying_pages s.pages class → IsSettled s class need → IsSettled t class need
settled_less s t class need f l w = record {
  page = w.page;
  left = strands_left s t class need need w.page f (omega arith) w.left;
  few = (let a = w.few in let b = one_fewer s t class w.page f in omega (arith, a, b, l));
}

pub moved_less : (s t : Store) (class m n : ℕ) → Strands s t class → (IsTight s.pages class → IsTight t.pages class) → m ≤ n → IsMoved s class m → IsMoved t class n
moved_less s t class m n f tight l (inl none) = inl (λ b x. none b (f.less b x))
moved_less s t class m n f tight l (inr w) = inr (record { page = w.page; left = strands_left s t class m n w.page f l w.left; tight = tight w.tight })

-- A statement by phases follows phase by phase.
pub by_phase : {A B : Type 0} {P Q : ℕ → Type 0} {E F : ℕ → ℕ → ℕ → Type 0} (p : Phase) → (A → B) → ((n : ℕ) → P n → Q n) → ((page block n : ℕ) → E page block n → F page block n) → ByPhase A P E p → ByPhase B Q F p
by_phase phases.Idle a p e w = a w
by_phase (phases.Roots next) a p e w = a w
by_phase (phases.Marking part cell) a p e w = a w
by_phase (phases.Sweeping page block) a p e w = a w
by_phase (phases.Moving (moves.Pass class page best chosen)) a p e w = p chosen w
by_phase (phases.Moving (moves.Emptying class page block chosen)) a p e w = e page block chosen w

-- One store goes to another, in any phase, if no less is needed. Each class keeps to its pages. Those that stay are no
-- fewer, and neither are those that leave.
pub record Goes (s t : Store) (need more : ℕ → ℕ) : Type 0 where
  pub strands : (k : ℕ) → Strands s t k
  pub stays : (k page : ℕ) → evacuates k (page_at s.pages page) ≡ true → evacuates k (page_at t.pages page) ≡ true
  pub kept : (k page : ℕ) → k < CLASSES → kept_pages s.pages k page ≤ gathered_pages k (need k) → (evacuates k (page_at s.pages page) ≡ true → blocks_in k ≤ need k) → kept_pages t.pages k page ≤ gathered_pages k (more k)
  pub tight : (k : ℕ) → IsTight s.pages k → IsTight t.pages k
  pub staying : (k : ℕ) → staying_pages s.pages k ≤ staying_pages t.pages k
  pub evacuating : evacuating_pages s.pages ≤ evacuating_pages t.pages
  pub less : (k : ℕ) → k < CLASSES → need k ≤ more k

module _ (s t : Store) (need more : ℕ → ℕ) (g : Goes s t need more) where
  pub settled_goes : (k : ℕ) → k < CLASSES → IsSettled s k (need k) → IsSettled t k (more k)
  settled_goes k l w = record { page = w.page; left = strands_left s t k (need k) (more k) w.page (g.strands k) (g.less k l) w.left; few = g.kept k w.page l w.few w.left.some }

  pub moved_goes : (k : ℕ) → k < CLASSES → IsMoved s k (need k) → IsMoved t k (more k)
  moved_goes k l w = moved_less s t k (need k) (more k) (g.strands k) (g.tight k) (g.less k l) w

  pub emptied_goes : (class page block : ℕ) (Other Then : ℕ → Type 0) → ((k : ℕ) → k < CLASSES → Other k → Then k) → IsEmptied s class page block Other → IsEmptied t class page block Then
  emptied_goes class page block Other Then keep w = record {
    small = w.small;
    on = g.stays class page w.on;
    only = λ b x. w.only b ((g.strands class).less b x);
    behind = λ b x. w.behind b ((g.strands class).less b x);
    others = λ k l ne. keep k l (w.others k l ne);
  }

  emptying_goes : (page block chosen : ℕ) → IsEmptying s page block chosen need → IsEmptying t page block chosen more
  emptying_goes page block chosen w = record {
    class = w.class;
    emptied = emptied_goes w.class page block _ _ moved_goes w.emptied;
    some = (let a = w.some in let b = g.staying w.class in omega (arith, a, b));
    count = (let a = w.count in let b = g.evacuating in omega (arith, a, b));
  }

  pub leftover_goes : (p : Phase) → IsLeftover s p need → IsLeftover t p more
  leftover_goes p w = by_phase p (λ a k l. settled_goes k l (a k l)) (λ n a. record { moved = λ k l. moved_goes k l (a.moved k l); count = (let c = a.count in let b = g.evacuating in omega (arith, c, b)) }) emptying_goes w

-- the same pages
pub goes_same : (s t : Store) (need more : ℕ → ℕ) → Shrinks s t → t.pages ≡ s.pages → ((k : ℕ) → k < CLASSES → need k ≤ more k) → Goes s t need more
goes_same s t need more f e less = record {
  strands = λ k. strands_shrink s t k f (λ page on. sym (ap (λ z. evacuates k (page_at z page)) e) ∙ on);
  stays = λ k page on. ap (λ z. evacuates k (page_at z page)) e ∙ on;
  kept = λ k page l few some. (let a : kept_pages t.pages k page ≡ kept_pages s.pages k page = ap (λ z. kept_pages z k page) e in let b = gathered_more k (need k) (more k) l (less k l) in omega (arith, a, b, few));
  tight = λ k w. subst (λ z. IsTight z k) (sym e) w;
  staying = λ k. (let a : staying_pages t.pages k ≡ staying_pages s.pages k = ap (λ z. staying_pages z k) e in omega (arith, a));
  evacuating = (let a : evacuating_pages t.pages ≡ evacuating_pages s.pages = ap evacuating_pages e in omega (arith, a));
  less = less;
}

pub goes_then : (s t u : Store) (need mid more : ℕ → ℕ) → Goes s t need mid → Goes t u mid more → Goes s u need more
goes_then s t u need mid more f g = record {
  strands = λ k. record { less = λ b x. (f.strands k).less b ((g.strands k).less b x); on = λ page on. (f.strands k).on page ((g.strands k).on page on) };
  stays = λ k page on. g.stays k page (f.stays k page on);
  kept = λ k page l few some. g.kept k page l (f.kept k page l few some) (λ on. (let x = some ((f.strands k).on page on) in let y = f.less k l in omega (arith, x, y)));
  tight = λ k w. g.tight k (f.tight k w);
  staying = λ k. (let x = f.staying k in let y = g.staying k in omega (arith, x, y));
  evacuating = (let x = f.evacuating in let y = g.evacuating in omega (arith, x, y));
  less = λ k l. (let x = f.less k l in let y = g.less k l in omega (arith, x, y));
}

pub leftover_same : (s t : Store) (p : Phase) (need : ℕ → ℕ) → Shrinks s t → t.pages ≡ s.pages → IsLeftover s p need → IsLeftover t p need
leftover_same s t p need f e w = leftover_goes s t need need (goes_same s t need need f e (λ k l. omega arith)) p w

-- a block that is freed: its page keeps its class and its marks
pub settled_freed : (s t : Store) (page block class need : ℕ) (p : Page) → Shrinks s t → page_at s.pages page ≡ Some p → t.pages ≡ set s.pages page (Some (with_allocated p block false)) → IsSettled s class need → IsSettled t class need
settled_freed s t page block class need p f at is w =
    settled_less s t class need (strands_shrink s t class f (λ k on. sym (same k) ∙ on)) (let z = staying_set s.pages t.pages page (Some p) (Some (with_allocated p block false)) l at is class in omega (arith, z)) w
  where
    l : page < length s.pages
    l = page_within s.pages page p at

    same : (k : ℕ) → evacuates class (page_at t.pages k) ≡ evacuates class (page_at s.pages k)
    same k = by_place (k == page) refl (page_set s.pages t.pages page (Some p) (Some (with_allocated p block false)) l at is k)
      where
        by_place : (b : Bool) → (k == page) ≡ b → page_at t.pages k ≡ (if b then Some (with_allocated p block false) else page_at s.pages k) → evacuates class (page_at t.pages k) ≡ evacuates class (page_at s.pages k)
        by_place true e g = ap (evacuates class) g ∙ sym (ap (evacuates class) (ap (page_at s.pages) (same_number k page e) ∙ at))
        by_place false e g = ap (evacuates class) g

not_none : (n : ℕ) → (n == 0) ≡ false → 0 < n
not_none n e = grind arith

-- a allocated flag of a page
some_allocated : (flags : List Bool) → 0 < count_by (λ b. b) flags → (i : ℕ) × (slice_get flags i ≡ Some true)
some_allocated [] l = absurd (omega (arith, l))
some_allocated (true ∷ fs) l = (0, refl)
some_allocated (false ∷ fs) l =
    let a = sum_by-cons (λ b. one_if b) false fs in
    let r = some_allocated fs (omega (arith, a, l)) in
    (suc r.0, there fs r.0 r.1)
  where
    there : (fs : List Bool) (i : ℕ) → slice_get fs i ≡ Some true → slice_get (false ∷ fs) (suc i) ≡ Some true
    there fs i e =
        let l = slice_get_within fs i true e in
        let g = get_or_from_slice_get fs i true false e in
        slice_get-get_or (false ∷ fs) (suc i) false (omega (arith, l)) ∙ ap Some g

-- a page that is closed: an evacuating one other than that which was left goes, since its allocated blocks are old copies
pub settled_closed : (h : HeapState) (present snapshot : Graph) (page block class need : ℕ) (t : Store) → class < CLASSES → Represents h present snapshot → h.phase ≡ phases.Sweeping page block → page < length h.store.pages → is_looked_at (page_at h.store.pages page) block ≡ true
    → KeepsBlocks h.store t → t.pages ≡ set h.store.pages page (closed (page_at h.store.pages page)) → IsSettled h.store class need → IsSettled t class need
settled_closed h present snapshot page block class need t small st e l looked keeps is w = record {
  page = w.page;
  left = strands_left h.store t class need need w.page strands (omega arith) w.left;
  few = by_page (page_at h.store.pages page) refl;
}
  where
    o : Option Page
    o = page_at h.store.pages page

    closed_stays : (o : Option Page) → evacuates class (closed o) ≡ false
    closed_stays None = refl
    closed_stays (Some p) = by_allocated (allocated_on (Some p) == 0)
      where
        by_allocated : (b : Bool) → evacuates class (if b then None else Some (record p { evacuating = false; is_target = false })) ≡ false
        by_allocated true = refl
        by_allocated false = and-false (p.class == class)

    at : (k : ℕ) → page_at t.pages k ≡ (if k == page then closed o else page_at h.store.pages k)
    at k = page_set h.store.pages t.pages page o (closed o) l refl is k

    still : (k : ℕ) → evacuates class (page_at t.pages k) ≡ true → evacuates class (page_at h.store.pages k) ≡ true
    still k on = by_place (k == page) refl (at k)
      where
        by_place : (b : Bool) → (k == page) ≡ b → page_at t.pages k ≡ (if b then closed o else page_at h.store.pages k) → evacuates class (page_at h.store.pages k) ≡ true
        by_place true x g = absurd (let z : false ≡ true = sym (ap (evacuates class) g ∙ closed_stays o) ∙ on in cc)
        by_place false x g = sym (ap (evacuates class) g) ∙ on

    s : staying_pages t.pages class + one_if (stays class o) ≡ staying_pages h.store.pages class + one_if (stays class (closed o))
    s = staying_set h.store.pages t.pages page o (closed o) l refl is class

    strands : Strands h.store t class
    strands = strands_shrink h.store t class (shrinks_keeps h.store t keeps) still

    -- the page that was left is no more
    not_more : one_evacuating class (page_at t.pages w.page) ≤ one_evacuating class (page_at h.store.pages w.page)
    not_more = one_fewer h.store t class w.page strands

    Goal : Type 0
    Goal = kept_pages t.pages class w.page ≤ gathered_pages class need

    few : kept_pages h.store.pages class w.page ≤ gathered_pages class need
    few = w.few

    by_page : (q : Option Page) → o ≡ q → Goal
    by_page None x =
        let a : one_if (stays class o) ≡ 0 = ap (λ z. one_if (stays class z)) x in
        let b : one_if (stays class (closed o)) ≡ 0 = ap (λ z. one_if (stays class (closed z))) x in
        omega (arith, s, a, b, not_more, few)
    by_page (Some p) x = by_allocated (allocated_on (Some p) == 0) refl
      where
        a : one_if (stays class o) ≡ one_if ((p.class == class) && not p.evacuating)
        a = ap (λ z. one_if (stays class z)) x

        on : (b l : Bool) → one_if (b && true) ≤ one_if (b && not l) + one_if (b && l)
        on true true = omega arith
        on true false = omega arith
        on false true = omega arith
        on false false = omega arith

        by_allocated : (b : Bool) → (allocated_on (Some p) == 0) ≡ b → Goal
        by_allocated true z =
            let c : closed o ≡ None = ap closed x ∙ ap (λ b. if b then None else Some (record p { evacuating = false; is_target = false })) z in
            let d : one_if (stays class (closed o)) ≡ 0 = ap (λ y. one_if (stays class y)) c in
            omega (arith, s, d, not_more, few)
        by_allocated false z = by_evacuating ((p.class == class) && p.evacuating) refl
          where
            c : closed o ≡ Some (record p { evacuating = false; is_target = false })
            c = ap closed x ∙ ap (λ b. if b then None else Some (record p { evacuating = false; is_target = false })) z

            d : one_if (stays class (closed o)) ≡ one_if ((p.class == class) && true)
            d = ap (λ y. one_if (stays class y)) c

            m : one_if ((p.class == class) && true) ≤ one_if ((p.class == class) && not p.evacuating) + one_if ((p.class == class) && p.evacuating)
            m = on (p.class == class) p.evacuating

            by_evacuating : (b : Bool) → ((p.class == class) && p.evacuating) ≡ b → Goal
            by_evacuating false y =
                let n : one_if ((p.class == class) && p.evacuating) ≡ 0 = ap one_if y in
                omega (arith, s, a, d, m, n, not_more, few)
            by_evacuating true y =
                let allocated : 0 < count_by (λ b. b) p.allocated = not_none (count_by (λ b. b) p.allocated) z in
                let i = some_allocated p.allocated allocated in
                let address = address_of p.class page i.0 in
                let isp = st.pages.each page p x in
                let there : is_allocated h.store address ≡ true = allocated_at h.store page i.0 p st.pages x i.1 in
                let here : address / 2048 ≡ page = place_page h.store page i.0 p st.pages x (slice_get_within p.allocated i.0 true i.1) in
                let main = closes_main h present snapshot page block st.pages st.consistent e looked address here there in
                let lv : evacuates class (page_at h.store.pages (address / 2048)) ≡ true = ap (λ k. evacuates class (page_at h.store.pages k)) here ∙ ap (evacuates class) x ∙ y in
                let same : address / 2048 ≡ w.page = w.left.only address (record { allocated = there; main = main; on = lv }) in
                let k : page ≡ w.page = sym here ∙ same in
                let before : one_evacuating class (page_at h.store.pages w.page) ≡ 1 = ap (λ b. if b then 1 else 0) (ap (λ k. evacuates class (page_at h.store.pages k)) (sym k) ∙ ap (evacuates class) x ∙ y) in
                let gone : page_at t.pages w.page ≡ closed o = ap (page_at t.pages) (sym k) ∙ at page ∙ ap (λ b. if b then closed o else page_at h.store.pages page) (eq-eqb page page refl) in
                let after : one_evacuating class (page_at t.pages w.page) ≡ 0 = ap (λ z. if evacuates class z then 1 else 0) gone ∙ ap (λ b. if b then 1 else 0) (closed_stays o) in
                let n : one_if ((p.class == class) && p.evacuating) ≡ 1 = ap one_if y in
                omega (arith, s, a, d, m, n, before, after, few)

-- at a sweep's end no page is evacuating
pub none_leaves : (s : Store) (class : ℕ) → ((k : ℕ) → HasNoMark (page_at s.pages k)) → NoneStranded s class
none_leaves s class n b w = by_page (page_at s.pages (b / 2048)) refl w.on
  where
    by_page : (o : Option Page) → page_at s.pages (b / 2048) ≡ o → evacuates class (page_at s.pages (b / 2048)) ≡ true → ⊥
    by_page None e on = let z : false ≡ true = sym (ap (evacuates class) e) ∙ on in cc
    by_page (Some p) e on =
        let x = (both_true (p.class == class) p.evacuating (sym (ap (evacuates class) e) ∙ on)).1 in
        let y : p.evacuating ≡ false = sym (ap is_evacuating e) ∙ (n (b / 2048)).evacuating in
        let z : true ≡ false = sym x ∙ y in cc

-- then a class has no more pages than the one that was left and those that its blocks take
pub settled_used : (s : Store) (class need : ℕ) → IsSettled s class need → staying_pages s.pages class ≤ gathered_pages class need
settled_used s class need w = let f = w.few in omega (arith, f)

-- the next block of a page that is emptied: those from the place on are behind it
pub behind_index : (page block i size b : ℕ) → 0 < size → 2048 * page + block * size ≤ b → b ≡ 2048 * page + i * size → block ≤ i
behind_index page block i size b some low e = elim (order block i) [ inl l ↦ l | inr l ↦ absurd (let m = mul-le-mul_right size (next i block l) in let d : (i + 1) * size ≡ i * size + size = times i size in omega (arith, m, d, low, e, some)) ]
  where
    order : (a b : ℕ) → (a ≤ b) ⊎ (b < a)
    order a b = grind arith

    next : (i block : ℕ) → i < block → i + 1 ≤ block
    next i block l = omega (arith, l)

    times : (i size : ℕ) → (i + 1) * size ≡ i * size + size
    times i size = omega arith

-- main copies on a page, by their number there
pub record OnPage (s : Store) (page b : ℕ) (p : Page) : Type 0 where
  pub index : ℕ
  pub allocated : slice_get p.allocated index ≡ Some true
  pub address : b ≡ address_of p.class page index

pub on_page : (s : Store) (page b : ℕ) (p : Page) → page_at s.pages page ≡ Some p → is_allocated s b ≡ true → b / 2048 ≡ page → OnPage s page b p
on_page s page b p at allocated here =
    let q = allocated_block s b allocated in
    let same : q.0 ≡ p = same_Some q.0 p (sym q.2.page ∙ ap (page_at s.pages) here ∙ at) in
    record {
      index = q.1;
      allocated = ap (λ (z : Page). slice_get z.allocated q.1) (sym same) ∙ q.2.allocated;
      address = q.2.address ∙ ap (λ z. address_of q.0.class z q.1) here ∙ ap (λ (z : Page). address_of z.class page q.1) same;
    }

-- the page that is emptied is of its class
pub emptied_own : (s : Store) (class page block : ℕ) (Other : ℕ → Type 0) (p : Page) → page_at s.pages page ≡ Some p → IsEmptied s class page block Other → p.class ≡ class
emptied_own s class page block Other p at w = same_number p.class class (both_true (p.class == class) p.evacuating (sym (ap (evacuates class) at) ∙ w.on)).0

-- a page that is done: none of its main copies was left, or none of its class's blocks is free
pub done_left : (s : Store) (class page block need : ℕ) (Other : ℕ → Type 0) (p : Page) → ArePages s.pages → page_at s.pages page ≡ Some p → IsDone s.pages p block → (free_blocks s.pages class ≡ 0 → blocks_in class ≤ need) → IsEmptied s class page block Other → IsMoved s class need
done_left s class page block need Other p a at done enough w = elim done [
  | inl none ↦ inl (λ b x. (
      let q = on_page s page b p at x.allocated (w.only b x) in
      let low : address_of p.class page block ≤ b = subst (λ k. address_of k page block ≤ b) (sym own_class) (w.behind b x) in
      let i = behind_index page block q.index (size_of p.class) b (size_some p (a.each page p at)) low q.address in
      none q.index i q.allocated))
  | inr nowhere ↦ inr (
      let z : free_blocks s.pages class ≡ 0 = subst (λ k. free_blocks s.pages k ≡ 0) own_class (no_blocks s.pages p.class nowhere) in
      let some = blocks_some class w.small in
      record { page = page; left = record { only = w.only; some = λ on. enough z }; tight = omega (arith, z, some) })
]
  where
    own_class : p.class ≡ class
    own_class = emptied_own s class page block Other p at w

-- what holds of the class and of the others holds of each
pub emptied_all : (s : Store) (class page block : ℕ) (Other Each : ℕ → Type 0) → ((k : ℕ) → Other k → Each k) → IsEmptied s class page block Other → Each class → (k : ℕ) → k < CLASSES → Each k
emptied_all s class page block Other Each each w here k l = by_class (class == k) refl
  where
    by_class : (b : Bool) → (class == k) ≡ b → Each k
    by_class true e = subst Each (same_number class k e) here
    by_class false e = each k (w.others k l e)

staying_allocated : (pages : List (Option Page)) (class : ℕ) → ArePages pages → 0 < staying_pages pages class → free_blocks pages class ≡ 0 → blocks_in class ≤ main_blocks pages class
staying_allocated pages class a some none =
    let o = own class pages a in
    let m = mul-le-mul_left (blocks_in class) (one_most some) in
    omega (arith, o, m, none)
  where
    one_most : 0 < staying_pages pages class → 1 ≤ staying_pages pages class
    one_most l = omega (arith, l)

-- at a look of a pass
pub at_look : (h : HeapState) (class page : ℕ) (best : Option Candidate) (chosen : ℕ) (need : ℕ → ℕ) → ArePages h.store.pages → ((class : ℕ) → class < CLASSES → main_blocks h.store.pages class ≤ need class) → IsLeftover h.store h.phase need → AtPass h class page best chosen → AtLook h.store chosen need
at_look h class page best chosen need a census w (In_pass class0 page0 best0 chosen0 e) = subst (λ z. IsLeftover h.store z need) e w
at_look h class page best chosen need a census w (After_page class0 page0 block chosen0 p e at on done few) =
    let q : IsEmptying h.store page0 block chosen need = subst (λ z. IsLeftover h.store z need) e w in
    let enough : free_blocks h.store.pages q.class ≡ 0 → blocks_in q.class ≤ need q.class = λ none. (let m = staying_allocated h.store.pages q.class a q.some none in let n = census q.class q.emptied.small in omega (arith, m, n)) in
    record { moved = emptied_all h.store q.class page0 block _ (λ k. IsMoved h.store k (need k)) (λ k o. o) q.emptied (done_left h.store q.class page0 block (need q.class) _ p a at done enough q.emptied); count = q.count }
