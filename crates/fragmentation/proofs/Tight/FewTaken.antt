-- How many pages a class has since a sweep ended, through blocks that are taken; and room for requested blocks.
use Rattle.std.proofs.Common.{◌≡◌, ℕ, ◌+◌, ◌-◌, ◌*◌, ◌<◌, ◌≤◌, ◌⊎◌, inl, inr, Bool, true, false, ◌==◌, if◌then◌else◌, List, Option, Some, None, length, set, ap, ◌∙◌, sym, subst, arith, refl}
use Rattle.std.proofs.lemmas.Bool.{le-leb}
use Rattle.std.proofs.lemmas.Nat.{le-div}
use Rattle.std.proofs.lemmas.Option.{same_Some}
use Rattle.size_classes.specs.declared.class.TheConstants.{CLASSES}
use Rattle.size_classes.specs.Sizes.{blocks_in}
use Rattle.size_classes.proofs.Table.{blocks_some}
use Rattle.heap_model.specs.declared.phase.Phase.{Phase}
use Rattle.heap_model.specs.declared.phase.Phase.TheVariants as phases
use Rattle.heap_model.specs.declared.phase.Moving.TheVariants as moves
use Rattle.heap_model.specs.Pages.{Page, ArePages, is_usable, fresh_page, with_allocated, TakesBlock, page_at, free_on, free_blocks, free_pages, whole_pages, pages_needed, has_room}
use Rattle.heap_model.specs.Placed.{IsPlaced}
use Rattle.heap_model.specs.Represents.{is_sweeping}
use Rattle.heap_model.proofs.Store.Allocated.{set_page}
use Rattle.heap_model.proofs.Placed.{page_for_within}
use Rattle.heap_model.proofs.Rooms.{no_blocks}
use Rattle.heap_model.proofs.Action.Moving.{same_number, usable_fits}
use Rattle.space.specs.Counts.{used_pages}
use Rattle.space.proofs.Counts.{one_if, used_set, all_pages, whole_within, zero_or}
use Rattle.fragmentation.specs.Tight.{IsTight}
use Rattle.fragmentation.proofs.Tight.IsFew.{allocated_from, to_move, IsFew, few_pages}
use Rattle.fragmentation.proofs.Tight.Free.{free_change}
use Rattle.fragmentation.proofs.Tight.Taken.{FromUsed, FromFree, took, fresh_few, fresh_other, opened_tight, block_tight}
use Rattle.fragmentation.proofs.Suffice.Paging.{whole_more, whole_none, needed_sums}
use Rattle.fragmentation.proofs.Tight.Few.{one_less, none_less}

-- the phase looks at the same blocks of the page that is emptied, while others are taken
emptied_same : (old new : List (Option Page)) (p : Phase) (class : ℕ) → IsPlaced old p → ((k : ℕ) (q : Page) → page_at old k ≡ Some q → q.evacuating ≡ true → page_at new k ≡ Some q) → to_move new class p ≡ to_move old class p
emptied_same old new phases.Idle class w s = refl
emptied_same old new (phases.Roots next) class w s = refl
emptied_same old new (phases.Marking part cell) class w s = refl
emptied_same old new (phases.Sweeping page block) class w s = refl
emptied_same old new (phases.Moving (moves.Pass k page best chosen)) class w s = refl
emptied_same old new (phases.Moving (moves.Emptying k page block chosen)) class w s = ap (allocated_from class block) (s page w.0 w.1 w.2) ∙ sym (ap (allocated_from class block) w.1)

-- pages for the requested blocks, beside those that exist
class_few : (pages : List (Option Page)) (p : Phase) (first made need : ℕ → ℕ) → IsFew pages p first made → (class : ℕ) → class < CLASSES → whole_pages class (need class - free_blocks pages class) + used_pages pages class ≤ first class + whole_pages class (made class + need class)
class_few pages p first made need w class small = by_missing (zero_or (need class - free_blocks pages class)) (order (used_pages pages class) (first class))
  where
    some : 0 < blocks_in class
    some = blocks_some class small

    order : (x y : ℕ) → (x < y) ⊎ (y ≤ x)
    order x y = grind arith

    missing : ℕ
    missing = need class - free_blocks pages class

    few : used_pages pages class ≤ first class + whole_pages class (made class)
    few = w.few class small

    fair : blocks_in class * used_pages pages class + to_move pages class p ≤ blocks_in class * first class + made class + free_blocks pages class
    fair = w.fair class small

    by_missing : (missing ≡ 0) ⊎ (0 < missing) → (used_pages pages class < first class) ⊎ (first class ≤ used_pages pages class) → whole_pages class missing + used_pages pages class ≤ first class + whole_pages class (made class + need class)
    by_missing (inl z) o =
        let n : whole_pages class missing ≡ 0 = ap (whole_pages class) z ∙ whole_none class small in
        let m = whole_more class (made class) (made class + need class) small (omega arith) in
        omega (arith, n, m, few)
    by_missing (inr s) (inl less) =
        let m = whole_more class missing (made class + need class) small (omega arith) in
        omega (arith, m, less)
    by_missing (inr s) (inr more) =
        let u : ℕ = used_pages pages class - first class in
        let e : used_pages pages class ≡ first class + u = omega (arith, more) in
        let d : blocks_in class * used_pages pages class ≡ blocks_in class * (first class + u) = ap (λ y. blocks_in class * y) e in
        let m : blocks_in class * (first class + u) ≡ blocks_in class * first class + blocks_in class * u = omega arith in
        let q = whole_within (blocks_in class) missing u (made class + need class) some (omega (arith, d, m, s, fair)) in
        omega (arith, q, e)

-- a block that is taken
abbrev pub plus_one : (ℕ → ℕ) → ℕ → ℕ → ℕ
plus_one made class k = made k + one_if (class == k)

pub block_few : (old new : List (Option Page)) (class page index : ℕ) (p : Phase) (first made : ℕ → ℕ) → class < CLASSES → IsPlaced old p → TakesBlock old class page index new → IsFew old p first made → IsFew new p first (plus_one made class)
block_few old new class page index p first made small placed t w = elim (took old new class page index t) [ inl u ↦ from_used u | inr f ↦ from_free f ]
  where
    within : page < length old
    within = page_for_within old class page t.page_is

    -- an evacuating page gives no block
    evacuating_same : (v : Option Page) → new ≡ set old page v → ((q : Page) → page_at old page ≡ Some q → q.evacuating ≡ true → ⊥) → (k : ℕ) (q : Page) → page_at old k ≡ Some q → q.evacuating ≡ true → page_at new k ≡ Some q
    evacuating_same v is none k q at on = by_place (k == page) refl (ap (λ z. page_at z k) is ∙ set_page old page k v within)
      where
        by_place : (s : Bool) → (k == page) ≡ s → page_at new k ≡ (if s then v else page_at old k) → page_at new k ≡ Some q
        by_place true s e = absurd (none q (ap (page_at old) (sym (same_number k page s)) ∙ at) on)
        by_place false s e = e ∙ at

    from_used : FromUsed old class page index new → IsFew new p first (plus_one made class)
    from_used u = record {
      few = λ k l. (let a = w.few k l in let s = used k in let m = whole_more k (made k) (plus_one made class k) l (omega arith) in omega (arith, a, s, m));
      fair = λ k l. by_class k l (class == k) refl;
      still = λ e k l. elim (w.still e k l) [ inl x ↦ inl (block_tight old new class page index k t x) | inr x ↦ inr (let s = used k in omega (arith, s, x)) ];
    }
      where
        fit : (u.source.class ≡ class) × (u.source.evacuating ≡ false)
        fit = usable_fits class u.source u.usable

        used : (k : ℕ) → used_pages new k ≡ used_pages old k
        used k = let s = used_set old new page (Some u.source) (Some (with_allocated u.source index true)) within u.at u.is k in omega (arith, s)

        rest : (k : ℕ) → to_move new k p ≡ to_move old k p
        rest k = emptied_same old new p k placed (evacuating_same _ u.is (λ q at on. (let z : u.source ≡ q = same_Some u.source q (sym u.at ∙ at) in let y : false ≡ true = sym fit.1 ∙ ap (λ (z : Page). z.evacuating) z ∙ on in cc)))

        by_class : (k : ℕ) → k < CLASSES → (b : Bool) → (class == k) ≡ b → blocks_in k * used_pages new k + to_move new k p ≤ blocks_in k * first k + (made k + one_if b) + free_blocks new k
        by_class k l true e =
            let mu : blocks_in k * used_pages new k ≡ blocks_in k * used_pages old k = ap (λ z. blocks_in k * z) (used k) in
            let f = free_change old new page (Some u.source) (Some (with_allocated u.source index true)) within u.at u.is k in
            let one : free_on k (Some (with_allocated u.source index true)) + 1 ≡ free_on k (Some u.source) = one_less u.source k index (subst (λ z. is_usable z (Some u.source) ≡ true) (same_number class k e) u.usable) u.opened in
            let r = rest k in let a = w.fair k l in omega (arith, mu, f, one, r, a)
        by_class k l false e =
            let mu : blocks_in k * used_pages new k ≡ blocks_in k * used_pages old k = ap (λ z. blocks_in k * z) (used k) in
            let f = free_change old new page (Some u.source) (Some (with_allocated u.source index true)) within u.at u.is k in
            let none = none_less u.source class k index fit.0 e in
            let r = rest k in let a = w.fair k l in omega (arith, mu, f, none.0, none.1, r, a)

    from_free : FromFree old class page index new → IsFew new p first (plus_one made class)
    from_free f = record { few = λ k l. few_by k l (class == k) refl; fair = λ k l. fair_by k l (class == k) refl; still = λ e k l. still_by e k l (class == k) refl }
      where
        v : Page
        v = with_allocated (fresh_page class) index true

        used : (k : ℕ) → used_pages new k ≡ used_pages old k + one_if (class == k)
        used k = let s = used_set old new page None (Some v) within f.at f.is k in omega (arith, s)

        rest : (k : ℕ) → to_move new k p ≡ to_move old k p
        rest k = emptied_same old new p k placed (evacuating_same _ f.is (λ q at on. (let z : None ≡ Some q = sym f.at ∙ at in cc)))

        none : free_blocks old class ≡ 0
        none = no_blocks old class f.none

        fair_by : (k : ℕ) → k < CLASSES → (b : Bool) → (class == k) ≡ b → blocks_in k * used_pages new k + to_move new k p ≤ blocks_in k * first k + (made k + one_if b) + free_blocks new k
        fair_by k l true e =
            let same = same_number class k e in
            let u = used k in
            let o : one_if (class == k) ≡ 1 = ap one_if e in
            let uu : used_pages new k ≡ used_pages old k + 1 = omega (arith, u, o) in
            let d : blocks_in k * (used_pages old k + 1) ≡ blocks_in k * used_pages old k + blocks_in k = omega arith in
            let mu : blocks_in k * used_pages new k ≡ blocks_in k * (used_pages old k + 1) = ap (λ z. blocks_in k * z) uu in
            let c = free_change old new page None (Some v) within f.at f.is k in
            let n : free_on k (Some v) + 1 ≡ blocks_in k = subst (λ z. free_on z (Some v) + 1 ≡ blocks_in z) same (fresh_few class index f.opened) in
            let r = rest k in let a = w.fair k l in omega (arith, mu, d, c, n, r, a)
        fair_by k l false e =
            let u = used k in
            let o : one_if (class == k) ≡ 0 = ap one_if e in
            let uu : used_pages new k ≡ used_pages old k = omega (arith, u, o) in
            let mu : blocks_in k * used_pages new k ≡ blocks_in k * used_pages old k = ap (λ z. blocks_in k * z) uu in
            let c = free_change old new page None (Some v) within f.at f.is k in
            let n = fresh_other class k index e in
            let r = rest k in let a = w.fair k l in omega (arith, mu, c, n, r, a)

        opens : (k : ℕ) → k < CLASSES → class ≡ k → used_pages old k + 1 ≤ first k + whole_pages k (made k + 1)
        opens k l same =
            let some = blocks_some k l in
            let z : free_blocks old k ≡ 0 = subst (λ y. free_blocks old y ≡ 0) same none in
            let c = class_few old p first made (λ n. 1) w k l in
            let m : whole_pages k (1 - free_blocks old k) ≡ whole_pages k 1 = ap (whole_pages k) (omega (arith, z)) in
            let one : 1 ≤ whole_pages k 1 = le-div 1 (1 + (blocks_in k - 1)) (blocks_in k) some (omega (arith, some)) in
            omega (arith, c, m, one)

        few_by : (k : ℕ) → k < CLASSES → (b : Bool) → (class == k) ≡ b → used_pages new k ≤ first k + whole_pages k (made k + one_if b)
        few_by k l true e = let u = used k in let o : one_if (class == k) ≡ 1 = ap one_if e in let s = opens k l (same_number class k e) in omega (arith, u, o, s)
        few_by k l false e =
            let u = used k in
            let o : one_if (class == k) ≡ 0 = ap one_if e in
            let m = whole_more k (made k) (made k + 0) l (omega arith) in
            let a = w.few k l in omega (arith, u, o, a, m)

        still_by : is_sweeping p ≡ false → (k : ℕ) → k < CLASSES → (b : Bool) → (class == k) ≡ b → IsTight new k ⊎ (used_pages new k ≤ first k)
        still_by e k l true s = inl (subst (IsTight new) (same_number class k s) (opened_tight old new class page index within f))
        still_by e k l false s = elim (w.still e k l) [
          | inl x ↦ inl (block_tight old new class page index k t x)
          | inr x ↦ inr (let u = used k in let o : one_if (class == k) ≡ 0 = ap one_if s in omega (arith, u, o, x))
        ]

-- room for the requested blocks
pub few_room : (pages : List (Option Page)) (p : Phase) (first made need : ℕ → ℕ) → ArePages pages → IsFew pages p first made → few_pages first (λ class. made class + need class) CLASSES ≤ length pages → has_room pages need ≡ true
few_room pages p first made need a w fits = le-leb (pages_needed pages need CLASSES) (free_pages pages) (
    let s = needed_sums pages need (used_pages pages) (λ class. first class + whole_pages class (made class + need class)) CLASSES (class_few pages p first made need w) in
    let t = all_pages pages a in
    omega (arith, s, t, fits))
