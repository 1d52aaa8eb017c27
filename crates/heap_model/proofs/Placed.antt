-- A block that is taken keeps the pages as they were, except for the block.
use Rattle.std.proofs.Common.{◌≡◌, ℕ, ◌+◌, ◌-◌, ◌*◌, ◌/◌, ◌<◌, Bool, true, false, List, length, refl, ap, subst, sym, ◌∙◌, arith, ◌==◌, if◌then◌else◌, nat_lt}
use Rattle.std.specs.Prelude.{Option, Some, None, position}
use Rattle.std.proofs.lemmas.Option.{same_Some}
use Rattle.std.proofs.lemmas.List.Quantifiers.{position-Some}
use Rattle.heap_model.specs.declared.phase.Phase.{Phase}
use Rattle.heap_model.specs.declared.phase.Phase.TheVariants as phases
use Rattle.heap_model.specs.declared.phase.Moving.TheVariants as moves
use Rattle.heap_model.specs.Pages.{Page, page_at, page_for, first_of, is_usable, is_free, page_of_class, with_allocated, TakesBlock}
use Rattle.size_classes.specs.Sizes.{size_of}
use Rattle.heap_model.specs.Store.{size_in}
use Rattle.heap_model.specs.State.{is_target_page, is_evacuating, page_of, reference_of}
use Rattle.heap_model.specs.Written.{KeepsPlace}
use Rattle.heap_model.specs.Placed.{KeepsClass, KeepsPages, IsPlaced}
use Rattle.heap_model.proofs.Store.Allocated.{set_page}
use Rattle.heap_model.proofs.Action.Moving.{same_number}

pub pages_same : (pages : List (Option Page)) → KeepsPages pages pages
pages_same pages = record { used = λ k p e. (p, e, record { class = refl; evacuating = refl; is_target = refl }); free = λ k q e f. absurd (let z : None ≡ Some q = sym e ∙ f in cc) }

pub pages_then : (a b c : List (Option Page)) → KeepsPages a b → KeepsPages b c → KeepsPages a c
pages_then a b c f g = record {
  used = λ k p e. let q = f.used k p e in let r = g.used k q.0 q.1 in (r.0, r.1, record { class = r.2.class ∙ q.2.class; evacuating = r.2.evacuating ∙ q.2.evacuating; is_target = r.2.is_target ∙ q.2.is_target });
  free = λ k q e h. by_page k q e h (page_at b k) refl;
}
  where
    by_page : (k : ℕ) (q : Page) → page_at a k ≡ None → page_at c k ≡ Some q → (o : Option Page) → page_at b k ≡ o → (q.evacuating ≡ false) × (q.is_target ≡ false)
    by_page k q e h None m = g.free k q m h
    by_page k q e h (Some r) m =
        let s = g.used k r m in
        let same : s.0 ≡ q = same_Some s.0 q (sym s.1 ∙ h) in
        let w = f.free k r e m in
        (sym (ap (λ (z : Page). z.evacuating) same) ∙ s.2.evacuating ∙ w.0, sym (ap (λ (z : Page). z.is_target) same) ∙ s.2.is_target ∙ w.1)

pub page_for_within : (pages : List (Option Page)) (class k : ℕ) → page_for pages class ≡ Some k → k < length pages
page_for_within pages class k e = by_usable (position (is_usable class) pages) refl e
  where
    by_usable : (o : Option ℕ) → position (is_usable class) pages ≡ o → first_of o (position is_free pages) ≡ Some k → k < length pages
    by_usable None q e = (position-Some is_free pages k None e).0
    by_usable (Some j) q e = (position-Some (is_usable class) pages k None (q ∙ e)).0

pub takes_keeps : (old new : List (Option Page)) (class page index : ℕ) → TakesBlock old class page index new → KeepsPages old new
takes_keeps old new class page index w = record {
  used = λ k p e. by_used k p e (k == page) refl (at k);
  free = λ k q e f. by_free k q e f (k == page) refl (at k);
}
  where
    v : Option Page
    v = Some (with_allocated (page_of_class class (page_at old page)) index true)

    at : (k : ℕ) → page_at new k ≡ (if k == page then v else page_at old k)
    at k = ap (λ z. page_at z k) w.new_is ∙ set_page old page k v (page_for_within old class page w.page_is)

    by_used : (k : ℕ) (p : Page) → page_at old k ≡ Some p → (t : Bool) → (k == page) ≡ t → page_at new k ≡ (if t then v else page_at old k) → (q : Page) × (page_at new k ≡ Some q) × KeepsClass p q
    by_used k p e true t f =
        let here : k ≡ page = same_number k page t in
        let g : page_at old page ≡ Some p = ap (page_at old) (sym here) ∙ e in
        (with_allocated p index true, f ∙ ap (λ o. Some (with_allocated (page_of_class class o) index true)) g, record { class = refl; evacuating = refl; is_target = refl })
    by_used k p e false t f = (p, f ∙ e, record { class = refl; evacuating = refl; is_target = refl })

    by_free : (k : ℕ) (q : Page) → page_at old k ≡ None → page_at new k ≡ Some q → (t : Bool) → (k == page) ≡ t → page_at new k ≡ (if t then v else page_at old k) → (q.evacuating ≡ false) × (q.is_target ≡ false)
    by_free k q e f true t g =
        let here : k ≡ page = same_number k page t in
        let o : page_at old page ≡ None = ap (page_at old) (sym here) ∙ e in
        let same : with_allocated (page_of_class class (page_at old page)) index true ≡ q = same_Some _ q (sym g ∙ f) in
        let fresh : with_allocated (page_of_class class None) index true ≡ q = ap (λ z. with_allocated (page_of_class class z) index true) (sym o) ∙ same in
        (sym (ap (λ (z : Page). z.evacuating) fresh), sym (ap (λ (z : Page). z.is_target) fresh))
    by_free k q e f false t g = absurd (let z : None ≡ Some q = sym e ∙ sym g ∙ f in cc)

-- so the place of the phase stays
flag_kept : (flag : Option Page → Bool) → flag None ≡ false → ((p q : Page) → KeepsClass p q → flag (Some q) ≡ flag (Some p)) → (old new : List (Option Page)) → KeepsPages old new → (k : ℕ) → flag (page_at old k) ≡ true → flag (page_at new k) ≡ true
flag_kept flag none keeps old new w k e = by_page (page_at old k) refl e
  where
    by_page : (o : Option Page) → page_at old k ≡ o → flag o ≡ true → flag (page_at new k) ≡ true
    by_page None q e = absurd (let z : false ≡ true = sym none ∙ e in cc)
    by_page (Some p) q e = let r = w.used k p q in ap flag r.1 ∙ keeps p r.0 r.2 ∙ e

target_page_kept : (old new : List (Option Page)) → KeepsPages old new → (k : ℕ) → is_target_page (page_at old k) ≡ true → is_target_page (page_at new k) ≡ true
target_page_kept = flag_kept is_target_page refl (λ p q c. c.is_target)

evacuating_kept : (old new : List (Option Page)) → KeepsPages old new → (k : ℕ) → is_evacuating (page_at old k) ≡ true → is_evacuating (page_at new k) ≡ true
evacuating_kept = flag_kept is_evacuating refl (λ p q c. c.evacuating)

pub place_stays : (old new : List (Option Page)) (p : Phase) → IsPlaced old p → KeepsPages old new → KeepsPlace old new p
place_stays old new phases.Idle i w = tt
place_stays old new (phases.Roots next) i w = tt
place_stays old new (phases.Marking part cell) i w = tt
place_stays old new (phases.Sweeping page block) i w = by_page (page_at old page) refl
  where
    by_page : (o : Option Page) → page_at old page ≡ o → reference_of new page block ≡ reference_of old page block
    by_page None e = let z = i e in let s = ap (λ y. y * size_in (page_at new page)) z in let t = ap (λ y. y * size_in (page_at old page)) z in let m : 0 * size_in (page_at new page) ≡ 0 = omega arith in let n : 0 * size_in (page_at old page) ≡ 0 = omega arith in omega arith
    by_page (Some p) e =
        let r = w.used page p e in
        let size : size_in (page_at new page) ≡ size_in (page_at old page) = ap size_in r.1 ∙ ap size_of r.2.class ∙ sym (ap size_in e) in
        ap (λ y. 2048 * page + block * y + 1) size
place_stays old new (phases.Moving (moves.Pass class page best chosen)) i w = ((λ x e. target_page_kept old new w ((x - 1) / 2048) e), (λ x e. evacuating_kept old new w ((x - 1) / 2048) e))
place_stays old new (phases.Moving (moves.Emptying class page block chosen)) i w = ((λ x e. target_page_kept old new w ((x - 1) / 2048) e), (λ x e. left_kept x ((x - 1) / 2048 == page) e))
  where
    r : (q : Page) × (page_at new page ≡ Some q) × KeepsClass i.0 q
    r = w.used page i.0 i.1

    same : reference_of old page block ≡ reference_of new page block
    same = ap (λ y. 2048 * page + block * y + 1) (sym (ap size_in r.1 ∙ ap size_of r.2.class ∙ sym (ap size_in i.1)))

    left_kept : (x : ℕ) (t : Bool) → (if t then nat_lt x (reference_of old page block) else is_evacuating (page_of old x)) ≡ true → (if t then nat_lt x (reference_of new page block) else is_evacuating (page_of new x)) ≡ true
    left_kept x true e = subst (λ z. nat_lt x z ≡ true) same e
    left_kept x false e = evacuating_kept old new w ((x - 1) / 2048) e
