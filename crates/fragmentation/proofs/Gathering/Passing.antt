-- Passes: what a look finds, and that a class whose pass chooses nothing is tight.
use Rattle.std.proofs.Common.{◌≡◌, ℕ, ◌+◌, ◌<◌, ◌⊎◌, inl, inr, Bool, true, false, ◌==◌, if◌then◌else◌, nat_lt, List, Option, Some, None, length, ap, ◌∙◌, sym, subst, arith, refl}
use Rattle.size_classes.specs.declared.class.TheConstants.{CLASSES}
use Rattle.heap_model.specs.declared.phase.Candidate.{Candidate}
use Rattle.heap_model.specs.Pages.{Page, ArePages, page_at, TakesBlock, fresh_page, with_allocated}
use Rattle.heap_model.specs.State.{HeapState}
use Rattle.heap_model.specs.Placed.{KeepsPages}
use Rattle.heap_model.specs.Action.{allocated_on, is_choosable, is_chosen, candidate_after, emptier, AtPass, In_pass, After_page}
use Rattle.heap_model.proofs.Store.Allocated.{set_page}
use Rattle.heap_model.proofs.Placed.{takes_keeps, page_for_within}
use Rattle.heap_model.proofs.Action.Moving.{same_number}
use Rattle.fragmentation.specs.Tight.{IsTight}
use Rattle.fragmentation.specs.Gathering.{AreUsed, ReceivesFirst, HasLooked, AreTight, IsGathering}
use Rattle.fragmentation.proofs.Tight.Free.{choosable_is, refused_tight, receivers_tight}
use Rattle.fragmentation.proofs.Tight.Taken.{FromUsed, FromFree, took, opened_tight, block_tight}

-- The next page was looked at.
pub looked_more : (pages : List (Option Page)) (class page : ℕ) (best : Option Candidate) → HasLooked pages class page best → HasLooked pages class (page + 1) (candidate_after pages class page best)
looked_more pages class page best w = by_page best w (is_choosable class (page_at pages page)) refl
  where
    here : Candidate
    here = record { page = page; allocated = allocated_on (page_at pages page) }

    by_fewer : (b : Candidate) (t : Bool) → is_choosable class (page_at pages b.page) ≡ true → is_choosable class (page_at pages page) ≡ true → HasLooked pages class (page + 1) (if t then Some here else Some b)
    by_fewer b true x y = y
    by_fewer b false x y = x

    none_before : ((k : ℕ) → k < page → is_choosable class (page_at pages k) ≡ false) → is_choosable class (page_at pages page) ≡ false → (k : ℕ) → k < page + 1 → is_choosable class (page_at pages k) ≡ false
    none_before f e k l = by_place (k == page) refl
      where
        by_place : (t : Bool) → (k == page) ≡ t → is_choosable class (page_at pages k) ≡ false
        by_place true t = ap (λ z. is_choosable class (page_at pages z)) (same_number k page t) ∙ e
        by_place false t = let m : k < page = grind arith in f k m

    by_page : (o : Option Candidate) → HasLooked pages class page o → (t : Bool) → is_choosable class (page_at pages page) ≡ t → HasLooked pages class (page + 1) (if t then emptier o here else o)
    by_page None w true e = e
    by_page (Some b) w true e = by_fewer b (nat_lt here.allocated b.allocated) w e
    by_page None w false e = elim w [ inl f ↦ inl (none_before f e) | inr t ↦ inr t ]
    by_page (Some b) w false e = w

-- if the last look of a pass chooses nothing, the class is tight
pub pass_tight : (pages : List (Option Page)) (class : ℕ) (best : Option Candidate) → class < CLASSES → ArePages pages → AreUsed pages (length pages) → ReceivesFirst pages → HasLooked pages class (length pages) best → is_chosen pages class best ≡ false → IsTight pages class
pass_tight pages class None small w used first (inl f) e = receivers_tight pages class small w used first f
pass_tight pages class None small w used first (inr t) e = t
pass_tight pages class (Some c) small w used first l e = refused_tight pages class c w l e

-- at a look of a pass
pub record InPass (pages : List (Option Page)) (class page : ℕ) (best : Option Candidate) : Type 0 where
  pub used : AreUsed pages (length pages)
  pub first : ReceivesFirst pages
  pub tight : AreTight pages class
  pub looked : HasLooked pages class page best

pub in_pass : (h : HeapState) (class page : ℕ) (best : Option Candidate) (chosen : ℕ) → IsGathering h.store.pages (length h.store.pages) h.phase → AtPass h class page best chosen → InPass h.store.pages class page best
in_pass h class page best chosen w (In_pass class0 page0 best0 chosen0 e) =
    let q : AreUsed h.store.pages (length h.store.pages) × ReceivesFirst h.store.pages × AreTight h.store.pages class × HasLooked h.store.pages class page best = subst (IsGathering h.store.pages (length h.store.pages)) e w in
    record { used = q.0; first = q.1; tight = q.2; looked = q.3 }
in_pass h class page best chosen w (After_page class0 page0 block chosen0 p e at on done few) =
    let q : AreUsed h.store.pages (length h.store.pages) × ReceivesFirst h.store.pages × AreTight h.store.pages class = subst (IsGathering h.store.pages (length h.store.pages)) e w in
    record { used = q.0; first = q.1; tight = q.2; looked = inl (λ k l. absurd (omega arith)) }

-- a page that may be chosen may be so while blocks are taken; and a page that comes into use makes its class tight
pub block_looked : (old new : List (Option Page)) (taken page index class place : ℕ) (best : Option Candidate) → TakesBlock old taken page index new → HasLooked old class place best → HasLooked new class place best
block_looked old new taken page index class place best t w = by_best best w
  where
    keeps : KeepsPages old new
    keeps = takes_keeps old new taken page index t

    within : page < length old
    within = page_for_within old taken page t.page_is

    stays : (k : ℕ) → is_choosable class (page_at old k) ≡ true → is_choosable class (page_at new k) ≡ true
    stays k e = by_page (page_at old k) refl e
      where
        by_page : (o : Option Page) → page_at old k ≡ o → is_choosable class o ≡ true → is_choosable class (page_at new k) ≡ true
        by_page None at e = absurd (cc)
        by_page (Some p) at e =
            let r = keeps.used k p at in
            let c = choosable_is class p e in
            let good : is_choosable class (Some r.0) ≡ true = (let a = r.2.class in let b = r.2.evacuating in let d = r.2.is_target in let x = c.own in let y = c.evacuating in let z = c.is_target in grind arith) in
            ap (is_choosable class) r.1 ∙ good

    -- a page that was in use may not be chosen then either
    in_use : (k : ℕ) (p : Page) → page_at old k ≡ Some p → is_choosable class (page_at old k) ≡ false → is_choosable class (page_at new k) ≡ false
    in_use k p at e =
        let r = keeps.used k p at in
        let n : is_choosable class (Some p) ≡ false = sym (ap (is_choosable class) at) ∙ e in
        let same : is_choosable class (Some r.0) ≡ is_choosable class (Some p) = (let a = r.2.class in let b = r.2.evacuating in let d = r.2.is_target in cc) in
        ap (is_choosable class) r.1 ∙ same ∙ n

    none_chosen : ((k : ℕ) → k < place → is_choosable class (page_at old k) ≡ false) → (FromUsed old taken page index new ⊎ FromFree old taken page index new) → (b : Bool) → (taken == class) ≡ b → ((k : ℕ) → k < place → is_choosable class (page_at new k) ≡ false) ⊎ IsTight new class
    none_chosen f (inl u) b e = inl (λ k l. by_page k l (k == page) refl (ap (λ z. page_at z k) u.is ∙ set_page old page k (Some (with_allocated u.source index true)) within))
      where
        by_page : (k : ℕ) → k < place → (s : Bool) → (k == page) ≡ s → page_at new k ≡ (if s then Some (with_allocated u.source index true) else page_at old k) → is_choosable class (page_at new k) ≡ false
        by_page k l true s g = in_use k u.source (ap (page_at old) (same_number k page s) ∙ u.at) (f k l)
        by_page k l false s g = ap (is_choosable class) g ∙ f k l
    none_chosen f (inr u) true e = inr (subst (IsTight new) (same_number taken class e) (opened_tight old new taken page index within u))
    none_chosen f (inr u) false e = inl (λ k l. by_page k l (k == page) refl (ap (λ z. page_at z k) u.is ∙ set_page old page k (Some (with_allocated (fresh_page taken) index true)) within))
      where
        by_page : (k : ℕ) → k < place → (s : Bool) → (k == page) ≡ s → page_at new k ≡ (if s then Some (with_allocated (fresh_page taken) index true) else page_at old k) → is_choosable class (page_at new k) ≡ false
        by_page k l true s g = ap (is_choosable class) g ∙ rw e refl
        by_page k l false s g = ap (is_choosable class) g ∙ f k l

    by_best : (o : Option Candidate) → HasLooked old class place o → HasLooked new class place o
    by_best (Some c) w = stays c.page w
    by_best None (inl f) = none_chosen f (took old new taken page index t) (taken == class) refl
    by_best None (inr q) = inr (block_tight old new taken page index class t q)
