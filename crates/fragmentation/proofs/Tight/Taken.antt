-- A block that is taken: from a page that can be used, or of a page that was free.
use Rattle.std.proofs.Common.{◌≡◌, ℕ, ◌+◌, ◌<◌, ◌≤◌, ◌⊎◌, inl, inr, Bool, true, false, not, ◌&&◌, cond, ◌==◌, if◌then◌else◌, List, Option, Some, None, length, set, replicate, ap, ◌∙◌, sym, subst, arith, refl, mul-one}
use Rattle.std.specs.Prelude.{position, count_by, slice_get}
use Rattle.std.proofs.lemmas.Bool.{eq-eqb}
use Rattle.std.proofs.lemmas.List.Folds.{sum_by-replicate}
use Rattle.std.proofs.lemmas.List.Quantifiers.{position-Some}
use Rattle.std.proofs.lemmas.Option.{slice_get_within, get_or_from_slice_get, same_Some}
use Rattle.size_classes.specs.Sizes.{blocks_in}
use Rattle.heap_model.specs.Pages.{Page, IsOpen, is_free, is_usable, first_of, page_of_class, fresh_page, with_allocated, TakesBlock, page_at, free_on}
use Rattle.heap_model.proofs.Store.Allocated.{set_page, page_within}
use Rattle.heap_model.proofs.Placed.{page_for_within}
use Rattle.heap_model.proofs.Rooms.{set_sum, no_blocks}
use Rattle.heap_model.proofs.Action.Moving.{same_number, usable_fits}
use Rattle.space.proofs.Counts.{one_if, allocated_more}
use Rattle.fragmentation.specs.Tight.{IsTight}
use Rattle.fragmentation.specs.Gathering.{AreUsed, ReceivesFirst}
use Rattle.fragmentation.proofs.Tight.Free.{free_change, tight_less, free_some, usable_free}

-- the page that gave the block
pub record FromUsed (old : List (Option Page)) (class page index : ℕ) (new : List (Option Page)) : Type 0 where
  pub source : Page
  pub at : page_at old page ≡ Some source
  pub usable : is_usable class (Some source) ≡ true
  pub opened : IsOpen source index
  pub is : new ≡ set old page (Some (with_allocated source index true))

pub record FromFree (old : List (Option Page)) (class page index : ℕ) (new : List (Option Page)) : Type 0 where
  pub at : page_at old page ≡ None
  pub none : position (is_usable class) old ≡ None
  pub opened : IsOpen (fresh_page class) index
  pub is : new ≡ set old page (Some (with_allocated (fresh_page class) index true))

pub took : (old new : List (Option Page)) (class page index : ℕ) → TakesBlock old class page index new → FromUsed old class page index new ⊎ FromFree old class page index new
took old new class page index t = by_usable (position (is_usable class) old) refl (position is_free old) refl
  where
    by_page : (o : Option Page) → page_at old page ≡ o → is_usable class o ≡ true → FromUsed old class page index new
    by_page None e u = absurd (cc)
    by_page (Some p) e u = record {
      source = p;
      at = e;
      usable = u;
      opened = subst (λ z. IsOpen (page_of_class class z) index) e t.was_free;
      is = t.new_is ∙ ap (λ z. set old page (Some (with_allocated (page_of_class class z) index true))) e;
    }

    by_free : (o : Option Page) → page_at old page ≡ o → is_free o ≡ true → position (is_usable class) old ≡ None → FromFree old class page index new
    by_free (Some p) e u n = absurd (cc)
    by_free None e u n = record {
      at = e;
      none = n;
      opened = subst (λ z. IsOpen (page_of_class class z) index) e t.was_free;
      is = t.new_is ∙ ap (λ z. set old page (Some (with_allocated (page_of_class class z) index true))) e;
    }

    by_usable : (o : Option ℕ) → position (is_usable class) old ≡ o → (f : Option ℕ) → position is_free old ≡ f → FromUsed old class page index new ⊎ FromFree old class page index new
    by_usable (Some k) e f g =
        let here : position (is_usable class) old ≡ Some page = e ∙ (sym (ap (λ z. first_of z (position is_free old)) e) ∙ t.page_is) in
        inl (by_page (page_at old page) refl (position-Some (is_usable class) old page None here).1)
    by_usable None e f g =
        let here : position is_free old ≡ Some page = sym (ap (λ z. first_of z (position is_free old)) e) ∙ t.page_is in
        inr (by_free (page_at old page) refl (position-Some is_free old page None here).1 e)

-- one block less is free
pub free_less : (flags : List Bool) (i : ℕ) → slice_get flags i ≡ Some false → count_by not (set flags i true) + 1 ≡ count_by not flags
free_less flags i e = let s = set_sum (λ b. one_if (not b)) flags i false true false (slice_get_within flags i false e) (get_or_from_slice_get flags i false false e) in omega (arith, s)

pub free_on_less : (p : Page) (i k : ℕ) → IsOpen p i → free_on k (Some (with_allocated p i true)) ≤ free_on k (Some p)
free_on_less p i k o = by_test ((p.class == k) && not p.evacuating)
  where
    l : count_by not (set p.allocated i true) ≤ count_by not p.allocated
    l = let e = free_less p.allocated i o in omega (arith, e)

    by_test : (b : Bool) → cond b (count_by not (set p.allocated i true)) 0 ≤ cond b (count_by not p.allocated) 0
    by_test true = l
    by_test false = omega arith

-- a page that was just opened has one block less than all
pub fresh_few : (class index : ℕ) → IsOpen (fresh_page class) index → free_on class (Some (with_allocated (fresh_page class) index true)) + 1 ≡ blocks_in class
fresh_few class index o =
    let e = free_less (replicate (blocks_in class) false) index o in
    let n : count_by not (replicate (blocks_in class) false) ≡ blocks_in class = sum_by-replicate (λ b. one_if (not b)) (blocks_in class) false ∙ mul-one (blocks_in class) in
    let t : free_on class (Some (with_allocated (fresh_page class) index true)) ≡ count_by not (set (replicate (blocks_in class) false) index true) = ap (λ b. cond (b && true) (count_by not (set (replicate (blocks_in class) false) index true)) 0) (eq-eqb class class refl) in
    omega (arith, e, n, t)

pub fresh_other : (class k index : ℕ) → (class == k) ≡ false → free_on k (Some (with_allocated (fresh_page class) index true)) ≡ 0
fresh_other class k index e = ap (λ b. cond (b && true) (count_by not (set (replicate (blocks_in class) false) index true)) 0) e

-- a class for which a page was opened is tight then
pub opened_tight : (old new : List (Option Page)) (class page index : ℕ) → page < length old → FromFree old class page index new → IsTight new class
opened_tight old new class page index l f =
    let z = no_blocks old class f.none in
    let u = free_change old new page None _ l f.at f.is class in
    let n = fresh_few class index f.opened in
    omega (arith, z, u, n)

-- and a class that is tight stays so
pub block_tight : (old new : List (Option Page)) (class page index k : ℕ) → TakesBlock old class page index new → IsTight old k → IsTight new k
block_tight old new class page index k t tight = elim (took old new class page index t) [
  | inl u ↦ tight_less old new page (Some u.source) _ within u.at u.is k (free_on_less u.source index k u.opened) tight
  | inr f ↦ by_class f (class == k) refl
]
  where
    within : page < length old
    within = page_for_within old class page t.page_is

    by_class : FromFree old class page index new → (b : Bool) → (class == k) ≡ b → IsTight new k
    by_class f true e = subst (IsTight new) (same_number class k e) (opened_tight old new class page index within f)
    by_class f false e = tight_less old new page None _ within f.at f.is k (let z = fresh_other class k index e in omega (arith, z)) tight

-- each page in use goes on to have an allocated block
pub put_used : (old new : List (Option Page)) (page place : ℕ) (v : Page) → page < length old → new ≡ set old page (Some v) → 0 < count_by (λ b. b) v.allocated → AreUsed old place → AreUsed new place
put_used old new page place v l is some used = λ k p low at. by_place k p low at (k == page) (ap (λ z. page_at z k) is ∙ set_page old page k (Some v) l)
  where
    by_place : (k : ℕ) (p : Page) → k < place → page_at new k ≡ Some p → (t : Bool) → page_at new k ≡ (if t then Some v else page_at old k) → 0 < count_by (λ b. b) p.allocated
    by_place k p low at true e = subst (λ (z : Page). 0 < count_by (λ b. b) z.allocated) (same_Some v p (sym e ∙ at)) some
    by_place k p low at false e = used k p low (sym e ∙ at)

pub block_used : (old new : List (Option Page)) (class page index place : ℕ) → TakesBlock old class page index new → AreUsed old place → AreUsed new place
block_used old new class page index place t used = elim (took old new class page index t) [
  | inl u ↦ put_used old new page place (with_allocated u.source index true) within u.is (let h = allocated_more u.source.allocated index u.opened in omega (arith, h)) used
  | inr f ↦ put_used old new page place (with_allocated (fresh_page class) index true) within f.is (let h = allocated_more (fresh_page class).allocated index f.opened in omega (arith, h)) used
]
  where
    within : page < length old
    within = page_for_within old class page t.page_is

-- a target page goes on to be the first
pub block_first : (old new : List (Option Page)) (class page index : ℕ) → TakesBlock old class page index new → ReceivesFirst old → ReceivesFirst new
block_first old new class page index t first = elim (took old new class page index t) [
  | inl u ↦ (λ k j p q at r a at' b. from_used u k j p q at r a at' b (k == page) refl (is_at (Some (with_allocated u.source index true)) u.is k) (j == page) refl (is_at (Some (with_allocated u.source index true)) u.is j))
  | inr f ↦ (λ k j p q at r a at' b. from_free f k j p q at r a at' b (k == page) refl (is_at (Some (with_allocated (fresh_page class) index true)) f.is k) (j == page) refl (is_at (Some (with_allocated (fresh_page class) index true)) f.is j))
]
  where
    within : page < length old
    within = page_for_within old class page t.page_is

    is_at : (v : Option Page) → new ≡ set old page v → (k : ℕ) → page_at new k ≡ (if k == page then v else page_at old k)
    is_at v is k = ap (λ z. page_at z k) is ∙ set_page old page k v within

    from_used : (u : FromUsed old class page index new) (k j : ℕ) (p q : Page) → page_at new k ≡ Some p → p.is_target ≡ true → is_usable p.class (Some p) ≡ true → page_at new j ≡ Some q → is_usable p.class (Some q) ≡ true
        → (s : Bool) → (k == page) ≡ s → page_at new k ≡ (if s then Some (with_allocated u.source index true) else page_at old k) → (t : Bool) → (j == page) ≡ t → page_at new j ≡ (if t then Some (with_allocated u.source index true) else page_at old j) → k ≤ j
    from_used u k j p q at r a at' b true s e true t f = let x = same_number k page s in let y = same_number j page t in omega (arith, x, y)
    from_used u k j p q at r a at' b true s e false t f =
        let here = same_number k page s in
        let is : with_allocated u.source index true ≡ p = same_Some _ p (sym e ∙ at) in
        let fit = usable_fits class u.source u.usable in
        let c : u.source.class ≡ p.class = ap (λ (z : Page). z.class) is in
        let own : is_usable u.source.class (Some u.source) ≡ true = subst (λ z. is_usable z (Some u.source) ≡ true) (sym fit.0) u.usable in
        first k j u.source q (ap (page_at old) here ∙ u.at) (ap (λ (z : Page). z.is_target) is ∙ r) own (sym f ∙ at') (subst (λ z. is_usable z (Some q) ≡ true) (sym c) b)
    from_used u k j p q at r a at' b false s e true t f =
        let here = same_number j page t in
        let is : with_allocated u.source index true ≡ q = same_Some _ q (sym f ∙ at') in
        let c : u.source.class ≡ q.class = ap (λ (z : Page). z.class) is in
        let d = usable_fits p.class q b in
        let fit = usable_fits class u.source u.usable in
        let same : class ≡ p.class = sym fit.0 ∙ c ∙ d.0 in
        first k j p u.source (sym e ∙ at) r a (ap (page_at old) here ∙ u.at) (subst (λ z. is_usable z (Some u.source) ≡ true) same u.usable)
    from_used u k j p q at r a at' b false s e false t f = first k j p q (sym e ∙ at) r a (sym f ∙ at') b

    none_usable : FromFree old class page index new → (k : ℕ) (p : Page) → page_at old k ≡ Some p → is_usable class (Some p) ≡ true → ⊥
    none_usable f k p at u =
        let z = no_blocks old class f.none in
        let m = free_some old k class (page_within old k p at) in
        let here : free_on class (page_at old k) ≡ free_on class (Some p) = ap (free_on class) at in
        let some = usable_free class p u in
        omega (arith, z, m, here, some)

    from_free : (f : FromFree old class page index new) (k j : ℕ) (p q : Page) → page_at new k ≡ Some p → p.is_target ≡ true → is_usable p.class (Some p) ≡ true → page_at new j ≡ Some q → is_usable p.class (Some q) ≡ true
        → (s : Bool) → (k == page) ≡ s → page_at new k ≡ (if s then Some (with_allocated (fresh_page class) index true) else page_at old k) → (t : Bool) → (j == page) ≡ t → page_at new j ≡ (if t then Some (with_allocated (fresh_page class) index true) else page_at old j) → k ≤ j
    from_free f k j p q at r a at' b true s e t u g =
        let is : with_allocated (fresh_page class) index true ≡ p = same_Some _ p (sym e ∙ at) in
        absurd (let z : false ≡ true = ap (λ (z : Page). z.is_target) is ∙ r in cc)
    from_free f k j p q at r a at' b false s e true u g =
        let is : with_allocated (fresh_page class) index true ≡ q = same_Some _ q (sym g ∙ at') in
        let c : class ≡ q.class = ap (λ (z : Page). z.class) is in
        let d = usable_fits p.class q b in
        let same : p.class ≡ class = sym d.0 ∙ sym c in
        absurd (none_usable f k p (sym e ∙ at) (subst (λ z. is_usable z (Some p) ≡ true) same a))
    from_free f k j p q at r a at' b false s e false u g = first k j p q (sym e ∙ at) r a (sym g ∙ at') b
