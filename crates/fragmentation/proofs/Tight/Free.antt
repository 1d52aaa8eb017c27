-- Free blocks counted, and classes that are tight.
use Rattle.std.proofs.Common.{◌≡◌, ◌≢◌, ℕ, suc, ◌+◌, ◌-◌, ◌*◌, ◌/◌, ◌<◌, ◌≤◌, Bool, true, false, not, ◌&&◌, cond, ◌==◌, if◌then◌else◌, List, [], ◌∷◌, Option, Some, None, length, set, get_or, ap, ◌∙◌, sym, subst, arith, refl}
use Rattle.std.specs.Prelude.{position, count_by, sum_by, is_some, nat_le}
use Rattle.std.proofs.lemmas.Bool.{leb-true, eqb-true}
use Rattle.std.proofs.lemmas.List.Sums.{sum_by-cons, get_or-le-sum_by}
use Rattle.std.proofs.lemmas.List.Quantifiers.{position-Some}
use Rattle.std.proofs.lemmas.Nat.{le-div}
use Rattle.std.proofs.Math.Bool.{and-false}
use Rattle.std.proofs.Math.Nat.{div-mul-le_self, lt_of_mul-lt-mul_left}
use Rattle.size_classes.specs.declared.class.TheConstants.{CLASSES}
use Rattle.size_classes.specs.Sizes.{blocks_in}
use Rattle.size_classes.proofs.Table.{blocks_some}
use Rattle.heap_model.specs.declared.phase.Candidate.{Candidate}
use Rattle.heap_model.specs.Pages.{Page, IsPage, ArePages, is_usable, page_at, free_on, free_blocks, whole_pages}
use Rattle.heap_model.specs.Action.{allocated_on, is_choosable, is_chosen}
use Rattle.heap_model.proofs.Store.Allocated.{set_page, page_within}
use Rattle.heap_model.proofs.Rooms.{set_sum, no_blocks}
use Rattle.heap_model.proofs.Action.Moving.{usable_fits}
use Rattle.space.specs.Counts.{main_blocks}
use Rattle.space.proofs.Counts.{one_if, own, flags_all, both_true}
use Rattle.fragmentation.specs.Tight.{IsTight, staying_pages}
use Rattle.fragmentation.specs.Gathering.{AreUsed, ReceivesFirst}

quotient : (a b n : ℕ) → 0 < b → b * n ≤ a → a < b * n + b → n ≡ a / b
quotient a b n some low high =
    let l : n ≤ a / b = le-div n a b some (omega (arith, low)) in
    let m = div-mul-le_self a b in
    let h : b * (a / b) < b * (n + 1) = omega (arith, m, high) in
    let u : a / b < n + 1 = lt_of_mul-lt-mul_left b h in
    omega (arith, l, u)

pub tight_fewest : (pages : List (Option Page)) (class : ℕ) → class < CLASSES → ArePages pages → IsTight pages class → staying_pages pages class ≡ whole_pages class (main_blocks pages class)
tight_fewest pages class small w t =
    let o = own class pages w in
    let some = blocks_some class small in
    quotient (main_blocks pages class + (blocks_in class - 1)) (blocks_in class) (staying_pages pages class) some (omega (arith, o, some, t)) (omega (arith, o, some, t))

-- One page replaces another in the list.
module _ (old new : List (Option Page)) (page : ℕ) (o v : Option Page) (l : page < length old) (at : page_at old page ≡ o) (is : new ≡ set old page v) where
  pub free_change : (k : ℕ) → free_blocks new k + free_on k o ≡ free_blocks old k + free_on k v
  free_change k = ap (λ z. free_blocks z k + free_on k o) is ∙ set_sum (free_on k) old page o v None l at

  pub tight_less : (k : ℕ) → free_on k v ≤ free_on k o → IsTight old k → IsTight new k
  tight_less k less t = let u = free_change k in omega (arith, u, less, t)

-- the free blocks of a page are some of its class's
pub free_some : (pages : List (Option Page)) (page class : ℕ) → page < length pages → free_on class (page_at pages page) ≤ free_blocks pages class
free_some pages page class l = let u = free_change pages (set pages page None) page (page_at pages page) None l refl refl class in omega (arith, u)

-- no free block of an evacuating page counts
pub evacuating_free : (p : Page) (class : ℕ) → free_on class (Some (record p { evacuating = true })) ≡ 0
evacuating_free p class = ap (λ b. cond b (count_by not p.allocated) 0) (and-false (p.class == class))

-- a page that may be chosen
pub record Choosable (class : ℕ) (p : Page) : Type 0 where
  pub own : p.class ≡ class
  pub evacuating : p.evacuating ≡ false
  pub is_target : p.is_target ≡ false

pub choosable_is : (class : ℕ) (p : Page) → is_choosable class (Some p) ≡ true → Choosable class p
choosable_is class p e =
    let a = both_true (p.class == class) (not p.evacuating && not p.is_target) e in
    let b = both_true (not p.evacuating) (not p.is_target) a.1 in
    record { own = eqb-true p.class class a.0; evacuating = no p.evacuating b.0; is_target = no p.is_target b.1 }
  where
    no : (b : Bool) → not b ≡ true → b ≡ false
    no true h = absurd (cc)
    no false h = refl

-- its blocks are free, and of its class, or allocated
pub choosable_all : (class : ℕ) (p : Page) → IsPage p → is_choosable class (Some p) ≡ true → free_on class (Some p) + allocated_on (Some p) ≡ blocks_in class
choosable_all class p w e =
    let c = choosable_is class p e in
    let t : ((p.class == class) && not p.evacuating) ≡ true = grind (arith, c.own, c.evacuating) in
    let f : free_on class (Some p) ≡ count_by not p.allocated = ap (λ b. cond b (count_by not p.allocated) 0) t in
    let a = flags_all p.allocated in
    let l = w.blocks in
    let m : length p.allocated ≡ blocks_in class = l ∙ ap blocks_in c.own in
    omega (arith, f, a, m)

no_page : (class : ℕ) → is_choosable class None ≡ true → ⊥
no_page class e = absurd (cc)

-- a page is chosen only if as many blocks of its class are free as a page has
pub chosen_free : (pages : List (Option Page)) (class : ℕ) (c : Candidate) → ArePages pages → is_chosen pages class (Some c) ≡ true → blocks_in class ≤ free_blocks pages class
chosen_free pages class c w e = by_page (page_at pages c.page) refl
  where
    parts : (is_choosable class (page_at pages c.page) ≡ true) × (nat_le (allocated_on (page_at pages c.page)) (free_blocks pages class - free_on class (page_at pages c.page)) ≡ true)
    parts = both_true (is_choosable class (page_at pages c.page)) (nat_le (allocated_on (page_at pages c.page)) (free_blocks pages class - free_on class (page_at pages c.page))) e

    by_page : (o : Option Page) → page_at pages c.page ≡ o → blocks_in class ≤ free_blocks pages class
    by_page None at = absurd (no_page class (sym (ap (is_choosable class) at) ∙ parts.0))
    by_page (Some p) at =
        let good : is_choosable class (Some p) ≡ true = sym (ap (is_choosable class) at) ∙ parts.0 in
        let all = choosable_all class p (w.each c.page p at) good in
        let l = leb-true _ _ parts.1 in
        let within = free_some pages c.page class (page_within pages c.page p at) in
        let f : free_on class (page_at pages c.page) ≡ free_on class (Some p) = ap (free_on class) at in
        let h : allocated_on (page_at pages c.page) ≡ allocated_on (Some p) = ap allocated_on at in
        omega (arith, all, l, within, f, h)

-- and if it isn't, the class is tight
pub refused_tight : (pages : List (Option Page)) (class : ℕ) (c : Candidate) → ArePages pages → is_choosable class (page_at pages c.page) ≡ true → is_chosen pages class (Some c) ≡ false → IsTight pages class
refused_tight pages class c w good e = by_page (page_at pages c.page) refl
  where
    few : nat_le (allocated_on (page_at pages c.page)) (free_blocks pages class - free_on class (page_at pages c.page)) ≡ false
    few = sym (ap (λ b. b && nat_le (allocated_on (page_at pages c.page)) (free_blocks pages class - free_on class (page_at pages c.page))) good) ∙ e

    less : (a b : ℕ) → nat_le a b ≡ false → b < a
    less a b h = grind arith

    by_page : (o : Option Page) → page_at pages c.page ≡ o → IsTight pages class
    by_page None at = absurd (no_page class (sym (ap (is_choosable class) at) ∙ good))
    by_page (Some p) at =
        let g : is_choosable class (Some p) ≡ true = sym (ap (is_choosable class) at) ∙ good in
        let all = choosable_all class p (w.each c.page p at) g in
        let l = less _ _ few in
        let f : free_on class (page_at pages c.page) ≡ free_on class (Some p) = ap (free_on class) at in
        let h : allocated_on (page_at pages c.page) ≡ allocated_on (Some p) = ap allocated_on at in
        omega (arith, all, l, f, h)

-- all pages except one add nothing
all_none : (f : Option Page → ℕ) (pages : List (Option Page)) → ((j : ℕ) → f (page_at pages j) ≡ 0) → sum_by f pages ≡ 0
all_none f [] e = refl
all_none f (o ∷ os) e = let r = all_none f os (λ j. e (suc j)) in let h : f o ≡ 0 = e 0 in let a = sum_by-cons f o os in omega (arith, r, h, a)

pub one_page : (pages : List (Option Page)) (class k : ℕ) → k < length pages → ((j : ℕ) → j ≢ k → free_on class (page_at pages j) ≡ 0) → free_blocks pages class ≡ free_on class (page_at pages k)
one_page pages class k l e =
    let u = free_change pages (set pages k None) k (page_at pages k) None l refl refl class in
    let z : free_blocks (set pages k None) class ≡ 0 = all_none (free_on class) (set pages k None) none in
    omega (arith, u, z)
  where
    none : (j : ℕ) → free_on class (page_at (set pages k None) j) ≡ 0
    none j = by_place (j == k) refl (set_page pages k j None l)
      where
        by_place : (t : Bool) → (j == k) ≡ t → page_at (set pages k None) j ≡ (if t then None else page_at pages j) → free_on class (page_at (set pages k None) j) ≡ 0
        by_place true t f = ap (free_on class) f
        by_place false t f = let ne : j ≢ k = grind arith in ap (free_on class) f ∙ e j ne

-- a page that can't be used has no free block that counts
pub unusable : (pages : List (Option Page)) (class j : ℕ) → is_usable class (page_at pages j) ≡ false → free_on class (page_at pages j) ≡ 0
unusable pages class j e = no_blocks' (page_at pages j) e
  where
    no_blocks' : (o : Option Page) → is_usable class o ≡ false → free_on class o ≡ 0
    no_blocks' o e = let z = no_blocks (o ∷ []) class (none o e) in let a = sum_by-cons (free_on class) o [] in omega (arith, z, a)
      where
        none : (o : Option Page) → is_usable class o ≡ false → position (is_usable class) (o ∷ []) ≡ None
        none o e = rw e refl

-- a page that can be used has a free block
pub usable_free : (class : ℕ) (p : Page) → is_usable class (Some p) ≡ true → 0 < free_on class (Some p)
usable_free class p u = by_position (position not p.allocated) refl
  where
    fit : (p.class ≡ class) × (p.evacuating ≡ false)
    fit = usable_fits class p u

    t : ((p.class == class) && not p.evacuating) ≡ true
    t = grind (arith, fit.0, fit.1)

    s : is_some (position not p.allocated) ≡ true
    s = (both_true (not p.evacuating) (is_some (position not p.allocated)) (both_true (p.class == class) (not p.evacuating && is_some (position not p.allocated)) u).1).1

    by_position : (o : Option ℕ) → position not p.allocated ≡ o → 0 < free_on class (Some p)
    by_position None e = absurd (let z : false ≡ true = ap is_some (sym e) ∙ s in cc)
    by_position (Some i) e =
        let q = position-Some not p.allocated i false e in
        let m = get_or-le-sum_by (λ b. one_if (not b)) p.allocated i false q.0 in
        let one : one_if (not (get_or p.allocated i false)) ≡ 1 = ap one_if q.1 in
        let f : free_on class (Some p) ≡ count_by not p.allocated = ap (λ b. cond b (count_by not p.allocated) 0) t in
        omega (arith, m, one, f)

-- If no page may be chosen, since each one that stays is a target, the class is tight: only the first page can have free
-- blocks, and it has an allocated one.
pub receivers_tight : (pages : List (Option Page)) (class : ℕ) → class < CLASSES → ArePages pages → AreUsed pages (length pages) → ReceivesFirst pages → ((k : ℕ) → k < length pages → is_choosable class (page_at pages k) ≡ false) → IsTight pages class
receivers_tight pages class small w used first none = by_position (position (is_usable class) pages) refl
  where
    some : 0 < blocks_in class
    some = blocks_some class small

    -- a page that can be used is a target
    receives : (k : ℕ) (p : Page) → page_at pages k ≡ Some p → is_usable class (Some p) ≡ true → p.is_target ≡ true
    receives k p at u = by_target_page p.is_target refl
      where
        by_target_page : (b : Bool) → p.is_target ≡ b → p.is_target ≡ true
        by_target_page true e = e
        by_target_page false e =
            let fit = usable_fits class p u in
            let n : is_choosable class (Some p) ≡ false = sym (ap (is_choosable class) at) ∙ none k (page_within pages k p at) in
            let y : is_choosable class (Some p) ≡ true = grind (arith, fit.0, fit.1, e) in
            absurd (let z : false ≡ true = sym n ∙ y in cc)

    own_class : (p : Page) → is_usable class (Some p) ≡ true → is_usable p.class (Some p) ≡ true
    own_class p u = let fit = usable_fits class p u in subst (λ z. is_usable z (Some p) ≡ true) (sym fit.0) u

    by_page : (k : ℕ) (o : Option Page) → page_at pages k ≡ o → is_usable class o ≡ true → k < length pages → IsTight pages class
    by_page k None at u l = absurd (cc)
    by_page k (Some p) at u l =
        let fit = usable_fits class p u in
        let t : ((p.class == class) && not p.evacuating) ≡ true = grind (arith, fit.0, fit.1) in
        let f : free_on class (Some p) ≡ count_by not p.allocated = ap (λ b. cond b (count_by not p.allocated) 0) t in
        let one : free_blocks pages class ≡ free_on class (page_at pages k) = one_page pages class k l others in
        let here : free_on class (page_at pages k) ≡ free_on class (Some p) = ap (free_on class) at in
        let all = flags_all p.allocated in
        let b = (w.each k p at).blocks in
        let m : length p.allocated ≡ blocks_in class = b ∙ ap blocks_in fit.0 in
        let h = used k p l at in
        omega (arith, f, one, here, all, m, h)
      where
        others : (j : ℕ) → j ≢ k → free_on class (page_at pages j) ≡ 0
        others j ne = by_other (page_at pages j) refl
          where
            by_other : (o : Option Page) → page_at pages j ≡ o → free_on class (page_at pages j) ≡ 0
            by_other None at' = ap (free_on class) at'
            by_other (Some q) at' = by_use (is_usable class (Some q)) refl
              where
                by_use : (b : Bool) → is_usable class (Some q) ≡ b → free_on class (page_at pages j) ≡ 0
                by_use false e = unusable pages class j (ap (is_usable class) at' ∙ e)
                by_use true e =
                    let a = usable_fits class p u in
                    let b = usable_fits class q e in
                    let qp : is_usable p.class (Some q) ≡ true = subst (λ z. is_usable z (Some q) ≡ true) (sym a.0) e in
                    let pq : is_usable q.class (Some p) ≡ true = subst (λ z. is_usable z (Some p) ≡ true) (sym b.0) u in
                    let x = first k j p q at (receives k p at u) (own_class p u) at' qp in
                    let y = first j k q p at' (receives j q at' e) (own_class q e) at pq in
                    absurd (ne (omega (arith, x, y)))

    by_position : (o : Option ℕ) → position (is_usable class) pages ≡ o → IsTight pages class
    by_position None e = let z = no_blocks pages class e in omega (arith, z, some)
    by_position (Some k) e = let q = position-Some (is_usable class) pages k None e in by_page k (page_at pages k) refl q.1 q.0
