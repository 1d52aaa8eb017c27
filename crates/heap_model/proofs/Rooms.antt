-- Room for blocks: if there is room, a page can give a block, and the rest has room once it is taken.
use Rattle.std.proofs.Common.{◌≡◌, ◌≢◌, ℕ, zero, suc, ◌+◌, ◌-◌, ◌*◌, ◌/◌, ◌<◌, ◌≤◌, ◌⊎◌, inl, inr, Bool, true, false, not, ◌&&◌, cond, eqb, leb, List, [], ◌∷◌, Option, Some, None, length, get_or, set, replicate, ap, ◌∙◌, sym, subst, arith, refl, mul-zero, add-one}
use Rattle.std.specs.Prelude.{position, is_some, count_by, sum_by, IsSome, slice_get}
use Rattle.std.specs.List.{position_or_len}
use Rattle.std.proofs.lemmas.Bool.{leb-true, le-leb, lt-ltb, eq-eqb, eqb-true, ne_eqb, cases_lt}
use Rattle.std.proofs.lemmas.Bool.Decides.{eqb_tells}
use Rattle.std.proofs.lemmas.List.Sums.{sum_by-cons, sum_by-set}
use Rattle.std.proofs.lemmas.List.Folds.{sum_by-replicate}
use Rattle.std.proofs.lemmas.List.Quantifiers.{position-Some}
use Rattle.std.proofs.lemmas.Option.{slice_get_within, get_or_from_slice_get}
use Rattle.std.proofs.Math.Nat.{eq-zero-or-pos, mul-one, div-eq_of_lt, add-div_right}
use Rattle.graph_heap.specs.declared.command.Shape.{Shape}
use Rattle.size_classes.specs.declared.class.TheConstants.{CLASSES}
use Rattle.size_classes.specs.Sizes.{blocks_in, class_for}
use Rattle.size_classes.specs.Parts.{cells_of, parts_in, part_words}
use Rattle.size_classes.specs.Need.{blocks_needed, needed, is_class}
use Rattle.size_classes.proofs.Table.{blocks_some}
use Rattle.heap_model.specs.Pages.{Page, IsOpen, is_free, is_usable, first_of, page_at, page_for, page_of_class, fresh_page, with_allocated, free_on, free_blocks, free_pages, whole_pages, pages_needed, has_room, TakesBlock}
use Rattle.heap_model.specs.Room.{needed_from}

abbrev one_if : Bool → ℕ
one_if b = cond b 1 0

-- the pages that a class needs
abbrev class_pages : List (Option Page) → (ℕ → ℕ) → ℕ → ℕ
class_pages pages need class = whole_pages class (need class - free_blocks pages class)

last : (c class : ℕ) → class < suc c → (c ≡ class) ⊎ (class < c)
last c class h = grind arith

plus_same : (a b c d : ℕ) → a ≡ b → c ≡ d → a + c ≡ b + d
plus_same a b c d e f = cc

first_less : (a b c d : ℕ) → a + 1 ≡ b → c ≡ d → a + c + 1 ≡ b + d
first_less a b c d e f = omega arith

second_less : (a b c d : ℕ) → a ≡ b → c + 1 ≡ d → a + c + 1 ≡ b + d
second_less a b c d e f = omega arith

-- if each class needs as many pages as before, so do all
terms_same : (old new : List (Option Page)) (m n : ℕ → ℕ) (classes : ℕ) → ((k : ℕ) → k < classes → class_pages new n k ≡ class_pages old m k) → pages_needed new n classes ≡ pages_needed old m classes
terms_same old new m n zero e = refl
terms_same old new m n (suc c) e =
    plus_same (pages_needed new n c) (pages_needed old m c) (class_pages new n c) (class_pages old m c) (terms_same old new m n c (λ k l. e k (omega arith))) (e c (omega arith))

-- if one class needs one page less, so do all
terms_less : (old new : List (Option Page)) (m n : ℕ → ℕ) (class classes : ℕ) → class < classes → class_pages new n class + 1 ≡ class_pages old m class
    → ((k : ℕ) → k < classes → k ≢ class → class_pages new n k ≡ class_pages old m k) → pages_needed new n classes + 1 ≡ pages_needed old m classes
terms_less old new m n class zero l here others = absurd (omega arith)
terms_less old new m n class (suc c) l here others = elim (last c class l) [
  | inl e ↦
      second_less (pages_needed new n c) (pages_needed old m c) (class_pages new n c) (class_pages old m c)
      (terms_same old new m n c (λ k b. others k (omega arith) (λ z. omega arith)))
      (subst (λ k. class_pages new n k + 1 ≡ class_pages old m k) (sym e) here)
  | inr b ↦
      first_less (pages_needed new n c) (pages_needed old m c) (class_pages new n c) (class_pages old m c)
      (terms_less old new m n class c b here (λ k d. others k (omega arith)))
      (others c (omega arith) (λ z. omega arith))
]

-- each class's pages are among those that are needed
term_below : (pages : List (Option Page)) (need : ℕ → ℕ) (classes class : ℕ) → class < classes → class_pages pages need class ≤ pages_needed pages need classes
term_below pages need zero class h = absurd (omega arith)
term_below pages need (suc c) class h = elim (last c class h) [
  | inl e ↦ subst (λ k. whole_pages k (need k - free_blocks pages k) ≤ pages_needed pages need (suc c)) e (omega arith)
  | inr l ↦ (let t = term_below pages need c class l in omega (arith, t))
]

-- needs that are the same for each class
pub room_same : (pages : List (Option Page)) (m n : ℕ → ℕ) → ((k : ℕ) → k < CLASSES → m k ≡ n k) → has_room pages m ≡ has_room pages n
room_same pages m n e = ap (λ x. leb x (free_pages pages)) (terms_same pages pages n m CLASSES (λ k l. ap (λ x. whole_pages k (x - free_blocks pages k)) (e k l)))

-- some item passes if a sum of what the passing ones add is above 0
first_within : {A : Type 0} (p : A → Bool) (f : A → ℕ) (xs : List A) → ((x : A) → p x ≡ false → f x ≡ 0) → 0 < sum_by f xs → position_or_len p xs < length xs
first_within p f [] none h = absurd (omega arith)
first_within p f (x ∷ xs) none h = by_test (p x) refl (λ r. first_within p f xs none r)
  where
    by_test : (b : Bool) → p x ≡ b → (0 < sum_by f xs → position_or_len p xs < length xs) → position_or_len p (x ∷ xs) < length (x ∷ xs)
    by_test true e more = subst (λ b. cond (not b) (1 + position_or_len p xs) 0 < suc (length xs)) (sym e) (omega arith)
    by_test false e more =
        let rest : 0 < sum_by f xs = (let c = sum_by-cons f x xs in let z = none x e in omega (arith, c, z, h)) in
        let t = more rest in
        subst (λ b. cond (not b) (1 + position_or_len p xs) 0 < suc (length xs)) (sym e) (omega (arith, t))

first_passing : {A : Type 0} (p : A → Bool) (f : A → ℕ) (xs : List A) → ((x : A) → p x ≡ false → f x ≡ 0) → 0 < sum_by f xs → IsSome (position p xs)
first_passing p f xs none h = rw (lt-ltb (position_or_len p xs) (length xs) (first_within p f xs none h)) refl

contrary : (b : Bool) → b ≡ true → b ≡ false → ⊥
contrary b p q = cc

no_free : (flags : List Bool) → is_some (position not flags) ≡ false → count_by not flags ≡ 0
no_free flags e = elim (eq-zero-or-pos (count_by not flags)) [
  | inl z ↦ z
  | inr h ↦ absurd (contrary (is_some (position not flags)) (first_passing not (λ b. cond (not b) 1 0) flags (λ b z. ap (λ t. cond t 1 0) z) h) e)
]

-- a page that can't be used adds no free block, and one in use is no free page
free_if_usable : (class : ℕ) (o : Option Page) → is_usable class o ≡ false → free_on class o ≡ 0
free_if_usable class None e = refl
free_if_usable class (Some p) e = by_tests (eqb p.class class) p.evacuating refl refl
  where
    by_tests : (b l : Bool) → eqb p.class class ≡ b → p.evacuating ≡ l → free_on class (Some p) ≡ 0
    by_tests false l eb el = ap (λ b. cond (b && not p.evacuating) (count_by not p.allocated) 0) eb
    by_tests true true eb el = ap (λ b. cond (b && not p.evacuating) (count_by not p.allocated) 0) eb ∙ ap (λ l. cond (true && not l) (count_by not p.allocated) 0) el
    by_tests true false eb el =
        let u : is_some (position not p.allocated) ≡ false = sym (ap (λ b. b && (not p.evacuating && is_some (position not p.allocated))) eb ∙ ap (λ l. true && (not l && is_some (position not p.allocated))) el) ∙ e in
        ap (λ b. cond (b && not p.evacuating) (count_by not p.allocated) 0) eb ∙ ap (λ l. cond (true && not l) (count_by not p.allocated) 0) el ∙ no_free p.allocated u

counted : (o : Option Page) → is_free o ≡ false → one_if (is_free o) ≡ 0
counted o e = ap one_if e

either_some : (o q : Option ℕ) → (IsSome o) ⊎ (IsSome q) → IsSome (first_of o q)
either_some None q (inl e) = absurd (cc)
either_some None q (inr e) = e
either_some (Some k) q w = refl

whole_one : (n b : ℕ) → 0 < n → 0 < b → 1 ≤ (n + (b - 1)) / b
whole_one n b p q = elim (eq-zero-or-pos ((n + (b - 1)) / b)) [
  | inl z ↦ absurd (let m : b * ((n + (b - 1)) / b) ≡ 0 = ap (λ x. b * x) z ∙ mul-zero b in omega (arith, m))
  | inr h ↦ h
]

free_one : (pages : List (Option Page)) (need : ℕ → ℕ) (class : ℕ) → class < CLASSES → 0 < need class → has_room pages need ≡ true → free_blocks pages class ≡ 0 → 0 < free_pages pages
free_one pages need class small some room z =
    let t = term_below pages need CLASSES class small in
    let r = leb-true (pages_needed pages need CLASSES) (free_pages pages) room in
    let o = whole_one (need class - free_blocks pages class) (blocks_in class) (omega (arith, z, some)) (blocks_some class small) in
    omega (arith, t, r, o)

-- if there is room and a block is needed, a page gives it
pub room_gives : (pages : List (Option Page)) (need : ℕ → ℕ) (class : ℕ) → class < CLASSES → 0 < need class → has_room pages need ≡ true → IsSome (page_for pages class)
room_gives pages need class small some room = elim (eq-zero-or-pos (free_blocks pages class)) [
  | inl z ↦ either_some _ _ (inr (first_passing is_free (λ o. one_if (is_free o)) pages counted (free_one pages need class small some room z)))
  | inr h ↦ either_some _ _ (inl (first_passing (is_usable class) (free_on class) pages (free_if_usable class) h))
]

-- one item of a list is replaced
pub set_sum : {A : Type 0} (f : A → ℕ) (xs : List A) (i : ℕ) (x y d : A) → i < length xs → get_or xs i d ≡ x → sum_by f (set xs i y) + f x ≡ sum_by f xs + f y
set_sum f xs i x y d l e = subst (λ z. sum_by f (set xs i y) + f z ≡ sum_by f xs + f y) e (sum_by-set f xs i y d l)

blocks_set : (pages : List (Option Page)) (page k : ℕ) (o v : Option Page) → page < length pages → page_at pages page ≡ o → free_blocks (set pages page v) k + free_on k o ≡ free_blocks pages k + free_on k v
blocks_set pages page k o v l e = set_sum (free_on k) pages page o v None l e

free_set : (pages : List (Option Page)) (page : ℕ) (o v : Option Page) → page < length pages → page_at pages page ≡ o → free_pages (set pages page v) + one_if (is_free o) ≡ free_pages pages + one_if (is_free v)
free_set pages page o v l e = set_sum (λ x. one_if (is_free x)) pages page o v None l e

less_one : (a b : ℕ) → a + 1 ≡ b + 0 → a + 1 ≡ b
less_one a b e = omega arith

same_zero : (a b : ℕ) → a + 0 ≡ b + 0 → a ≡ b
same_zero a b e = omega arith

-- a free block that is taken is one less on its page
flags_set : (flags : List Bool) (i : ℕ) → slice_get flags i ≡ Some false → count_by not (set flags i true) + 1 ≡ count_by not flags
flags_set flags i e = less_one (count_by not (set flags i true)) (count_by not flags) (set_sum (λ b. one_if (not b)) flags i false true false (slice_get_within flags i false e) (get_or_from_slice_get flags i false false e))

open_on : (p : Page) (class index : ℕ) → (eqb p.class class && not p.evacuating) ≡ true → IsOpen p index → free_on class (Some (with_allocated p index true)) + 1 ≡ free_on class (Some p)
open_on p class index t o = subst (λ b. cond b (count_by not (set p.allocated index true)) 0 + 1 ≡ cond b (count_by not p.allocated) 0) (sym t) (flags_set p.allocated index o)

other_on : (p : Page) (k : ℕ) → eqb p.class k ≡ false → free_on k (Some p) ≡ 0
other_on p k e = ap (λ b. cond (b && not p.evacuating) (count_by not p.allocated) 0) e

both_true : (x y : Bool) → (x && y) ≡ true → (x ≡ true) × (y ≡ true)
both_true true y h = (refl, h)
both_true false y h = absurd (cc)

both : (x y : Bool) → x ≡ true → y ≡ true → (x && y) ≡ true
both x y e f = ap (λ b. b && y) e ∙ f

other_class : (c class k : ℕ) → c ≡ class → k ≢ class → eqb c k ≡ false
other_class c class k e n = ne_eqb c k (λ z. n (sym z ∙ e))

-- a class's free blocks, and another's, once a block is taken
fewer : (a b x y : ℕ) → a + x ≡ b + y → y + 1 ≡ x → a + 1 ≡ b
fewer a b x y e f = omega arith

as_many : (a b x y : ℕ) → a + x ≡ b + y → x ≡ 0 → y ≡ 0 → a ≡ b
as_many a b x y e f g = omega arith

missing_same : (m n f g : ℕ) → m ≡ n + 1 → g + 1 ≡ f → n - g ≡ m - f
missing_same m n f g e h = omega arith

pages_same : (k m n f g : ℕ) → n ≡ m → g ≡ f → whole_pages k (n - g) ≡ whole_pages k (m - f)
pages_same k m n f g e h = ap (λ x. whole_pages k (x - g)) e ∙ ap (λ x. whole_pages k (m - x)) h

room_kept : (a b f g : ℕ) → leb a f ≡ true → b ≡ a → g ≡ f → leb b g ≡ true
room_kept a b f g r e h = le-leb b g (let t = leb-true a f r in omega arith)

room_less : (a b f g : ℕ) → leb a f ≡ true → b + 1 ≡ a → g + 1 ≡ f → leb b g ≡ true
room_less a b f g r e h = le-leb b g (let t = leb-true a f r in omega arith)

-- a block of a page in use is taken
room_used : (old : List (Option Page)) (m n : ℕ → ℕ) (class page index : ℕ) (p : Page) → has_room old m ≡ true → m class ≡ n class + 1 → ((k : ℕ) → k < CLASSES → k ≢ class → n k ≡ m k)
    → page < length old → page_at old page ≡ Some p → is_usable class (Some p) ≡ true → IsOpen p index → has_room (set old page (Some (with_allocated p index true))) n ≡ true
room_used old m n class page index p room here others l at usable o =
    room_kept (pages_needed old m CLASSES) (pages_needed new n CLASSES) (free_pages old) (free_pages new) room
    (terms_same old new m n CLASSES (λ k b. term k b (eqb_tells k class)))
    (same_zero (free_pages new) (free_pages old) (free_set old page (Some p) v l at))
  where
    v : Option Page
    v = Some (with_allocated p index true)

    new : List (Option Page)
    new = set old page v

    parts : (eqb p.class class ≡ true) × ((not p.evacuating && is_some (position not p.allocated)) ≡ true)
    parts = both_true (eqb p.class class) (not p.evacuating && is_some (position not p.allocated)) usable

    stays : not p.evacuating ≡ true
    stays = (both_true (not p.evacuating) (is_some (position not p.allocated)) parts.1).0

    own : free_blocks new class + 1 ≡ free_blocks old class
    own = fewer (free_blocks new class) (free_blocks old class) (free_on class (Some p)) (free_on class v) (blocks_set old page class (Some p) v l at) (open_on p class index (both (eqb p.class class) (not p.evacuating) parts.0 stays) o)

    other : (k : ℕ) → k ≢ class → free_blocks new k ≡ free_blocks old k
    other k d =
        let e = other_class p.class class k (eqb-true p.class class parts.0) d in
        as_many (free_blocks new k) (free_blocks old k) (free_on k (Some p)) (free_on k v) (blocks_set old page k (Some p) v l at) (other_on p k e) (other_on (with_allocated p index true) k e)

    term : (k : ℕ) → k < CLASSES → ((eqb k class ≡ true) × (k ≡ class)) ⊎ ((eqb k class ≡ false) × (k ≢ class)) → class_pages new n k ≡ class_pages old m k
    term k b (inl e) = subst (λ c. class_pages new n c ≡ class_pages old m c) (sym e.1) (ap (whole_pages class) (missing_same (m class) (n class) (free_blocks old class) (free_blocks new class) here own))
    term k b (inr d) = pages_same k (m k) (n k) (free_blocks old k) (free_blocks new k) (others k b d.1) (other k d.1)

-- one page holds b of the blocks
whole_down : (n b : ℕ) → 0 < n → 0 < b → (n - b + (b - 1)) / b + 1 ≡ (n + (b - 1)) / b
whole_down n b some pos = elim (cases_lt n b) [
  | inl l ↦
      let e : n - b + (b - 1) ≡ b - 1 = omega arith in
      let f : n + (b - 1) ≡ n - 1 + b = omega arith in
      let y : b - 1 < b = omega arith in
      let z : n - 1 < b = omega arith in
      ap (λ x. x / b + 1) e ∙ ap (λ x. x + 1) (div-eq_of_lt y) ∙ sym (ap (λ x. x / b) f ∙ add-div_right (n - 1) pos ∙ ap (λ x. x + 1) (div-eq_of_lt z))
  | inr l ↦
      let f : n + (b - 1) ≡ n - b + (b - 1) + b = omega arith in
      sym (ap (λ x. x / b) f ∙ add-div_right (n - b + (b - 1)) pos)
]

pages_less : (class m n f g : ℕ) → 0 < blocks_in class → m ≡ n + 1 → f ≡ 0 → g + 1 ≡ blocks_in class → whole_pages class (n - g) + 1 ≡ whole_pages class (m - f)
pages_less class m n f g pos e z h =
    let a : n - g ≡ m - blocks_in class = omega arith in
    let c : m ≡ m - f = omega arith in
    ap (λ x. whole_pages class x + 1) a ∙ whole_down m (blocks_in class) (omega arith) pos ∙ ap (whole_pages class) c

none_some : (o : Option ℕ) → IsSome o → o ≡ None → ⊥
none_some None s e = cc
none_some (Some k) s e = cc

pub no_blocks : (pages : List (Option Page)) (class : ℕ) → position (is_usable class) pages ≡ None → free_blocks pages class ≡ 0
no_blocks pages class e = elim (eq-zero-or-pos (free_blocks pages class)) [
  | inl z ↦ z
  | inr h ↦ absurd (none_some (position (is_usable class) pages) (first_passing (is_usable class) (free_on class) pages (free_if_usable class) h) e)
]

-- each block of a fresh page is free
fresh_on : (class : ℕ) → free_on class (Some (fresh_page class)) ≡ blocks_in class
fresh_on class =
    ap (λ b. cond (b && true) (count_by not (replicate (blocks_in class) false)) 0) (eq-eqb class class refl)
    ∙ sum_by-replicate (λ b. one_if (not b)) (blocks_in class) false ∙ mul-one (blocks_in class)

fresh_fewer : (a b y x n : ℕ) → a + 0 ≡ b + y → b ≡ 0 → y + 1 ≡ x → x ≡ n → a + 1 ≡ n
fresh_fewer a b y x n e z f g = omega arith

-- a block of a page that was free is taken
room_fresh : (old : List (Option Page)) (m n : ℕ → ℕ) (class page index : ℕ) → class < CLASSES → has_room old m ≡ true → m class ≡ n class + 1 → ((k : ℕ) → k < CLASSES → k ≢ class → n k ≡ m k)
    → position (is_usable class) old ≡ None → page < length old → page_at old page ≡ None → IsOpen (fresh_page class) index
    → has_room (set old page (Some (with_allocated (fresh_page class) index true))) n ≡ true
room_fresh old m n class page index small room here others none l at o =
    room_less (pages_needed old m CLASSES) (pages_needed new n CLASSES) (free_pages old) (free_pages new) room
    (terms_less old new m n class CLASSES small (pages_less class (m class) (n class) (free_blocks old class) (free_blocks new class) (blocks_some class small) here (no_blocks old class none) own)
    (λ k b d. pages_same k (m k) (n k) (free_blocks old k) (free_blocks new k) (others k b d) (other k d)))
    (less_one (free_pages new) (free_pages old) (free_set old page None v l at))
  where
    v : Option Page
    v = Some (with_allocated (fresh_page class) index true)

    new : List (Option Page)
    new = set old page v

    own : free_blocks new class + 1 ≡ blocks_in class
    own =
        fresh_fewer (free_blocks new class) (free_blocks old class) (free_on class v) (free_on class (Some (fresh_page class))) (blocks_in class)
        (blocks_set old page class None v l at) (no_blocks old class none) (open_on (fresh_page class) class index (ap (λ b. b && true) (eq-eqb class class refl)) o) (fresh_on class)

    other : (k : ℕ) → k ≢ class → free_blocks new k ≡ free_blocks old k
    other k d = as_many (free_blocks new k) (free_blocks old k) 0 (free_on k v) (blocks_set old page k None v l at) refl (other_on (with_allocated (fresh_page class) index true) k (other_class class class k refl d))

-- if there is room, there is room for the rest once a block is taken
pub room_left : (old new : List (Option Page)) (m n : ℕ → ℕ) (class page index : ℕ) → class < CLASSES → has_room old m ≡ true → m class ≡ n class + 1 → ((k : ℕ) → k < CLASSES → k ≢ class → n k ≡ m k)
    → TakesBlock old class page index new → has_room new n ≡ true
room_left old new m n class page index small room here others w =
    subst (λ z. has_room z n ≡ true) (sym w.new_is) (by_usable (position (is_usable class) old) refl w.page_is)
  where
    Left : Option Page → Type 0
    Left o = has_room (set old page (Some (with_allocated (page_of_class class o) index true))) n ≡ true

    by_page : (o : Option Page) → page_at old page ≡ o → page < length old → is_usable class o ≡ true → IsOpen (page_of_class class o) index → Left o
    by_page None e l u i = absurd (cc)
    by_page (Some p) e l u i = room_used old m n class page index p room here others l e u i

    by_free : (o : Option Page) → page_at old page ≡ o → position (is_usable class) old ≡ None → page < length old → is_free o ≡ true → IsOpen (page_of_class class o) index → Left o
    by_free None e q l u i = room_fresh old m n class page index small room here others q l e i
    by_free (Some p) e q l u i = absurd (cc)

    by_usable : (o : Option ℕ) → position (is_usable class) old ≡ o → first_of o (position is_free old) ≡ Some page → Left (page_at old page)
    by_usable None q e = let s = position-Some is_free old page None e in by_free (page_at old page) refl q s.0 s.1 w.was_free
    by_usable (Some j) q e = let s = position-Some (is_usable class) old page None (q ∙ e) in by_page (page_at old page) refl s.0 s.1 w.was_free

-- the blocks that one part more needs
pub more_needed : (cells part class k : ℕ) → class_for (part_words cells part) ≡ Some class → blocks_needed cells (part + 1) k ≡ blocks_needed cells part k + one_if (eqb class k)
more_needed cells part class k e = rw (add-one part) (ap (λ o. blocks_needed cells part k + one_if (is_class k o)) e)

needed_rises : (cells part parts k : ℕ) → part ≤ parts → blocks_needed cells part k ≤ blocks_needed cells parts k
needed_rises cells part zero k h = let e : 0 ≡ part = omega arith in subst (λ x. blocks_needed cells x k ≤ blocks_needed cells 0 k) e (omega arith)
needed_rises cells part (suc parts) k h = elim (cases_lt parts part) [
  | inl l ↦ (let e : suc parts ≡ part = omega arith in subst (λ x. blocks_needed cells x k ≤ blocks_needed cells (suc parts) k) e (omega arith))
  | inr l ↦ (let t = needed_rises cells part parts k l in omega (arith, t))
]

one_more : (a b c o : ℕ) → c ≡ b + o → o ≡ 1 → c ≤ a → a - b ≡ a - c + 1
one_more a b c o e f h = omega arith

no_more : (a b c o : ℕ) → c ≡ b + o → o ≡ 0 → a - c ≡ a - b
no_more a b c o e f = omega arith

-- the part's class needs one block less behind it, and each other class as many
next_own : (cells part parts class : ℕ) → part < parts → class_for (part_words cells part) ≡ Some class → needed_from cells part parts class ≡ needed_from cells (part + 1) parts class + 1
next_own cells part parts class h e =
    one_more (blocks_needed cells parts class) (blocks_needed cells part class) (blocks_needed cells (part + 1) class) (one_if (eqb class class))
    (more_needed cells part class class e) (ap one_if (eq-eqb class class refl)) (needed_rises cells (part + 1) parts class (omega arith))

next_other : (cells part parts class k : ℕ) → class_for (part_words cells part) ≡ Some class → k ≢ class → needed_from cells (part + 1) parts k ≡ needed_from cells part parts k
next_other cells part parts class k e d =
    no_more (blocks_needed cells parts k) (blocks_needed cells part k) (blocks_needed cells (part + 1) k) (one_if (eqb class k))
    (more_needed cells part class k e) (ap one_if (other_class class class k refl d))

pub next_given : (pages : List (Option Page)) (cells part parts class : ℕ) → part < parts → class < CLASSES → class_for (part_words cells part) ≡ Some class
    → has_room pages (needed_from cells part parts) ≡ true → IsSome (page_for pages class)
next_given pages cells part parts class h small e room = room_gives pages (needed_from cells part parts) class small (above _ _ (next_own cells part parts class h e)) room
  where
    above : (a b : ℕ) → a ≡ b + 1 → 0 < a
    above a b e = omega arith

pub next_left : (old new : List (Option Page)) (cells part parts class page index : ℕ) → part < parts → class < CLASSES → class_for (part_words cells part) ≡ Some class
    → has_room old (needed_from cells part parts) ≡ true → TakesBlock old class page index new → has_room new (needed_from cells (part + 1) parts) ≡ true
next_left old new cells part parts class page index h small e room w =
    room_left old new (needed_from cells part parts) (needed_from cells (part + 1) parts) class page index small room (next_own cells part parts class h e) (λ k b d. next_other cells part parts class k e d) w

pub first_same : (pages : List (Option Page)) (shape : Shape) → has_room pages (needed shape) ≡ has_room pages (needed_from (cells_of shape) 0 (parts_in (cells_of shape)))
first_same pages shape = room_same pages (needed shape) (needed_from (cells_of shape) 0 (parts_in (cells_of shape))) (λ k l. less_none (needed shape k))
  where
    less_none : (n : ℕ) → n ≡ n - 0
    less_none n = omega arith
