-- Copies are counted from address to address.
use Rattle.std.proofs.Common.{◌≡◌, ℕ, zero, suc, ◌+◌, ◌-◌, ◌*◌, ◌/◌, ◌%◌, ◌<◌, ◌≤◌, ◌==◌, ◌⊎◌, inl, inr, if◌then◌else◌, Bool, true, false, ◌&&◌, not, List, Option, Some, None, length, get_or, ap, ◌∙◌, sym, subst, arith, refl, add-one}
use Rattle.std.specs.Prelude.{IfSome, IsSomeAnd, slice_get, option_map}
use Rattle.std.proofs.lemmas.Bool.{eqb-true, and_parts}
use Rattle.std.proofs.lemmas.List.{get_or_past}
use Rattle.std.proofs.lemmas.Option.{slice_get-get_or}
use Rattle.std.proofs.Math.Nat.{div-mul-le_self, mul-le-mul_right}
use Rattle.std.specs.Int.{from_bool}
use Rattle.size_classes.specs.Sizes.{size_of, blocks_in}
use Rattle.size_classes.proofs.Table.{size_low}
use Rattle.heap_model.specs.Pages.{Page, IsPage, page_at}
use Rattle.heap_model.specs.Store.{Store, IsStore, size_in, allocated_in, is_allocated, record_of, address_of}
use Rattle.heap_model.proofs.Store.Allocated.{is_page, store_pages}
use Rattle.nodes.specs.Copies.{count_below, is_main, is_old, is_object, copies_below}
use Rattle.nodes.specs.declared.nodes.counting.Copies.{Copies}
use Rattle.nodes.proofs.Blocks.{fit, allocated_is}

abbrev copies_of : ℕ → ℕ → ℕ → Copies
copies_of objects parts old = record { objects = objects; parts = parts; old = old }

same_copies : (o p q o' p' q' : ℕ) → o ≡ o' → p ≡ p' → q ≡ q' → copies_of o p q ≡ copies_of o' p' q'
same_copies o p q o' p' q' x y z = cc

count_more : (p : ℕ → Bool) (b : ℕ) → count_below p (b + 1) ≡ count_below p b + (if p b then 1 else 0)
unfolding count_below
count_more p b = rw add-one refl

at_most_one : (b : Bool) → (if b then 1 else 0) ≤ 1
at_most_one true = omega arith
at_most_one false = omega arith

count_few : (p : ℕ → Bool) (n : ℕ) → count_below p n ≤ n
unfolding count_below
count_few p zero = omega arith
count_few p (suc n) = omega (arith, count_few p n, at_most_one (p n))

pub few_below : (s : Store) (n : ℕ) (c : Copies) → c ≡ copies_below s n → (c.objects ≤ n) × (c.parts ≤ n) × (c.old ≤ n)
few_below s n c e = (
  (let f : c.objects ≡ count_below (is_object s) n = ap (λ (x : Copies). x.objects) e in omega (arith, f, count_few (is_object s) n)),
  (let f : c.parts ≡ count_below (is_main s) n = ap (λ (x : Copies). x.parts) e in omega (arith, f, count_few (is_main s) n)),
  (let f : c.old ≡ count_below (is_old s) n = ap (λ (x : Copies). x.old) e in omega (arith, f, count_few (is_old s) n)),
)

pub none_below : (s : Store) → copies_of 0 0 0 ≡ copies_below s 0
unfolding count_below
none_below s = refl

count_none : (p : ℕ → Bool) (a n : ℕ) → ((b : ℕ) → a ≤ b → b < a + n → p b ≡ false) → count_below p (a + n) ≡ count_below p a
count_none p a zero none = ap (count_below p) (let e : a + zero ≡ a = omega arith in e)
count_none p a (suc n) none =
    let last : p (a + n) ≡ false = none (a + n) (omega arith) (omega arith) in
    ap (count_below p) (let e : a + suc n ≡ (a + n) + 1 = omega arith in e) ∙ count_more p (a + n)
    ∙ ap (λ b. count_below p (a + n) + (if b then 1 else 0)) last ∙ (let e : count_below p (a + n) + 0 ≡ count_below p (a + n) = omega arith in e)
    ∙ count_none p a n (λ b l u. none b l (omega (arith, u)))

-- if no block is allocated, nothing is counted
none_allocated : (s : Store) (a n : ℕ) → ((b : ℕ) → a ≤ b → b < a + n → is_allocated s b ≡ false) → copies_below s (a + n) ≡ copies_below s a
unfolding is_main is_old is_object
none_allocated s a n none =
    same_copies _ _ _ _ _ _
    (count_none (is_object s) a n (λ b l u. ap (λ h. (h && (record_of s b).forward == b) && (record_of s b).part == 0) (none b l u)))
    (count_none (is_main s) a n (λ b l u. ap (λ h. h && (record_of s b).forward == b) (none b l u)))
    (count_none (is_old s) a n (λ b l u. ap (λ h. h && not ((record_of s b).forward == b)) (none b l u)))

-- an allocated block counts as what it is
one_more : (s : Store) (b : ℕ) → is_allocated s b ≡ true → copies_below s (b + 1) ≡ copies_of
    (count_below (is_object s) b + (if ((record_of s b).forward == b) && ((record_of s b).part == 0) then 1 else 0))
    (count_below (is_main s) b + (if (record_of s b).forward == b then 1 else 0))
    (count_below (is_old s) b + (if not ((record_of s b).forward == b) then 1 else 0))
unfolding is_main is_old is_object
one_more s b allocated =
    same_copies _ _ _ _ _ _
    (count_more (is_object s) b ∙ ap (λ h. count_below (is_object s) b + (if (h && (record_of s b).forward == b) && (record_of s b).part == 0 then 1 else 0)) allocated)
    (count_more (is_main s) b ∙ ap (λ h. count_below (is_main s) b + (if h && (record_of s b).forward == b then 1 else 0)) allocated)
    (count_more (is_old s) b ∙ ap (λ h. count_below (is_old s) b + (if h && not ((record_of s b).forward == b) then 1 else 0)) allocated)

pub number_few : (b : Bool) → from_bool b ≤ 1
number_few true = omega arith
number_few false = omega arith

pub as_number : (b : Bool) → from_bool b ≡ (if b then 1 else 0)
as_number true = refl
as_number false = refl

-- the same, by what the code adds
pub block_counted : (s : Store) (b : ℕ) (c : Copies) (main first : Bool) (x y z : ℕ) → is_allocated s b ≡ true → c ≡ copies_below s b → ((record_of s b).forward == b) ≡ main → ((record_of s b).part == 0) ≡ first
    → x ≡ from_bool (main && first) → y ≡ from_bool main → z ≡ from_bool (not main) → copies_of (c.objects + x) (c.parts + y) (c.old + z) ≡ copies_below s (b + 1)
block_counted s b c main first x y z allocated before em ef ex ey ez =
    sym (one_more s b allocated ∙ same_copies _ _ _ _ _ _
    (ap (λ n. n + (if ((record_of s b).forward == b) && ((record_of s b).part == 0) then 1 else 0)) (sym (ap (λ (k : Copies). k.objects) before))
    ∙ ap (λ m. c.objects + (if m && ((record_of s b).part == 0) then 1 else 0)) em ∙ ap (λ m. c.objects + (if main && m then 1 else 0)) ef ∙ ap (λ n. c.objects + n) (sym (ex ∙ as_number (main && first))))
    (ap (λ n. n + (if (record_of s b).forward == b then 1 else 0)) (sym (ap (λ (k : Copies). k.parts) before)) ∙ ap (λ m. c.parts + (if m then 1 else 0)) em ∙ ap (λ n. c.parts + n) (sym (ey ∙ as_number main)))
    (ap (λ n. n + (if not ((record_of s b).forward == b) then 1 else 0)) (sym (ap (λ (k : Copies). k.old) before)) ∙ ap (λ m. c.old + (if not m then 1 else 0)) em ∙ ap (λ n. c.old + n) (sym (ez ∙ as_number (not main)))))

pub not_true : (b : Bool) → (b ≡ true → ⊥) → b ≡ false
not_true true never = absurd (never refl)
not_true false never = refl

whole_places : (n s : ℕ) → n % s ≡ 0 → n ≡ n / s * s
whole_places n s e = grind arith

pub flag_within : (flags : List Bool) (i : ℕ) → get_or flags i false ≡ true → i < length flags
flag_within flags i e = let p = get_or_past flags i false in grind arith

no_between : (i j z : ℕ) → i * z < j * z → j * z < (i + 1) * z → ⊥
no_between i j z l u = by_order (nat_order i j)
  where
    nat_order : (i j : ℕ) → (j ≤ i) ⊎ (i + 1 ≤ j)
    nat_order i j = grind arith

    by_order : (j ≤ i) ⊎ (i + 1 ≤ j) → ⊥
    by_order (inl h) = let m = mul-le-mul_right z h in absurd (omega (arith, m, l))
    by_order (inr h) = let m = mul-le-mul_right z h in absurd (omega (arith, m, u))

-- the blocks of a page
module _ (s : Store) (whole : IsStore s) (k : ℕ) (p : Page) (there : page_at s.pages k ≡ Some p) where
  is_one : IsPage p
  is_one = is_page s k p (store_pages s whole) there

  low : 4 ≤ size_of p.class
  low = size_low p.class is_one.class

  pub blocks_are : length p.allocated ≡ blocks_in p.class
  blocks_are = is_one.blocks

  whole_page : length p.allocated * size_of p.class ≤ 2048
  unfolding blocks_in
  whole_page = let m = div-mul-le_self 2048 (size_of p.class) in subst (λ n. n * size_of p.class ≤ 2048) (sym is_one.blocks) m

  allocated_there : (b : ℕ) → b / 2048 ≡ k → is_allocated s b ≡ true → (j : ℕ) × (b % 2048 ≡ j * size_of p.class) × (j < length p.allocated)
  unfolding is_allocated
  allocated_there b e h =
      let f : allocated_in (Some p) (b % 2048) ≡ true = subst (λ o. allocated_in o (b % 2048) ≡ true) there (subst (λ n. allocated_in (page_at s.pages n) (b % 2048) ≡ true) e h) in
      let g = and_parts (b % 2048 % size_of p.class == 0) (get_or p.allocated (b % 2048 / size_of p.class) false) f in
      (b % 2048 / size_of p.class, whole_places (b % 2048) (size_of p.class) (eqb-true (b % 2048 % size_of p.class) 0 g.0), flag_within p.allocated (b % 2048 / size_of p.class) g.1)

  -- no block begins within another, and none behind the last
  between : (i : ℕ) → i < length p.allocated → (b : ℕ) → 2048 * k + i * size_of p.class < b → b < 2048 * k + (i + 1) * size_of p.class → is_allocated s b ≡ false
  between i l b lo hi = not_true (is_allocated s b) (λ h.
      let f : (i + 1) * size_of p.class ≤ 2048 = fit s whole k i p there l in
      let e : b / 2048 ≡ k = omega (arith, f, lo, hi) in
      let j = allocated_there b e h in
      no_between i j.0 (size_of p.class) (omega (arith, e, j.1, lo)) (omega (arith, e, j.1, hi)))

  behind : (b : ℕ) → 2048 * k + length p.allocated * size_of p.class ≤ b → b < 2048 * k + 2048 → is_allocated s b ≡ false
  behind b lo hi = not_true (is_allocated s b) (λ h.
      let e : b / 2048 ≡ k = omega (arith, lo, hi) in
      let j = allocated_there b e h in
      let next : j.0 + 1 ≤ length p.allocated = omega (arith, j.2) in
      let m = mul-le-mul_right (size_of p.class) next in
      absurd (omega (arith, m, e, j.1, lo, low)))

  pub next_allocated : (i : ℕ) → i < length p.allocated → copies_below s (2048 * k + (i + 1) * size_of p.class) ≡ copies_below s (address_of p.class k i + 1)
  next_allocated i l =
      let e : 2048 * k + (i + 1) * size_of p.class ≡ (address_of p.class k i + 1) + (size_of p.class - 1) = omega (arith, low) in
      ap (copies_below s) e
      ∙ none_allocated s (address_of p.class k i + 1) (size_of p.class - 1) (λ b lo hi. between i l b (omega (arith, lo)) (omega (arith, hi, low)))

  pub next_none : (i : ℕ) → i < length p.allocated → get_or p.allocated i false ≡ false → copies_below s (2048 * k + (i + 1) * size_of p.class) ≡ copies_below s (2048 * k + i * size_of p.class)
  next_none i l free =
      let not_allocated : is_allocated s (address_of p.class k i) ≡ false = allocated_is s whole k i p there l ∙ free in
      next_allocated i l ∙ none_allocated s (address_of p.class k i) 1 (λ b lo hi. let e : b ≡ address_of p.class k i = omega (arith, lo, hi) in ap (is_allocated s) e ∙ not_allocated)

  pub page_done : copies_below s (2048 * (k + 1)) ≡ copies_below s (2048 * k + length p.allocated * size_of p.class)
  page_done =
      let e : 2048 * (k + 1) ≡ (2048 * k + length p.allocated * size_of p.class) + (2048 - length p.allocated * size_of p.class) = omega (arith, whole_page) in
      ap (copies_below s) e ∙ none_allocated s (2048 * k + length p.allocated * size_of p.class) (2048 - length p.allocated * size_of p.class) (λ b lo hi. behind b lo (omega (arith, hi, whole_page)))

-- the same, by the class that the code knows
module _ (s : Store) (whole : IsStore s) (k : ℕ) where
  pub free_done : option_map (λ (p : Page). p.class) (page_at s.pages k) ≡ None → copies_below s (2048 * (k + 1)) ≡ copies_below s (2048 * k)
  unfolding is_allocated
  free_done none =
      let free : page_at s.pages k ≡ None = no_page (page_at s.pages k) none in
      let e : 2048 * (k + 1) ≡ 2048 * k + 2048 = omega arith in
      ap (copies_below s) e
      ∙ none_allocated s (2048 * k) 2048 (λ b lo hi. (let d : b / 2048 ≡ k = omega (arith, lo, hi) in ap (λ n. allocated_in (page_at s.pages n) (b % 2048)) d ∙ ap (λ o. allocated_in o (b % 2048)) free))
    where
      no_page : (o : Option Page) → option_map (λ (p : Page). p.class) o ≡ None → o ≡ None
      no_page None e = refl
      no_page (Some p) e = absurd (cc)

  module _ (class : ℕ) (is : option_map (λ (p : Page). p.class) (page_at s.pages k) ≡ Some class) where
    found : (p : Page) × (page_at s.pages k ≡ Some p) × (p.class ≡ class)
    found = by_page (page_at s.pages k) refl is
      where
        same_class : {a b : ℕ} → Some a ≡ Some b → a ≡ b
        same_class e = cc

        by_page : (o : Option Page) → page_at s.pages k ≡ o → option_map (λ (p : Page). p.class) o ≡ Some class → (p : Page) × (page_at s.pages k ≡ Some p) × (p.class ≡ class)
        by_page None e f = absurd (cc)
        by_page (Some p) e f = (p, e, same_class f)

    size_is : size_of found.0.class ≡ size_in (page_at s.pages k)
    size_is = sym (ap size_in found.1)

    below_allocated : (i : ℕ) → i < blocks_in class → i < length found.0.allocated
    below_allocated i l = subst (λ n. i < n) (sym (blocks_are s whole k found.0 found.1 ∙ ap blocks_in found.2)) l

    pub block_there : (i b : ℕ) → IfSome (page_at s.pages k) (λ p. b ≡ address_of p.class k i) → b ≡ 2048 * k + i * size_in (page_at s.pages k)
    block_there i b h =
        let f : b ≡ address_of found.0.class k i = subst (λ o. IfSome o (λ p. b ≡ address_of p.class k i)) found.1 h in
        f ∙ ap (λ z. 2048 * k + i * z) size_is

    pub step_allocated : (i b : ℕ) → i < blocks_in class → b ≡ 2048 * k + i * size_in (page_at s.pages k) → copies_below s (b + 1) ≡ copies_below s (2048 * k + (i + 1) * size_in (page_at s.pages k))
    step_allocated i b l e =
        ap (λ n. copies_below s (n + 1)) e
        ∙ sym (subst (λ z. copies_below s (2048 * k + (i + 1) * z) ≡ copies_below s (2048 * k + i * z + 1)) size_is (next_allocated s whole k found.0 found.1 i (below_allocated i l)))

    pub step_none : (i : ℕ) → i < blocks_in class → (IsSomeAnd (page_at s.pages k) (λ p. slice_get p.allocated i ≡ Some true) → ⊥)
        → copies_below s (2048 * k + i * size_in (page_at s.pages k)) ≡ copies_below s (2048 * k + (i + 1) * size_in (page_at s.pages k))
    step_none i l never =
        let b = below_allocated i l in
        let free : get_or found.0.allocated i false ≡ false = not_true (get_or found.0.allocated i false) (λ h. never (subst (λ o. IsSomeAnd o (λ p. slice_get p.allocated i ≡ Some true)) (sym found.1) (slice_get-get_or found.0.allocated i false b ∙ ap Some h))) in
        sym (subst (λ z. copies_below s (2048 * k + (i + 1) * z) ≡ copies_below s (2048 * k + i * z)) size_is (next_none s whole k found.0 found.1 i b free))

    pub all_done : (i : ℕ) → i ≡ blocks_in class → copies_below s (2048 * k + i * size_in (page_at s.pages k)) ≡ copies_below s (2048 * (k + 1))
    all_done i e =
        sym (page_done s whole k found.0 found.1
        ∙ ap (λ n. copies_below s (2048 * k + n * size_of found.0.class)) (blocks_are s whole k found.0 found.1 ∙ ap blocks_in found.2 ∙ sym e)
        ∙ ap (λ z. copies_below s (2048 * k + i * z)) size_is)
