-- The need of an object in a class, as four numbers.
use Rattle.std.proofs.Common.{◌≡◌, ◌<◌, ◌≤◌, ◌+◌, ◌-◌, ◌*◌, ℕ, suc, zero, Bool, true, false, min, arith, ap, sym, ◌∙◌, refl, nat_lt, if◌then◌else◌}
use Rattle.size_classes.specs.Parts.{pieces_of, spines_of, parts_in, part_words, count_by}
use Rattle.size_classes.specs.Need.{blocks_needed, is_class, counts_at}
use Rattle.size_classes.specs.Sizes.{class_for}
use Rattle.size_classes.proofs.Cutting.{Pieces, Spines, pieces_are, spines_are}

-- The need without going through the parts: all pieces and middle spines have 256 words, except the last of each kind.
-- The last piece, part 0 and the last middle spine are looked at one by one.
abbrev blocks_in_all : ℕ → ℕ → ℕ
blocks_in_all n class =
    (pieces_of n - 1 + (spines_of n - 2)) * counts_at 256 class + counts_at (part_words n (spines_of n + pieces_of n - 1)) class
    + (if nat_lt 0 (spines_of n) then counts_at (part_words n 0) class else 0)
    + (if nat_lt 1 (spines_of n) then counts_at (part_words n (spines_of n - 1)) class else 0)

shared : (x y f : ℕ) → (x + y) * f ≡ x * f + y * f
shared x y f = grind arith

one_more : (m f : ℕ) → suc m * f ≡ m * f + f
one_more m f = grind arith

less : (a b : ℕ) → nat_lt a b ≡ true → a < b
less a b e = grind arith

no_more : (a b : ℕ) → nat_lt a b ≡ false → b ≤ a
no_more a b e = grind arith

exact : (s : ℕ) → 0 < s → s ≤ 1 → s ≡ 1
exact s l m = omega arith

none_left : (s : ℕ) → s ≤ 0 → s ≡ 0
none_left s l = omega arith

clash : (s : ℕ) → s ≤ 0 → 1 < s → ⊥
clash s l m = omega arith

-- a sum, if most of the addends are the same
module _ (total at : ℕ → ℕ) (f : ℕ) (none : total 0 ≡ 0) (next : (p : ℕ) → total (suc p) ≡ total p + at p) where
  after : (p q : ℕ) → q ≡ suc p → total q ≡ total p + at p
  after p q e = ap total e ∙ next p

  run : (a m : ℕ) → ((p : ℕ) → a ≤ p → p < a + m → at p ≡ f) → total (a + m) ≡ total a + m * f
  run a zero all = let e : a + 0 ≡ a = omega arith in ap total e ∙ (let x = total a in omega arith)
  run a (suc m) all =
      let before = run a m (λ p l h. all p l (omega arith)) in
      let step = after (a + m) (a + suc m) (omega arith) in
      let here : at (a + m) ≡ f = all (a + m) (omega arith) (omega arith) in
      let one = one_more m f in
      omega (arith, before, step, here, one)

  pub no_spine : (k s : ℕ) → s ≡ 0 → k ≡ 1 → total (s + k) ≡ (k - 1 + (s - 2)) * f + at (s + k - 1) + 0 + 0
  no_spine k s e g =
      let last = after (s + k - 1) (s + k) (omega arith) in
      let first : total (s + k - 1) ≡ 0 = (let z : s + k - 1 ≡ 0 = omega arith in ap total z ∙ none) in
      let zero_times : (k - 1 + (s - 2)) * f ≡ 0 = (let z : k - 1 + (s - 2) ≡ 0 = omega arith in ap (λ m. m * f) z ∙ (let x : 0 * f ≡ 0 = grind arith in x)) in
      omega (arith, last, first, zero_times)

  pub one_spine : (k s : ℕ) → s ≡ 1 → 0 < k → ((p : ℕ) → s ≤ p → p < s + (k - 1) → at p ≡ f) → total (s + k) ≡ (k - 1 + (s - 2)) * f + at (s + k - 1) + at 0 + 0
  one_spine k s e l full =
      let root = after 0 s (omega arith) in
      let pieces = run s (k - 1) full in
      let last = after (s + (k - 1)) (s + k) (omega arith) in
      let same : at (s + (k - 1)) ≡ at (s + k - 1) = (let z : s + (k - 1) ≡ s + k - 1 = omega arith in ap at z) in
      let times : (k - 1 + (s - 2)) * f ≡ (k - 1) * f = (let z : k - 1 + (s - 2) ≡ k - 1 = omega arith in ap (λ m. m * f) z) in
      omega (arith, root, pieces, last, same, times, none)

  pub more_spines : (k s : ℕ) → 1 < s → 0 < k → ((p : ℕ) → 1 ≤ p → p < 1 + (s - 2) → at p ≡ f) → ((p : ℕ) → s ≤ p → p < s + (k - 1) → at p ≡ f) → total (s + k) ≡ (k - 1 + (s - 2)) * f + at (s + k - 1) + at 0 + at (s - 1)
  more_spines k s e l spines full =
      let root = after 0 1 (omega arith) in
      let middle = run 1 (s - 2) spines in
      let last_spine = after (1 + (s - 2)) s (omega arith) in
      let same_spine : at (1 + (s - 2)) ≡ at (s - 1) = (let z : 1 + (s - 2) ≡ s - 1 = omega arith in ap at z) in
      let pieces = run s (k - 1) full in
      let last = after (s + (k - 1)) (s + k) (omega arith) in
      let same : at (s + (k - 1)) ≡ at (s + k - 1) = (let z : s + (k - 1) ≡ s + k - 1 = omega arith in ap at z) in
      let times = shared (k - 1) (s - 2) f in
      omega (arith, root, middle, last_spine, same_spine, pieces, last, same, times, none)

-- pieces but the last are full, and middle spines but the last
module _ (n k s : ℕ) (a : Pieces n k) (b : Spines k s) where
  full_piece : (p : ℕ) → s ≤ p → p < s + (k - 1) → count_by n k s p + 4 ≡ 256
  full_piece p l m = grind arith

  full_spine : (p : ℕ) → 1 ≤ p → p < 1 + (s - 2) → count_by n k s p + 4 ≡ 256
  full_spine p l m = grind arith

  lone_piece : s ≡ 0 → k ≡ 1
  lone_piece e = grind arith

-- by how many spines there are
module _ (n class : ℕ) where
  abbrev part_at : ℕ → ℕ
  part_at p = counts_at (part_words n p) class

  abbrev sum_is : Bool → Bool → Type 0
  sum_is x y = blocks_needed n (parts_in n) class ≡ (pieces_of n - 1 + (spines_of n - 2)) * counts_at 256 class + part_at (spines_of n + pieces_of n - 1) + (if x then part_at 0 else 0) + (if y then part_at (spines_of n - 1) else 0)

  full : (p : ℕ) → spines_of n ≤ p → p < spines_of n + (pieces_of n - 1) → part_at p ≡ counts_at 256 class
  full p l m = ap (λ w. counts_at w class) (full_piece n (pieces_of n) (spines_of n) (pieces_are n) (spines_are n) p l m)

  middle : (p : ℕ) → 1 ≤ p → p < 1 + (spines_of n - 2) → part_at p ≡ counts_at 256 class
  middle p l m = ap (λ w. counts_at w class) (full_spine n (pieces_of n) (spines_of n) (pieces_are n) (spines_are n) p l m)

  by_spines : (x y : Bool) → nat_lt 0 (spines_of n) ≡ x → nat_lt 1 (spines_of n) ≡ y → sum_is x y
  by_spines true true e f = more_spines (λ p. blocks_needed n p class) part_at (counts_at 256 class) refl (λ p. refl) (pieces_of n) (spines_of n) (less 1 (spines_of n) f) (pieces_are n).some middle full
  by_spines true false e f = one_spine (λ p. blocks_needed n p class) part_at (counts_at 256 class) refl (λ p. refl) (pieces_of n) (spines_of n) (exact (spines_of n) (less 0 (spines_of n) e) (no_more 1 (spines_of n) f)) (pieces_are n).some full
  by_spines false true e f = absurd (clash (spines_of n) (no_more 0 (spines_of n) e) (less 1 (spines_of n) f))
  by_spines false false e f = let z = none_left (spines_of n) (no_more 0 (spines_of n) e) in no_spine (λ p. blocks_needed n p class) part_at (counts_at 256 class) refl (λ p. refl) (pieces_of n) (spines_of n) z (lone_piece n (pieces_of n) (spines_of n) (pieces_are n) (spines_are n) z)

-- what an object needs of a class, without going through its parts
pub needed_closed : (n class : ℕ) → blocks_needed n (parts_in n) class ≡ blocks_in_all n class
needed_closed n class = by_spines n class (nat_lt 0 (spines_of n)) (nat_lt 1 (spines_of n)) refl refl

times_by : (b : Bool) (m : ℕ) → m * (if b then 1 else 0) ≤ m
times_by true m = grind arith
times_by false m = grind arith

-- whether a block is of a class counts 1 at most
pub times_small : (m words class : ℕ) → m * counts_at words class ≤ m
times_small m words class = times_by (is_class class (class_for words)) m

first_if : (s u y : ℕ) → u ≡ min s 1 → u * y ≡ (if nat_lt 0 s then y else 0)
first_if s u y e = by_size (nat_lt 0 s) refl
  where
    by_size : (b : Bool) → nat_lt 0 s ≡ b → u * y ≡ (if b then y else 0)
    by_size true t = let one : u ≡ 1 = grind arith in ap (λ z. z * y) one ∙ (let x : 1 * y ≡ y = omega arith in x)
    by_size false t = let none : u ≡ 0 = grind arith in ap (λ z. z * y) none ∙ (let x : 0 * y ≡ 0 = omega arith in x)

last_if : (s l v y : ℕ) → l ≡ s - 1 → v ≡ min l 1 → v * y ≡ (if nat_lt 1 s then y else 0)
last_if s l v y d e = by_size (nat_lt 1 s) refl
  where
    by_size : (b : Bool) → nat_lt 1 s ≡ b → v * y ≡ (if b then y else 0)
    by_size true t = let one : v ≡ 1 = grind arith in ap (λ z. z * y) one ∙ (let x : 1 * y ≡ y = omega arith in x)
    by_size false t = let none : v ≡ 0 = grind arith in ap (λ z. z * y) none ∙ (let x : 0 * y ≡ 0 = omega arith in x)

add_up : (t0 t1 t2 t3 t4 a b c d e f g h : ℕ) → t0 ≡ 0 → t1 ≡ t0 + a → t2 ≡ t1 + 1 * b → t3 ≡ t2 + c → t4 ≡ t3 + d → a ≡ e → b ≡ f → c ≡ g → d ≡ h → t4 ≡ e + f + g + h
add_up t0 t1 t2 t3 t4 a b c d e f g h p0 p1 p2 p3 p4 q r x y = omega arith

-- what is counted in four steps is all
pub counted : (n class k s x l u v w1 w2 w3 t0 t1 t2 t3 t4 : ℕ) → s ≡ spines_of n → k ≡ pieces_of n → x ≡ s - 2 → l ≡ s - 1 → u ≡ min s 1 → v ≡ min l 1
    → w1 ≡ part_words n (s + k - 1) → w2 ≡ part_words n 0 → w3 ≡ part_words n l
    → t0 ≡ 0 → t1 ≡ t0 + (k - 1 + x) * counts_at 256 class → t2 ≡ t1 + 1 * counts_at w1 class → t3 ≡ t2 + u * counts_at w2 class → t4 ≡ t3 + v * counts_at w3 class
    → t4 ≡ blocks_needed n (parts_in n) class
counted n class k s x l u v w1 w2 w3 t0 t1 t2 t3 t4 es ek ex el eu ev e1 e2 e3 p0 p1 p2 p3 p4 =
    let most : (k - 1 + x) * counts_at 256 class ≡ (pieces_of n - 1 + (spines_of n - 2)) * counts_at 256 class = ap (λ z. (k - 1 + z) * counts_at 256 class) ex ∙ ap (λ z. (z - 1 + (s - 2)) * counts_at 256 class) ek ∙ ap (λ z. (pieces_of n - 1 + (z - 2)) * counts_at 256 class) es in
    let last : counts_at w1 class ≡ counts_at (part_words n (spines_of n + pieces_of n - 1)) class = ap (λ z. counts_at z class) (e1 ∙ ap (λ z. part_words n (z + k - 1)) es ∙ ap (λ z. part_words n (spines_of n + z - 1)) ek) in
    let root : u * counts_at w2 class ≡ (if nat_lt 0 (spines_of n) then counts_at (part_words n 0) class else 0) = ap (λ z. u * counts_at z class) e2 ∙ first_if (spines_of n) u (counts_at (part_words n 0) class) (eu ∙ ap (λ z. min z 1) es) in
    let spine : v * counts_at w3 class ≡ (if nat_lt 1 (spines_of n) then counts_at (part_words n (spines_of n - 1)) class else 0) =
    ap (λ z. v * counts_at z class) (e3 ∙ ap (part_words n) (el ∙ ap (λ z. z - 1) es)) ∙ last_if (spines_of n) l v (counts_at (part_words n (spines_of n - 1)) class) (el ∙ ap (λ z. z - 1) es) ev in
    add_up t0 t1 t2 t3 t4 _ _ _ _ _ _ _ _ p0 p1 p2 p3 p4 most last root spine ∙ sym (needed_closed n class)
