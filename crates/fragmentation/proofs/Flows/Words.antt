-- How many pages words of blocks take.
use Rattle.std.proofs.Common.{◌≡◌, ℕ, zero, suc, ◌+◌, ◌-◌, ◌*◌, ◌/◌, ◌<◌, ◌≤◌, ◌⊎◌, inl, inr, Bool, true, false, leb, if◌then◌else◌, nat_lt, ap, ◌∙◌, sym, arith, refl, mul-zero}
use Rattle.std.proofs.lemmas.Nat.{le-div}
use Rattle.std.proofs.lemmas.Bool.{leb-true}
use Rattle.std.proofs.Math.Nat.{div-mul-le_self, mul-le-mul_left}
use Rattle.size_classes.specs.declared.class.TheConstants.{CLASSES}
use Rattle.size_classes.specs.Sizes.{size_of, blocks_in}
use Rattle.size_classes.proofs.Table.{all_below_at, blocks_some}
use Rattle.heap_model.specs.Pages.{whole_pages}
use Rattle.space.specs.Space.{class_sum}
use Rattle.space.proofs.Counts.{class_sum_le, class_sum_both, zeros}
use Rattle.fragmentation.specs.declared.flow.TheConstants.{LEAST_PAGE_FILL, PARTLY_FILLED_PAGES}
use Rattle.fragmentation.specs.Suffice.{gathered_pages, pages_of}
use Rattle.fragmentation.specs.Flow.{words_of, classes_made}
use Rattle.fragmentation.proofs.Suffice.Paging.{whole_more, whole_none, whole_both}

-- the blocks of a page have at least this many words
pub page_words_least : (k : ℕ) → k < CLASSES → LEAST_PAGE_FILL ≤ size_of k * blocks_in k
unfolding size_of blocks_in
page_words_least k h = leb-true LEAST_PAGE_FILL (size_of k * blocks_in k) (all_below_at (λ k. leb LEAST_PAGE_FILL (size_of k * blocks_in k)) CLASSES k refl h)

-- the blocks of one class have exactly as many words
pub page_words_attained : (k : ℕ) × (k < CLASSES) × (size_of k * blocks_in k ≡ LEAST_PAGE_FILL)
unfolding size_of blocks_in
page_words_attained = (36, omega arith, refl)

-- the whole pages of a class are filled, except one
filled : (b n q : ℕ) → 0 < b → q * b ≤ n + (b - 1) → (q ≡ 0) ⊎ ((p : ℕ) × (q ≡ p + 1) × (p * b ≤ n))
filled b n zero some l = inl refl
filled b n (suc p) some l = inr (p, omega arith, (let d : suc p * b ≡ p * b + b = times p b in omega (arith, l, d, some)))
  where
    times : (p b : ℕ) → suc p * b ≡ p * b + b
    times p b = grind arith

filled_words : (s b n q : ℕ) → 0 < b → LEAST_PAGE_FILL ≤ s * b → q * b ≤ n + (b - 1) → LEAST_PAGE_FILL * q ≤ s * n + LEAST_PAGE_FILL
filled_words s b n q some least l = by_filled (filled b n q some l)
  where
    swap : (p : ℕ) → p * (s * b) ≡ s * (p * b)
    swap p = grind arith

    by_filled : (q ≡ 0) ⊎ ((p : ℕ) × (q ≡ p + 1) × (p * b ≤ n)) → LEAST_PAGE_FILL * q ≤ s * n + LEAST_PAGE_FILL
    by_filled (inl e) = omega (arith, e)
    by_filled (inr w) =
        let e = w.1 in
        let m = mul-le-mul_left s w.2 in
        let o = mul-le-mul_left w.0 least in
        let x = swap w.0 in
        omega (arith, e, m, o, x)

class_words : (k n : ℕ) → k < CLASSES → LEAST_PAGE_FILL * whole_pages k n ≤ size_of k * n + LEAST_PAGE_FILL
class_words k n l = filled_words (size_of k) (blocks_in k) n (whole_pages k n) (blocks_some k l) (page_words_least k l) (div-mul-le_self (n + (blocks_in k - 1)) (blocks_in k))

-- a sum of multiples of each number
pub times_sum : (c : ℕ) (f : ℕ → ℕ) (n : ℕ) → class_sum (λ k. c * f k) n ≡ c * class_sum f n
times_sum c f zero = sym (mul-zero c)
times_sum c f (suc n) = let r = times_sum c f n in let d : c * (class_sum f n + f n) ≡ c * class_sum f n + c * f n = spread c (class_sum f n) (f n) in omega (arith, r, d)
  where
    spread : (a b c : ℕ) → a * (b + c) ≡ a * b + a * c
    spread a b c = grind arith

-- what lives of a class, and is made of it, in words and in pages
class_live : (k live made : ℕ) (by_pages : Bool) → k < CLASSES → LEAST_PAGE_FILL * whole_pages k (live + made) ≤ (if by_pages then LEAST_PAGE_FILL * whole_pages k live else size_of k * live) + size_of k * made + LEAST_PAGE_FILL
class_live k live made true l =
    let p : whole_pages k (live + made) ≤ whole_pages k live + whole_pages k made = whole_both (blocks_in k) live made (blocks_some k l) in
    let w = class_words k made l in
    omega (arith, p, w)
class_live k live made false l =
    let w = class_words k (live + made) l in
    let d = spread (size_of k) live made in
    omega (arith, w, d)
  where
    spread : (a b c : ℕ) → a * (b + c) ≡ a * b + a * c
    spread a b c = grind arith

abbrev live_part : Bool → (ℕ → ℕ) → ℕ → ℕ
live_part by_pages live k = if by_pages then LEAST_PAGE_FILL * whole_pages k (live k) else size_of k * live k

-- the pages of a class whose blocks were gathered, and of those that are made since
class_fits : (k before live made more : ℕ) (by_pages makes : Bool) → k < CLASSES → before ≤ live + made → (makes ≡ false → (before ≡ 0) × (more ≡ 0))
    → LEAST_PAGE_FILL * (gathered_pages k before + whole_pages k more) ≤ (if by_pages then LEAST_PAGE_FILL * whole_pages k live else size_of k * live) + size_of k * made + size_of k * more + (PARTLY_FILLED_PAGES * LEAST_PAGE_FILL) * (if makes then 1 else 0)
class_fits k before live made more by_pages true l b none =
    let w = class_live k live made by_pages l in
    let m = whole_more k before (live + made) l b in
    let g = one_more (nat_lt before (blocks_in k)) in
    let x = class_words k more l in
    omega (arith, w, m, g, x)
  where
    one_more : (b : Bool) → (if b then whole_pages k before else whole_pages k before + 1) ≤ whole_pages k before + 1
    one_more true = omega arith
    one_more false = omega arith
class_fits k before live made more by_pages false l b none =
    let z = none refl in
    let g : gathered_pages k before ≡ 0 = ap (gathered_pages k) z.0 ∙ ap (λ b. if b then whole_pages k 0 else whole_pages k 0 + 1) (below (blocks_in k) (blocks_some k l)) ∙ whole_none k l in
    let w : whole_pages k more ≡ 0 = ap (whole_pages k) z.1 ∙ whole_none k l in
    omega (arith, g, w)
  where
    below : (b : ℕ) → 0 < b → nat_lt 0 b ≡ true
    below b l = grind arith

live_parts : (live : ℕ → ℕ) (most : ℕ) → (LEAST_PAGE_FILL * pages_of live ≤ most) ⊎ (words_of live ≤ most) → (b : Bool) × (class_sum (live_part b live) CLASSES ≤ most)
live_parts live most (inl l) = (true, (let e = times_sum LEAST_PAGE_FILL (λ k. whole_pages k (live k)) CLASSES in omega (arith, e, l)))
live_parts live most (inr l) = (false, l)

minus : (n m : ℕ) → m ≤ n → (j : ℕ) × (n ≡ j + m)
minus n zero g = (n, omega arith)
minus zero (suc m) g = absurd (omega (arith, g))
minus (suc n) (suc m) g = let r = minus n m (omega (arith, g)) in (r.0, (let e = r.1 in omega (arith, e)))

order : (n m : ℕ) → (n ≤ m) ⊎ (m ≤ n)
order n m = grind arith

in_pages : (n words more : ℕ) → LEAST_PAGE_FILL * n ≤ words + LEAST_PAGE_FILL * more → n ≤ words / LEAST_PAGE_FILL + more
in_pages n words more l = elim (order n more) [
  | inl e ↦ omega (arith, e)
  | inr g ↦ (let j = minus n more g in let e = j.1 in let q = le-div j.0 words LEAST_PAGE_FILL (omega arith) (let z : LEAST_PAGE_FILL * n ≡ j.0 * LEAST_PAGE_FILL + LEAST_PAGE_FILL * more = omega (arith, e) in omega (arith, z, l)) in omega (arith, q, e))
]

-- The pages that were gathered, and those that were opened since, by the words of what was live, of what was made, and of
-- what is made since.
pub words_fit : (before live made more : ℕ → ℕ) (makes : ℕ → Bool) (most words : ℕ) → ((k : ℕ) → k < CLASSES → before k ≤ live k + made k) → ((k : ℕ) → k < CLASSES → makes k ≡ false → (before k ≡ 0) × (more k ≡ 0))
    → (LEAST_PAGE_FILL * pages_of live ≤ most) ⊎ (words_of live ≤ most) → words_of made + words_of more ≤ words → class_sum (λ k. gathered_pages k (before k) + whole_pages k (more k)) CLASSES ≤ (most + words) / LEAST_PAGE_FILL + PARTLY_FILLED_PAGES * classes_made makes
words_fit before live made more makes most words needs none few fits =
    let p = live_parts live most few in
    let l = class_sum_le (λ k. LEAST_PAGE_FILL * (gathered_pages k (before k) + whole_pages k (more k))) (λ k. live_part p.0 live k + size_of k * made k + size_of k * more k + (PARTLY_FILLED_PAGES * LEAST_PAGE_FILL) * (if makes k then 1 else 0)) CLASSES (λ k b. class_fits k (before k) (live k) (made k) (more k) p.0 (makes k) b (needs k b) (none k b)) in
    let t = times_sum LEAST_PAGE_FILL (λ k. gathered_pages k (before k) + whole_pages k (more k)) CLASSES in
    let u = times_sum (PARTLY_FILLED_PAGES * LEAST_PAGE_FILL) (λ k. if makes k then 1 else 0) CLASSES in
    let a = class_sum_both (λ k. live_part p.0 live k + size_of k * made k + size_of k * more k) (λ k. (PARTLY_FILLED_PAGES * LEAST_PAGE_FILL) * (if makes k then 1 else 0)) CLASSES in
    let c = class_sum_both (λ k. live_part p.0 live k + size_of k * made k) (λ k. size_of k * more k) CLASSES in
    let d = class_sum_both (live_part p.0 live) (λ k. size_of k * made k) CLASSES in
    let y = p.1 in
    in_pages (class_sum (λ k. gathered_pages k (before k) + whole_pages k (more k)) CLASSES) (most + words) (PARTLY_FILLED_PAGES * classes_made makes) (omega (arith, l, t, u, a, c, d, y, fits))

-- more blocks have no fewer words
pub words_more : (f g : ℕ → ℕ) → ((k : ℕ) → k < CLASSES → f k ≤ g k) → words_of f ≤ words_of g
words_more f g e = class_sum_le _ _ CLASSES (λ k l. mul-le-mul_left (size_of k) (e k l))

-- the words of both
pub words_both : (f g : ℕ → ℕ) → words_of (λ k. f k + g k) ≤ words_of f + words_of g
words_both f g =
    let l = class_sum_le (λ k. size_of k * (f k + g k)) (λ k. size_of k * f k + size_of k * g k) CLASSES (λ k b. (let d = spread (size_of k) (f k) (g k) in omega (arith, d))) in
    let e = class_sum_both (λ k. size_of k * f k) (λ k. size_of k * g k) CLASSES in
    omega (arith, l, e)
  where
    spread : (a b c : ℕ) → a * (b + c) ≡ a * b + a * c
    spread a b c = grind arith

-- no blocks have no words
pub words_none : (f : ℕ → ℕ) → ((k : ℕ) → k < CLASSES → f k ≡ 0) → words_of f ≡ 0
words_none f e =
    let l = class_sum_le (λ k. size_of k * f k) (λ k. 0) CLASSES (λ k b. (let d : size_of k * f k ≡ size_of k * 0 = ap (λ z. size_of k * z) (e k b) in let z = mul-zero (size_of k) in omega (arith, d, z))) in
    let z = zeros CLASSES in
    omega (arith, l, z)
