-- The arithmetic of parts.
use Rattle.std.proofs.Common.{◌≡◌, ℕ, ◌+◌, ◌-◌, ◌*◌, ◌/◌, ◌%◌, ◌<◌, ◌≤◌, ◌⊎◌, arith}
use Rattle.size_classes.specs.Parts.{pieces_of, spines_of, first_by, count_by, spine_by, spine_cell_by}

-- The three forms, of n cells in k pieces under s spines. 16003008 is 252 times 252 times 252
pub record Pieces (n k : ℕ) : Type 0 where
  pub some : 0 < k
  pub high : n ≤ 252 * k
  pub low : 1 < k → 252 * (k - 1) < n

pub record Spines (k s : ℕ) : Type 0 where
  pub whole : k ≤ 1 → s ≡ 0
  pub one : 1 < k → k ≤ 252 → s ≡ 1
  pub more : 252 < k → 2 < s
  pub high : 252 < k → k ≤ 252 * (s - 1)
  pub low : 252 < k → 252 * (s - 2) < k

pub pieces_are : (n : ℕ) → Pieces n (pieces_of n)
pieces_are n = record { some = grind arith; high = grind arith; low = λ l. grind arith }

pub spines_are : (n : ℕ) → Spines (pieces_of n) (spines_of n)
spines_are n = record { whole = λ l. grind arith; one = λ a b. grind arith; more = λ l. grind arith; high = λ l. grind arith; low = λ l. grind arith }

module _ (n k s : ℕ) (a : Pieces n k) (b : Spines k s) where
  -- no part has more than 252 cells
  pub count_small : (p : ℕ) → k ≤ 63504 → count_by n k s p ≤ 252
  count_small p l = grind arith

  -- a part except part 0 is referred to by an earlier spine
  pub referrers_are : (p : ℕ) → 0 < p → p < s + k → (spine_by k s p < s) × (spine_by k s p < p) × (spine_cell_by k s p < count_by n k s (spine_by k s p)) × (first_by s (spine_by k s p) + spine_cell_by k s p ≡ p)
  referrers_are p l m = (grind arith, grind arith, grind arith, grind arith)

  -- a cell of a spine refers to a later part, and no other does
  pub holds : (q c : ℕ) → q < s → c < count_by n k s q → (q < first_by s q + c) × (first_by s q + c < s + k) × (spine_by k s (first_by s q + c) ≡ q) × (spine_cell_by k s (first_by s q + c) ≡ c)
  holds q c l m = (grind arith, grind arith, grind arith, grind arith)

  -- from part 0 it takes two steps at most
  pub two_steps : (p : ℕ) → 0 < p → p < s + k → (spine_by k s p ≡ 0) ⊎ ((0 < spine_by k s p) × (spine_by k s (spine_by k s p) ≡ 0))
  two_steps p l m = grind arith

  -- each cell stands in a piece
  pub cell_stands : (i : ℕ) → i < n → (s + i / 252 < s + k) × (s ≤ s + i / 252) × (i % 252 < count_by n k s (s + i / 252)) × (first_by s (s + i / 252) + i % 252 ≡ i)
  cell_stands i l = (grind arith, omega arith, grind arith, grind arith)

  -- and each cell of a piece is one of the object
  pub stands_cell : (p c : ℕ) → s ≤ p → p < s + k → c < count_by n k s p → (first_by s p + c < n) × (s + (first_by s p + c) / 252 ≡ p) × ((first_by s p + c) % 252 ≡ c)
  stands_cell p c l m d = (grind arith, grind arith, grind arith)

  pub count_most : n ≤ 4000000 → s + k ≤ 15938
  count_most l = grind arith
