-- The flags of a page's blocks, and where their words stand.
use Rattle.std.proofs.Common.{◌≡◌, ◌≢◌, ℕ, suc, ◌+◌, ◌*◌, ◌/◌, ◌<◌, ◌≤◌, Bool, true, false, not, cond, List, length, get_or, set, eqb, Some, ap, ◌∙◌, sym, subst, inl, inr, arith}
use Rattle.std.specs.Prelude.{slice_get, count_by}
use Rattle.std.proofs.lemmas.List.{length-set, get_or-set_same, get_or-set_other, set-set, set-get_or}
use Rattle.std.proofs.lemmas.List.Sums.{sum_by-set}
use Rattle.std.proofs.lemmas.List.FromFn.{length-map-range_with_len, get_or-map-range_with_len}
use Rattle.std.proofs.lemmas.Bool.{cases_eq, cases_lt, ne_eqb}
use Rattle.std.proofs.lemmas.Option.{slice_get_within, slice_get-get_or, get_or_from_slice_get}
use Rattle.std.proofs.lemmas.List.{same_lists, get_or_past}
use Rattle.std.proofs.lemmas.Bool.{cases_order}
use Rattle.std.proofs.Math.Nat.{mul-le-mul_right, div-mul-le_self, div-zero}
use Rattle.size_classes.specs.declared.class.TheConstants.{CLASSES}
use Rattle.size_classes.specs.Sizes.{sizes, size_of, blocks_in}
use Rattle.size_classes.proofs.Table.{size_low}
use Rattle.pages.specs.FreeList.{flags_at, free_mark}

-- one flag, set, is one free block less
pub count_less : (flags : List Bool) (i : ℕ) → slice_get flags i ≡ Some false → count_by not flags ≡ suc (count_by not (set flags i true))
count_less flags i h =
    let below : i < length flags = slice_get_within flags i false h in
    let was : get_or flags i false ≡ false = get_or_from_slice_get flags i false false h in
    let s = sum_by-set (λ (b : Bool). cond (not b) 1 0) flags i true false below in
    let w : ◌≡◌ {A = ℕ} (cond (not (get_or flags i false)) 1 0) 1 = ap (λ (b : Bool). cond (not b) 1 0) was in
    omega (arith, s, w)

-- a flag is taken away and set again
pub there_back : (flags : List Bool) (i : ℕ) → slice_get flags i ≡ Some true → set (set flags i false) i true ≡ flags
there_back flags i allocated = set-set flags i false true ∙ ap (set flags i) (sym (get_or_from_slice_get flags i true true allocated)) ∙ set-get_or flags i true

-- it is false in between
pub open_then : (flags : List Bool) (i : ℕ) → slice_get flags i ≡ Some true → slice_get (set flags i false) i ≡ Some false
open_then flags i allocated =
    let below : i < length flags = slice_get_within flags i true allocated in
    slice_get-get_or (set flags i false) i false (subst (λ n. i < n) (sym (length-set flags i false)) below) ∙ ap Some (get_or-set_same flags i false false below)

-- ---- the flags
pub length-flags : (words : List ℕ) (at size n : ℕ) → length (flags_at words at size n) ≡ n
unfolding flags_at
length-flags words at size n = length-map-range_with_len (λ i. not (eqb (get_or words (at + i * size) 0) free_mark)) 0 n

pub get_flag : (words : List ℕ) (at size n i : ℕ) (d : Bool) → i < n → get_or (flags_at words at size n) i d ≡ not (eqb (get_or words (at + i * size) 0) free_mark)
unfolding flags_at
get_flag words at size n i d h = get_or-map-range_with_len (λ i. not (eqb (get_or words (at + i * size) 0) free_mark)) 0 n i i d h (omega arith)

-- the same flags, by the first words of the blocks
pub flags_same : (words new : List ℕ) (at size n : ℕ) → ((i : ℕ) → i < n → get_or new (at + i * size) 0 ≡ get_or words (at + i * size) 0) → flags_at new at size n ≡ flags_at words at size n
flags_same words new at size n same =
    same_lists (flags_at new at size n) (flags_at words at size n) (length-flags new at size n ∙ sym (length-flags words at size n))
    (λ k d h. let below : k < n = omega (arith, h, length-flags new at size n) in
    get_flag new at size n k d below ∙ ap (λ w. not (eqb w free_mark)) (same k below) ∙ sym (get_flag words at size n k d below))

-- one flag is changed
pub flags_set : (words new : List ℕ) (at size n i : ℕ) (b : Bool) → i < n → ((j : ℕ) → j < n → j ≢ i → get_or new (at + j * size) 0 ≡ get_or words (at + j * size) 0)
    → not (eqb (get_or new (at + i * size) 0) free_mark) ≡ b → flags_at new at size n ≡ set (flags_at words at size n) i b
flags_set words new at size n i b within same here =
    same_lists (flags_at new at size n) (set (flags_at words at size n) i b) (length-flags new at size n ∙ sym (length-set (flags_at words at size n) i b ∙ length-flags words at size n))
    (λ k d h. let below : k < n = omega (arith, h, length-flags new at size n) in
    let there : i < length (flags_at words at size n) = omega (arith, within, length-flags words at size n) in
    get_flag new at size n k d below ∙ elim (cases_eq k i) as (λ _. not (eqb (get_or new (at + k * size) 0) free_mark) ≡ get_or (set (flags_at words at size n) i b) k d) [
      | inl e ↦ ap (λ j. not (eqb (get_or new (at + j * size) 0) free_mark)) e ∙ here ∙ sym (ap (λ j. get_or (set (flags_at words at size n) i b) j d) e ∙ get_or-set_same (flags_at words at size n) i b d there)
      | inr ne ↦ ap (λ w. not (eqb w free_mark)) (same k below ne) ∙ sym (get_or-set_other (flags_at words at size n) i k b d ne ∙ get_flag words at size n k d below)
    ])

-- ---- classes
pub class_known : (class : ℕ) → 0 < size_of class → class < CLASSES
unfolding size_of
class_known class some = elim (cases_lt class CLASSES) [
  | inl h ↦ h
  | inr past ↦ absurd (let none : get_or sizes class 0 ≡ 0 = get_or_past sizes class 0 past in omega (arith, some, none))
]

-- a class with a block has a size
pub class_sized : (class : ℕ) → 0 < blocks_in class → 0 < size_of class
unfolding blocks_in
class_sized class some = elim (cases_lt 0 (size_of class)) [
  | inl h ↦ h
  | inr none ↦ absurd (let z : size_of class ≡ 0 = omega (arith, none) in let e : 2048 / size_of class ≡ 0 = ap (λ n. 2048 / n) z ∙ div-zero 2048 in omega (arith, some, e))
]

pub size_some : (class n : ℕ) → n < blocks_in class → 4 ≤ size_of class
size_some class n h = size_low class (class_known class (class_sized class (omega (arith, h))))

-- ---- places of words
pub spaced : (i j size : ℕ) → i < j → i * size + size ≤ j * size
spaced i j size h = let m : (i + 1) * size ≤ j * size = mul-le-mul_right size (omega (arith, h)) in omega (arith, m)

pub apart : (at size i j a b : ℕ) → a < size → b < size → i ≢ j → at + i * size + a ≢ at + j * size + b
apart at size i j a b ha hb ne = elim (cases_order i j) [
  | inl e ↦ absurd (ne e)
  | inr o ↦ elim o [
    | inl h ↦ (let s = spaced i j size h in omega (arith, s, ha, hb))
    | inr h ↦ (let s = spaced j i size h in omega (arith, s, ha, hb))
  ]
]

pub block_fits : (class i : ℕ) → i < blocks_in class → i * size_of class + size_of class ≤ 2048
unfolding blocks_in
block_fits class i h = let m = div-mul-le_self 2048 (size_of class) in let s = spaced i (2048 / size_of class) (size_of class) h in omega (arith, m, s)

-- the link of a block isn't the first word of one
pub link_apart : (at size i j : ℕ) → 4 ≤ size → at + i * size + 3 ≢ at + j * size
link_apart at size i j low = elim (cases_eq i j) [
  | inl e ↦ (let w : i * size ≡ j * size = ap (λ n. n * size) e in omega (arith, w))
  | inr ne ↦ (let p = apart at size i j 3 0 (omega (arith, low)) (omega (arith, low)) ne in omega (arith, p))
]

pub not_mark : (n : ℕ) → n < 2147483648 → not (eqb n free_mark) ≡ true
unfolding free_mark
not_mark n h = ap not (ne_eqb n 18446744073709551615 (omega (arith, h)))
