-- Where allocated blocks stand.
use Rattle.std.proofs.Common.{◌≡◌, ℕ, ◌+◌, ◌*◌, ◌/◌, ◌%◌, ◌<◌, ◌≤◌, Bool, true, false, ◌&&◌, List, length, get_or, set, refl, ap, sym, ◌∙◌, arith, ◌==◌, if◌then◌else◌, nat_lt, get_or-set_other}
use Rattle.std.specs.Prelude.{Option, Some, None, slice_get}
use Rattle.std.proofs.lemmas.List.{get_or_past}
use Rattle.std.proofs.lemmas.Grind.{get_or-set_at}
use Rattle.std.proofs.lemmas.Nat.{div-add-mod', div-mul-add, mod-mul-add}
use Rattle.std.proofs.Math.Nat.{div-mul-le_self, mul-le-mul_right}
use Rattle.std.proofs.lemmas.Option.{slice_get-get_or, slice_get_within, get_or_from_slice_get}
use Rattle.size_classes.specs.Sizes.{size_of, blocks_in}
use Rattle.size_classes.proofs.Table.{size_low}
use Rattle.heap_model.specs.Pages.{ArePages, Page, IsPage, page_at}
use Rattle.heap_model.specs.Store.{Store, IsStore, allocated_in, is_allocated, address_of}

pub set_page : (pages : List (Option Page)) (k j : ℕ) (v : Option Page) → k < length pages → page_at (set pages k v) j ≡ (if j == k then v else page_at pages j)
set_page pages k j v l = grind (arith, get_or-set_at, get_or-set_other)

pub set_page_here : (pages : List (Option Page)) (k : ℕ) (v : Option Page) → k < length pages → page_at (set pages k v) k ≡ v
set_page_here pages k v l = get_or-set_at pages k k v None refl l

pub page_within : (pages : List (Option Page)) (k : ℕ) (p : Page) → page_at pages k ≡ Some p → k < length pages
page_within pages k p e = by_size (nat_lt k (length pages)) refl
  where
    by_size : (b : Bool) → nat_lt k (length pages) ≡ b → k < length pages
    by_size true t = grind arith
    by_size false t = absurd (let n : page_at pages k ≡ None = get_or_past pages k None (grind arith) in let q : None ≡ Some p = sym n ∙ e in cc)

pub is_page : (s : Store) (k : ℕ) (p : Page) → ArePages s.pages → page_at s.pages k ≡ Some p → IsPage p
is_page s k p w e = w.each k p e

-- the pages of a store
pub store_pages : (s : Store) → IsStore s → ArePages s.pages
store_pages s w = record { each = λ k p e. w.pages k p (slice_get-get_or s.pages k None (page_within s.pages k p e) ∙ ap Some e) }

-- an allocated block is a block of a page in use
pub record IsBlockOf (s : Store) (b : ℕ) (p : Page) (i : ℕ) : Type 0 where
  pub page : page_at s.pages (b / 2048) ≡ Some p
  pub allocated : slice_get p.allocated i ≡ Some true
  pub address : b ≡ address_of p.class (b / 2048) i

flag_allocated : (xs : List Bool) (i : ℕ) → get_or xs i false ≡ true → slice_get xs i ≡ Some true
flag_allocated xs i e = by_size (nat_lt i (length xs)) refl
  where
    by_size : (b : Bool) → nat_lt i (length xs) ≡ b → slice_get xs i ≡ Some true
    by_size true t = slice_get-get_or xs i false (grind arith) ∙ ap Some e
    by_size false t = absurd (let n : get_or xs i false ≡ false = get_or_past xs i false (grind arith) in let q : false ≡ true = sym n ∙ e in cc)

whole_offset : (offset size : ℕ) → (offset % size == 0) ≡ true → offset ≡ offset / size * size
whole_offset offset size e = let d = div-add-mod' offset size in let z : offset % size ≡ 0 = grind arith in omega arith

pub allocated_block : (s : Store) (b : ℕ) → is_allocated s b ≡ true → (p : Page) × (i : ℕ) × IsBlockOf s b p i
unfolding is_allocated
allocated_block s b l = by_page (page_at s.pages (b / 2048)) refl l
  where
    by_page : (o : Option Page) → page_at s.pages (b / 2048) ≡ o → allocated_in o (b % 2048) ≡ true → (p : Page) × (i : ℕ) × IsBlockOf s b p i
    by_page None e l = absurd (cc)
    by_page (Some p) e l =
        let size = size_of p.class in
        let i = b % 2048 / size in
        let both = both_true (b % 2048 % size == 0) (get_or p.allocated i false) l in
        let o = whole_offset (b % 2048) size both.0 in
        (p, i, record { page = e; allocated = flag_allocated p.allocated i both.1; address = omega arith })
      where
        both_true : (x y : Bool) → (x && y) ≡ true → (x ≡ true) × (y ≡ true)
        both_true true y h = (refl, h)
        both_true false y h = absurd (cc)

-- a block of a page lies within the page
pub block_within : (p : Page) (i : ℕ) → IsPage p → i < length p.allocated → (i + 1) * size_of p.class ≤ 2048
unfolding blocks_in
block_within p i w l =
    let size = size_of p.class in
    let below : i + 1 ≤ 2048 / size = (let e = w.blocks in omega arith) in
    let m = div-mul-le_self 2048 size in
    let n = mul-le-mul_right size below in
    omega (arith, n)

pub size_some : (p : Page) → IsPage p → 0 < size_of p.class
size_some p w = let l = size_low p.class w.class in omega arith

-- which page it is of, by its place
pub page_of_place : (page b : ℕ) → 2048 * page ≤ b → b < 2048 * page + 2048 → b / 2048 ≡ page
page_of_place page b l u = omega arith

pub index_same : (a i j size : ℕ) → 0 < size → a + j * size ≤ a + i * size → a + i * size < a + (j + 1) * size → i ≡ j
index_same a i j size s l u = grind arith

-- a flag of a page is its block's
pub allocated_at : (s : Store) (page i : ℕ) (p : Page) → ArePages s.pages → page_at s.pages page ≡ Some p → slice_get p.allocated i ≡ Some true → is_allocated s (address_of p.class page i) ≡ true
unfolding is_allocated
allocated_at s page i p w e h =
    let is = is_page s page p w e in
    let size = size_of p.class in
    let l = slice_get_within p.allocated i true h in
    let some = size_some p is in
    let within = block_within p i is l in
    let less : i * size < 2048 = below_end i size some within in
    let k : address_of p.class page i / 2048 ≡ page = page_of_place page (address_of p.class page i) (omega arith) (omega arith) in
    let offset : address_of p.class page i % 2048 ≡ i * size = omega arith in
    let zero : i * size % size ≡ 0 = times_mod i size some in
    let index : i * size / size ≡ i = times_div i size some in
    let flag : get_or p.allocated i false ≡ true = get_or_from_slice_get p.allocated i true false h in
    ap (λ z. allocated_in (page_at s.pages z) (address_of p.class page i % 2048)) k ∙ ap (λ z. allocated_in z (address_of p.class page i % 2048)) e ∙ ap (λ z. allocated_in (Some p) z) offset
    ∙ (rw (zero, index) flag)
  where
    below_end : (i size : ℕ) → 0 < size → (i + 1) * size ≤ 2048 → i * size < 2048
    below_end i size s l = grind arith

    times_mod : (i size : ℕ) → 0 < size → i * size % size ≡ 0
    times_mod i size s = let z : i * size + 0 ≡ i * size = omega arith in ap (λ y. y % size) (sym z) ∙ mod-mul-add i size 0 s

    times_div : (i size : ℕ) → 0 < size → i * size / size ≡ i
    times_div i size s = let z : i * size + 0 ≡ i * size = omega arith in ap (λ y. y / size) (sym z) ∙ div-mul-add i size 0 s
