-- Allocated blocks lie apart in the arena.
use Rattle.std.proofs.Common.{◌≡◌, ℕ, ◌+◌, ◌-◌, ◌*◌, ◌/◌, ◌<◌, ◌≤◌, Bool, true, false, List, length, take, drop, Option, Some, None, refl, ap, sym, ◌∙◌, arith, ◌==◌, nat_lt, length-drop}
use Rattle.std.specs.Prelude.{slice_index}
use Rattle.std.proofs.lemmas.Option.{slice_get_within, same_Some}
use Rattle.std.proofs.lemmas.List.{length-take}
use Rattle.std.proofs.Math.Nat.{mul-le-mul_right}
use Rattle.graph_heap.specs.Shape.{ref_cells, word_cells}
use Rattle.size_classes.specs.Sizes.{size_of}
use Rattle.size_classes.specs.Parts.{part_cells, cells_of}
use Rattle.size_classes.proofs.Table.{size_low, size_high}
use Rattle.heap_model.specs.Header.{header_in}
use Rattle.heap_model.specs.Block.{record_in}
use Rattle.heap_model.specs.Pages.{ArePages, Page, page_at}
use Rattle.heap_model.specs.Store.{Store, size_in, size_at, record_of}
use Rattle.heap_model.specs.State.{HeapState, seen, width_at}
use Rattle.heap_model.specs.Agreement.{IsWhole}
use Rattle.heap_model.proofs.Units.{LieApart}
use Rattle.heap_model.proofs.Agreements.Written.{width_le}
use Rattle.heap_model.proofs.Store.Allocated.{IsBlockOf, allocated_block, is_page, block_within, page_within}
use Rattle.heap_model.proofs.Action.Collecting.{allocated_behind}

-- the size of a block, by its reference
abbrev pub size_behind : HeapState → ℕ → ℕ
size_behind h x = size_at h.store (x - 1)

-- a block's size is its page's
size_is : (s : Store) (b : ℕ) (p : Page) (i : ℕ) → IsBlockOf s b p i → size_at s b ≡ size_of p.class
unfolding size_at
size_is s b p i w = ap size_in w.page

-- a block has room for what is read of it
cells_short : (s : Store) (b : ℕ) → length (record_of s b).cells ≤ size_at s b - 4
unfolding record_of record_in
cells_short s b =
    let block = take (size_at s b) (drop b s.words) in
    let a = length-take (size_at s b) (drop b s.words) in
    let d = length-drop 4 block in
    short (part_cells (cells_of (header_in (slice_index block 1)).shape) (header_in (slice_index block 1)).part) (drop 4 block) (size_at s b) (omega arith)
  where
    short : (n : ℕ) (xs : List ℕ) (size : ℕ) → length xs ≤ size - 4 → length (take n xs) ≤ size - 4
    short n xs size l = let t = length-take n xs in omega arith

less_index : (i j size : ℕ) → i * size < j * size → i + 1 ≤ j
less_index i j size l = by_size (nat_lt i j) refl
  where
    by_size : (b : Bool) → nat_lt i j ≡ b → i + 1 ≤ j
    by_size true e = grind arith
    by_size false e = absurd (let le : j ≤ i = grind arith in let m = mul-le-mul_right size le in omega arith)

two_apart : (a b i j size page page' size' : ℕ) → a ≡ 2048 * page + i * size → b ≡ 2048 * page' + j * size' → (i + 1) * size ≤ 2048 → a < b → page ≤ page' → (page ≡ page' → size ≡ size') → a + size ≤ b
two_apart a b i j size page page' size' e f l lt up same = by_page (nat_lt page page') refl
  where
    sum : (i + 1) * size ≡ i * size + size
    sum = grind arith

    by_page : (t : Bool) → nat_lt page page' ≡ t → a + size ≤ b
    by_page true t = let u : page < page' = grind arith in let s = sum in omega arith
    by_page false t =
        let u : page ≡ page' = (let v : page' ≤ page = grind arith in omega arith) in
        let q : j * size' ≡ j * size = ap (λ z. j * z) (sym (same u)) in
        let less : i * size < j * size = omega arith in
        let m = mul-le-mul_right size (less_index i j size less) in
        let s = sum in
        omega arith

-- no block has more than 256 words
pub size_small : (s : Store) → ArePages s.pages → (b : ℕ) → size_at s b ≤ 256
unfolding size_at
size_small s w b = of_page (page_at s.pages (b / 2048)) refl
  where
    of_page : (o : Option Page) → page_at s.pages (b / 2048) ≡ o → size_in o ≤ 256
    of_page None e = omega arith
    of_page (Some p) e = size_high p.class (w.each (b / 2048) p e).class

pub lie_apart : (h : HeapState) → ArePages h.store.pages → IsWhole h.store → LieApart (seen h) (size_behind h) (2048 * length h.store.pages)
lie_apart h w whole = record {
  fits = λ x l p.
      let allocated = allocated_behind h x p l in
      let q = allocated_block h.store (x - 1) allocated in
      let is = is_page h.store ((x - 1) / 2048) q.0 w q.2.page in
      let size = size_is h.store (x - 1) q.0 q.1 q.2 in
      let low = size_low q.0.class is.class in
      let n = record_of h.store (x - 1) in
      let cells = whole (x - 1) allocated in
      let short = cells_short h.store (x - 1) in
      let wide = width_le (ref_cells n.shape) (word_cells n.shape) n.part in
      let e : (x == 0) ≡ false = grind arith in
      let width : (seen h).width x ≡ width_at n = rw e refl in
      omega arith;
  inside = λ x l p.
      let allocated = allocated_behind h x p l in
      let q = allocated_block h.store (x - 1) allocated in
      let is = is_page h.store ((x - 1) / 2048) q.0 w q.2.page in
      let size = size_is h.store (x - 1) q.0 q.1 q.2 in
      let within = block_within q.0 q.1 is (slice_get_within q.0.allocated q.1 true q.2.allocated) in
      let page = page_within h.store.pages ((x - 1) / 2048) q.0 q.2.page in
      let address = q.2.address in
      let sum : (q.1 + 1) * size_of q.0.class ≡ q.1 * size_of q.0.class + size_of q.0.class = grind arith in
      omega arith;
  apart = λ x y l k p lt.
      let allocated = allocated_behind h x p l in
      let allocated' = allocated_behind h y (omega arith) k in
      let q = allocated_block h.store (x - 1) allocated in
      let r = allocated_block h.store (y - 1) allocated' in
      let is = is_page h.store ((x - 1) / 2048) q.0 w q.2.page in
      let size = size_is h.store (x - 1) q.0 q.1 q.2 in
      let within = block_within q.0 q.1 is (slice_get_within q.0.allocated q.1 true q.2.allocated) in
      let same : (x - 1) / 2048 ≡ (y - 1) / 2048 → size_of q.0.class ≡ size_of r.0.class = λ e. ap (λ (z : Page). size_of z.class) (same_Some q.0 r.0 (sym q.2.page ∙ ap (page_at h.store.pages) e ∙ r.2.page)) in
      let a = two_apart (x - 1) (y - 1) q.1 r.1 (size_of q.0.class) ((x - 1) / 2048) ((y - 1) / 2048) (size_of r.0.class) q.2.address r.2.address within (omega arith) (omega arith) same in
      omega arith;
}
