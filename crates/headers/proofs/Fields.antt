-- The effect of a write inside a block on its record.
use Rattle.std.proofs.Common.{◌≡◌, ℕ, ◌+◌, ◌<◌, ◌≤◌, List, length, take, drop, set, get_or, ap, ◌∙◌, arith, refl}
use Rattle.std.proofs.lemmas.List.{drop-set-lt, drop-set-add, get_or-set_other, get_or-set_same, length-take, length-drop}
use Rattle.std.proofs.Math.Seq.{take-set-lt}
use Rattle.heap_model.specs.Header.{header_in}
use Rattle.heap_model.specs.Block.{BlockRecord, words_at, record_in, cell_count, with_forward, with_cell}

-- the words of the block itself
pub words_at-here : (words : List ℕ) (a k v s : ℕ) → k < s → words_at (set words (a + k) v) a s ≡ set (words_at words a s) k v
words_at-here words a k v s h = ap (take s) (drop-set-add a words k v) ∙ take-set-lt s (drop a words) k v h

pub length-words_at : (words : List ℕ) (a s : ℕ) → a + s ≤ length words → length (words_at words a s) ≡ s
length-words_at words a s h = omega (arith, length-take s (drop a words), length-drop a words)

-- the record by its five numbers and its cells
by_parts : ℕ → ℕ → ℕ → ℕ → List ℕ → BlockRecord
by_parts f w d l cells =
    let h = header_in w in record { forward = f; shape = h.shape; part = h.part; colour = h.colour; identity = d; cells = take (cell_count h) cells }

node_parts : (b : List ℕ) → record_in b ≡ by_parts (get_or b 0 0) (get_or b 1 0) (get_or b 2 0) (get_or b 3 0) (drop 4 b)
unfolding record_in by_parts
node_parts b = refl

-- a record is known by its five numbers and its cells
same_parts : (b : List ℕ) (f w d l : ℕ) (cells : List ℕ) → get_or b 0 0 ≡ f → get_or b 1 0 ≡ w → get_or b 2 0 ≡ d → get_or b 3 0 ≡ l → drop 4 b ≡ cells → record_in b ≡ by_parts f w d l cells
same_parts b f w d l cells e0 e1 e2 e3 e4 = node_parts b ∙ rw (e0, e1, e2, e3, e4) refl

pub block-set-forward : (b : List ℕ) (v : ℕ) → 0 < length b → record_in (set b 0 v) ≡ with_forward (record_in b) v
unfolding record_in by_parts
block-set-forward b v h =
    same_parts (set b 0 v) v (get_or b 1 0) (get_or b 2 0) (get_or b 3 0) (drop 4 b)
    (get_or-set_same b 0 v 0 h) (get_or-set_other b 0 1 v 0 (omega arith)) (get_or-set_other b 0 2 v 0 (omega arith))
    (get_or-set_other b 0 3 v 0 (omega arith)) (drop-set-lt 4 b 0 v (omega arith))

pub block-set-link : (b : List ℕ) (v : ℕ) → 3 < length b → record_in (set b 3 v) ≡ record_in b
unfolding record_in by_parts
block-set-link b v h =
    same_parts (set b 3 v) (get_or b 0 0) (get_or b 1 0) (get_or b 2 0) v (drop 4 b)
    (get_or-set_other b 3 0 v 0 (omega arith)) (get_or-set_other b 3 1 v 0 (omega arith)) (get_or-set_other b 3 2 v 0 (omega arith))
    (get_or-set_same b 3 v 0 h) (drop-set-lt 4 b 3 v (omega arith))

pub block-set-cell : (b : List ℕ) (i v : ℕ) → i < length (record_in b).cells → record_in (set b (4 + i) v) ≡ with_cell (record_in b) i v
unfolding record_in by_parts
block-set-cell b i v h =
    let n = cell_count (header_in (get_or b 1 0)) in
    let below : i < n = omega (arith, length-take n (drop 4 b), h) in
    same_parts (set b (4 + i) v) (get_or b 0 0) (get_or b 1 0) (get_or b 2 0) (get_or b 3 0) (set (drop 4 b) i v)
    (get_or-set_other b (4 + i) 0 v 0 (omega arith)) (get_or-set_other b (4 + i) 1 v 0 (omega arith)) (get_or-set_other b (4 + i) 2 v 0 (omega arith))
    (get_or-set_other b (4 + i) 3 v 0 (omega arith)) (drop-set-add 4 b i v)
    ∙ ap (λ (cells : List ℕ). let r : BlockRecord = record { forward = get_or b 0 0; shape = (header_in (get_or b 1 0)).shape; part = (header_in (get_or b 1 0)).part; colour = (header_in (get_or b 1 0)).colour; identity = get_or b 2 0; cells = cells } in r)
    (take-set-lt n (drop 4 b) i v below)
