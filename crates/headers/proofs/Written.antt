-- The effect of a write of one word of a block on the block's record.
use Rattle.std.proofs.Common.{◌≡◌, ℕ, ◌+◌, ◌-◌, ◌*◌, ◌/◌, ◌%◌, ◌<◌, ◌≤◌, ◌⊎◌, Bool, true, false, eqb, List, length, take, drop, set, get_or, ap, ◌∙◌, sym, arith, refl}
use Rattle.std.proofs.lemmas.List.{drop-set-lt, get_or-set_other, get_or-set_same, length-take, length-drop, get_or-take, get_or-drop, length-replicate}
use Rattle.heap_model.specs.Header.{Header, HeaderFits, header_in, shape_in, bit_of, recoloured}
use Rattle.heap_model.specs.Block.{BlockRecord, words_at, record_at, record_in, cell_count, with_forward, with_colour, with_cell, new_record, new_words, spliced}
use Rattle.headers.proofs.Fields.{words_at-here, length-words_at, block-set-forward, block-set-link, block-set-cell}
use Rattle.headers.proofs.Fresh.{words_at-spliced, words_at-spliced_other}
use Rattle.headers.proofs.Packed.{record_in-new_words}

-- the other bits of a word that gets another colour
low : (w b : ℕ) → b < 2 → (w - 4 * (w / 4 % 2) + 4 * b) % 4 ≡ w % 4
low w b h = omega arith

high : (w b : ℕ) → b < 2 → (w - 4 * (w / 4 % 2) + 4 * b) / 256 ≡ w / 256
high w b h = omega arith

middle : (w b : ℕ) → b < 2 → (w - 4 * (w / 4 % 2) + 4 * b) / 4 % 2 ≡ b
middle w b h = omega arith

far : (w b : ℕ) → b < 2 → (w - 4 * (w / 4 % 2) + 4 * b) / 65536 ≡ w / 65536
far w b h = omega arith

top : (w b : ℕ) → b < 2 → (w - 4 * (w / 4 % 2) + 4 * b) / 4294967296 ≡ w / 4294967296
top w b h = omega arith

bit_small : (c : Bool) → bit_of c < 2
bit_small true = omega arith
bit_small false = omega arith

bit_test : (c : Bool) → eqb (bit_of c) 1 ≡ c
bit_test true = refl
bit_test false = refl

shape-recoloured : (w : ℕ) (c : Bool) → shape_in (recoloured w c) ≡ shape_in w
shape-recoloured w c = let s = bit_small c in rw (low w (bit_of c) s, high w (bit_of c) s, far w (bit_of c) s) refl

pub header_in-recoloured : (w : ℕ) (c : Bool) → header_in (recoloured w c) ≡ (let h : Header = record { shape = shape_in w; part = w / 4294967296 % 65536; colour = c } in h)
header_in-recoloured w c =
    let s = bit_small c in
    let m : eqb (recoloured w c / 4 % 2) 1 ≡ c = ap (λ n. eqb n 1) (middle w (bit_of c) s) ∙ bit_test c in
    ap (λ x. let h : Header = record { shape = x; part = recoloured w c / 4294967296 % 65536; colour = eqb (recoloured w c / 4 % 2) 1 } in h) (shape-recoloured w c)
    ∙ ap (λ n. let h : Header = record { shape = shape_in w; part = n % 65536; colour = eqb (recoloured w c / 4 % 2) 1 } in h) (top w (bit_of c) s)
    ∙ ap (λ b. let h : Header = record { shape = shape_in w; part = w / 4294967296 % 65536; colour = b } in h) m

abbrev built : Header → ℕ → ℕ → ℕ → List ℕ → BlockRecord
built h f d l cells = record { forward = f; shape = h.shape; part = h.part; colour = h.colour; identity = d; cells = take (cell_count h) cells }

built_same : (h g : Header) (f d l f' d' l' : ℕ) (cells cells' : List ℕ) → h ≡ g → f ≡ f' → d ≡ d' → l ≡ l' → cells ≡ cells' → built h f d l cells ≡ built g f' d' l' cells'
built_same h g f d l f' d' l' cells cells' e0 e1 e2 e3 e4 =
    ap (λ x. built x f d l cells) e0 ∙ ap (λ x. built g x d l cells) e1 ∙ ap (λ x. built g f' x l cells) e2 ∙ ap (λ x. built g f' d' x cells) e3 ∙ ap (λ x. built g f' d' l' x) e4

block-set-colour : (b : List ℕ) (c : Bool) → 1 < length b → record_in (set b 1 (recoloured (get_or b 1 0) c)) ≡ with_colour (record_in b) c
unfolding record_in
block-set-colour b c h =
    let v = recoloured (get_or b 1 0) c in
    let g : Header = record { shape = shape_in (get_or b 1 0); part = get_or b 1 0 / 4294967296 % 65536; colour = c } in
    built_same (header_in (get_or (set b 1 v) 1 0)) g (get_or (set b 1 v) 0 0) (get_or (set b 1 v) 2 0) (get_or (set b 1 v) 3 0) (get_or b 0 0) (get_or b 2 0) (get_or b 3 0) (drop 4 (set b 1 v)) (drop 4 b)
    (ap header_in (get_or-set_same b 1 v 0 h) ∙ header_in-recoloured (get_or b 1 0) c)
    (get_or-set_other b 1 0 v 0 (omega arith)) (get_or-set_other b 1 2 v 0 (omega arith)) (get_or-set_other b 1 3 v 0 (omega arith)) (drop-set-lt 4 b 1 v (omega arith))

module _ (words : List ℕ) (address size : ℕ) (four : 4 ≤ size) (inside : address + size ≤ length words) where
  size_is : length (words_at words address size) ≡ size
  size_is = length-words_at words address size inside

  at_zero : address + 0 ≡ address
  at_zero = omega arith

  -- a word of the block
  word_is : (k : ℕ) → k < size → get_or (words_at words address size) k 0 ≡ get_or words (address + k) 0
  word_is k l = get_or-take size (drop address words) k 0 l ∙ get_or-drop address words k 0

  pub forward_written : (v : ℕ) → record_at (set words address v) address size ≡ with_forward (record_at words address size) v
  forward_written v =
      ap (λ n. record_at (set words n v) address size) (sym at_zero)
      ∙ ap record_in (words_at-here words address 0 v size (omega arith)) ∙ block-set-forward (words_at words address size) v (omega (arith, size_is))

  pub link_written : (v : ℕ) → record_at (set words (address + 3) v) address size ≡ record_at words address size
  link_written v = ap record_in (words_at-here words address 3 v size (omega arith)) ∙ block-set-link (words_at words address size) v (omega (arith, size_is))

  pub colour_written : (c : Bool) → record_at (set words (address + 1) (recoloured (get_or words (address + 1) 0) c)) address size ≡ with_colour (record_at words address size) c
  colour_written c =
      ap record_in (words_at-here words address 1 (recoloured (get_or words (address + 1) 0) c) size (omega arith))
      ∙ ap (λ w. record_in (set (words_at words address size) 1 (recoloured w c))) (sym (word_is 1 (omega arith)))
      ∙ block-set-colour (words_at words address size) c (omega (arith, size_is))

-- a cell of the record is a word of the block
cell_inside : (b : List ℕ) (i : ℕ) → i < length (record_in b).cells → 4 + i < length b
unfolding record_in
cell_inside b i l = omega (arith, l, length-take (cell_count (header_in (get_or b 1 0))) (drop 4 b), length-drop 4 b)

pub cell_written : (words : List ℕ) (i v address size : ℕ) → i < length (record_at words address size).cells → address + size ≤ length words
    → record_at (set words (address + (4 + i)) v) address size ≡ with_cell (record_at words address size) i v
cell_written words i v address size within inside =
    let b = words_at words address size in
    let small : 4 + i < size = omega (arith, cell_inside b i within, length-words_at words address size inside) in
    ap record_in (words_at-here words address (4 + i) v size small) ∙ block-set-cell b i v within

text_length : (address identity : ℕ) (h : Header) → length (new_words address h identity) ≡ cell_count h + 4
text_length address identity h = omega (arith, length-replicate {A = ℕ} (cell_count h) 0)

pub new_block_here : (words : List ℕ) (address size identity : ℕ) (h : Header) → HeaderFits h → cell_count h + 4 ≤ size → address + size ≤ length words
    → record_at (spliced words address (new_words address h identity)) address size ≡ new_record address h identity
new_block_here words address size identity h fits room inside =
    ap record_in (words_at-spliced words (new_words address h identity) address size (omega arith) (omega (arith, text_length address identity h, room)))
    ∙ record_in-new_words address identity h _ fits

pub new_block_others : (words : List ℕ) (address size identity b t : ℕ) (h : Header) → cell_count h + 4 ≤ size → address + size ≤ length words
    → (b + t ≤ address) ⊎ (address + size ≤ b) → record_at (spliced words address (new_words address h identity)) b t ≡ record_at words b t
new_block_others words address size identity b t h room inside apart =
    ap record_in (words_at-spliced_other words (new_words address h identity) address b t (omega (arith, text_length address identity h, room, inside)) (side apart))
  where
    side : (b + t ≤ address) ⊎ (address + size ≤ b) → (b + t ≤ address) ⊎ (address + length (new_words address h identity) ≤ b)
    side w = let n = text_length address identity h in grind arith
