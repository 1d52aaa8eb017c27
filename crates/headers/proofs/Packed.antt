-- A packed header is unpacked again.
use Rattle.std.proofs.Common.{◌≡◌, ℕ, false, List, ◌∷◌, ◌++◌, replicate, refl, ap, ◌∙◌, arith}
use Rattle.std.proofs.lemmas.List.{take_at, length-replicate}
use Rattle.std.proofs.lemmas.Grind.{common_steps}
use Rattle.graph_heap.specs.declared.command.Shape.TheVariants.{RefArray}
use Rattle.heap_model.specs.Header.{Header, header_word, header_in, HeaderFits}
use Rattle.heap_model.specs.Block.{BlockRecord, record_in, record_by, cell_count, new_record}

pub header_in-header_word : (h : Header) → HeaderFits h → header_in (header_word h) ≡ h
header_in-header_word h fits = grind (arith, common_steps, fits)

by_head : (a identity : ℕ) (w : ℕ) (h : Header) (cells : List ℕ) → header_in w ≡ h → record_by (header_in w) (a ∷ w ∷ identity ∷ 0 ∷ cells) ≡ record_by h (a ∷ w ∷ identity ∷ 0 ∷ cells)
by_head a identity w h cells e = ap (λ x. record_by x (a ∷ w ∷ identity ∷ 0 ∷ cells)) e

pub record_in-new_words : (a identity : ℕ) (h : Header) (tail : List ℕ) → HeaderFits h → record_in ((a ∷ header_word h ∷ identity ∷ 0 ∷ replicate (cell_count h) 0) ++ tail) ≡ new_record a h identity
unfolding record_in
record_in-new_words a identity h tail fits =
    by_head a identity (header_word h) h (replicate (cell_count h) 0 ++ tail) (header_in-header_word h fits)
    ∙ ap (λ (cells : List ℕ). let n : BlockRecord = record { forward = a; shape = h.shape; part = h.part; colour = h.colour; identity = identity; cells = cells } in n)
    (take_at (replicate (cell_count h) 0) tail (cell_count h) (length-replicate (cell_count h) 0))

-- word 1 of part 2 of an array of 253 references
example : header_word (let h : Header = record { shape = RefArray 253; part = 2; colour = false } in h) ≡ 8589999361
example = refl
