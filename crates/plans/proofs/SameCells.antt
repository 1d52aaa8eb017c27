-- An object takes the blocks of its cells, of whichever kind they are.
use Rattle.std.proofs.Common.{◌≡◌, ℕ, ◌+◌, Bool, true, false, if◌then◌else◌, refl, ap, ◌∙◌, sym, arith}
use Rattle.graph_heap.specs.declared.command.Shape.{Shape}
use Rattle.graph_heap.specs.declared.command.Shape.TheVariants.{Plain, RefArray, WordArray}
use Rattle.graph_heap.specs.Shape.{fits}
use Rattle.size_classes.specs.Need.{needed, blocks_needed}
use Rattle.size_classes.specs.Parts.{cells_of, parts_in}
use Rattle.fragmentation.specs.Flow.{words_of}
use Rattle.paced.specs.Pacing.{shape_words}
use Rattle.plans.specs.Objects.{object_words}

where_it_fits : (b : Bool) (blocks : ℕ → ℕ) → b ≡ true → words_of (λ class. if b then blocks class else 0) ≡ words_of blocks
where_it_fits true blocks e = refl
where_it_fits false blocks e = absurd (let z : false ≡ true = e in cc)

cells_alone : (n : ℕ) → n ≡ 0 + n
cells_alone n = omega arith

array_fits : (shape : Shape) → fits shape ≡ true → fits (WordArray (cells_of shape)) ≡ true
array_fits (Plain refs words) e = grind (arith, e)
array_fits (RefArray n) e = grind (arith, e)
array_fits (WordArray n) e = grind (arith, e)

-- An object of a shape within its limits takes the words of an array of as many word cells.
pub kinds_alike : (shape : Shape) → fits shape ≡ true → shape_words shape ≡ object_words (cells_of shape)
kinds_alike shape e =
    let n = cells_of shape in
    where_it_fits (fits shape) (needed shape) e ∙ ap (λ k. words_of (blocks_needed k (parts_in k))) (cells_alone n)
    ∙ sym (where_it_fits (fits (WordArray n)) (needed (WordArray n)) (array_fits shape e))
