-- Places worked out by hand, of what the contracts name.
use Rattle.std.specs.Prelude.{◌≡◌, ℕ, Ok, Err}
use Rattle.std.proofs.Common.{refl}
use Rattle.graph_heap.specs.declared.command.Shape.TheVariants.{Plain, RefArray, WordArray}
use Rattle.graph_heap.specs.declared.command.Refusal.TheVariants.{BadIndex, WrongKind}
use Rattle.size_classes.specs.Parts.{part_in, column_in}
use Rattle.heap_model.specs.Cut.{width_in}
use Rattle.arraylets.specs.CellPosition.{ref_position, word_position}

-- cell i of an array of n references, and of n words, stands in this part, as this cell of it
abbrev Stands : ℕ → ℕ → ℕ → ℕ → Type 0
Stands n i part cell = (ref_position (RefArray n) i ≡ Ok (record { part = part; cell = cell })) × (word_position (WordArray n) i ≡ Ok (record { part = part; cell = cell }))

-- one piece
one_piece : Stands 252 0 0 0 × Stands 252 251 0 251
unfolding part_in column_in width_in
one_piece = ((refl, refl), (refl, refl))

-- a spine before the pieces
one_spine : Stands 505 0 1 0 × Stands 505 251 1 251 × Stands 505 252 2 0 × Stands 505 503 2 251 × Stands 505 504 3 0
unfolding part_in column_in width_in
one_spine = ((refl, refl), (refl, refl), (refl, refl), (refl, refl), (refl, refl))

-- the largest under one spine
largest_of_one_spine : Stands 63504 63503 252 251
unfolding part_in column_in width_in
largest_of_one_spine = (refl, refl)

-- two spines under a root spine
two_spines : Stands 63505 0 3 0 × Stands 63505 63503 254 251 × Stands 63505 63504 255 0
unfolding part_in column_in width_in
two_spines = ((refl, refl), (refl, refl), (refl, refl))

-- the largest array
most_spines : Stands 4000000 63504 316 0 × Stands 4000000 3999999 15937 3
unfolding part_in column_in width_in
most_spines = ((refl, refl), (refl, refl))

-- an object of two references and three words has its words behind its references
plain : (ref_position (Plain 2 3) 1 ≡ Ok (record { part = 0; cell = 1 })) × (word_position (Plain 2 3) 2 ≡ Ok (record { part = 0; cell = 4 }))
unfolding part_in column_in width_in
plain = (refl, refl)

-- what isn't there
past_the_end : (word_position (WordArray 505) 505 ≡ Err BadIndex) × (ref_position (Plain 2 3) 2 ≡ Err BadIndex) × (word_position (Plain 2 3) 3 ≡ Err BadIndex)
past_the_end = (refl, refl, refl)

another_kind : (word_position (RefArray 505) 0 ≡ Err WrongKind) × (ref_position (WordArray 505) 0 ≡ Err WrongKind)
another_kind = (refl, refl)
