-- Figures worked out by hand, of what the contracts name.
use Rattle.std.specs.Prelude.{◌≡◌, Some, None}
use Rattle.std.proofs.Common.{refl}
use Rattle.size_classes.specs.Sizes.{class_for}
use Rattle.size_classes.specs.Parts.{parts_in, part_words, spine_of, spine_cell_of}

-- a block of no words, and of more than the largest has
no_words : class_for 0 ≡ Some 0
unfolding class_for
no_words = refl

too_many_words : class_for 257 ≡ None
unfolding class_for
too_many_words = refl

-- an array of one spine: the spine, a whole piece, and the rest
one_spine : (parts_in 253 ≡ 3) × (part_words 253 0 ≡ 6) × (part_words 253 1 ≡ 256) × (part_words 253 2 ≡ 5)
one_spine = (refl, refl, refl, refl)

largest_of_one_spine : parts_in 63504 ≡ 253
largest_of_one_spine = refl

-- two spines under a root spine, and 63
two_spines : (parts_in 63505 ≡ 256) × (part_words 63505 0 ≡ 6) × (part_words 63505 1 ≡ 256) × (part_words 63505 2 ≡ 5) × (part_words 63505 254 ≡ 256) × (part_words 63505 255 ≡ 5)
two_spines = (refl, refl, refl, refl, refl, refl)

two_spines_of_more : (parts_in 63757 ≡ 257) × (part_words 63757 2 ≡ 6) × (part_words 63757 255 ≡ 256) × (part_words 63757 256 ≡ 5)
two_spines_of_more = (refl, refl, refl, refl)

most_spines : (parts_in 4000000 ≡ 15938) × (part_words 4000000 0 ≡ 67) × (part_words 4000000 62 ≡ 256) × (part_words 4000000 63 ≡ 254) × (part_words 4000000 64 ≡ 256) × (part_words 4000000 15937 ≡ 8)
most_spines = (refl, refl, refl, refl, refl, refl)

-- which spine refers to a part, and in which cell
referred_to_of_two_spines : (spine_of 63505 2 ≡ 0) × (spine_cell_of 63505 2 ≡ 1) × (spine_of 63505 254 ≡ 1) × (spine_cell_of 63505 254 ≡ 251) × (spine_of 63505 255 ≡ 2) × (spine_cell_of 63505 255 ≡ 0)
referred_to_of_two_spines = (refl, refl, refl, refl, refl, refl)

referred_to_of_most_spines : (spine_of 4000000 63 ≡ 0) × (spine_cell_of 4000000 63 ≡ 62) × (spine_of 4000000 64 ≡ 1) × (spine_cell_of 4000000 64 ≡ 0) × (spine_of 4000000 15937 ≡ 63) × (spine_cell_of 4000000 15937 ≡ 249)
referred_to_of_most_spines = (refl, refl, refl, refl, refl, refl)
