-- Figures worked out by hand, of what the contracts name.
use Rattle.std.specs.Prelude.{◌≡◌, true, false}
use Rattle.std.proofs.Common.{refl}
use Rattle.graph_heap.specs.declared.command.Shape.TheVariants.{RefArray}
use Rattle.heap_model.specs.Header.{header_word, header_in, recoloured}

-- the third part of an array of 253 references, and what its word says
third_part : header_word (record { shape = RefArray 253; part = 2; colour = false }) ≡ 8589999361
third_part = refl

marked : recoloured 8589999361 true ≡ 8589999365
marked = refl

said : header_in 8589999365 ≡ record { shape = RefArray 253; part = 2; colour = true }
said = refl
