-- The block of a part, step by step.
use Rattle.std.proofs.Common.{◌≡◌, ◌≢◌, ℕ, true, false, ◌==◌, refl, arith}
use Rattle.size_classes.specs.Parts.{spine_of, spine_cell_of}
use Rattle.heap_model.specs.Store.{Store}
use Rattle.heap_model.specs.Reading.{step_to, spine_at, block_of}

module _ (s : Store) (cells block part : ℕ) where
  pub from_root : spine_of cells part ≡ 0 → block ≡ spine_at s cells block part
  from_root e = let t : (spine_of cells part == 0) ≡ true = grind (arith, e) in rw t refl

  pub from_spine : spine_of cells part ≢ 0 → step_to s block (spine_cell_of cells (spine_of cells part)) ≡ spine_at s cells block part
  from_spine d = let t : (spine_of cells part == 0) ≡ false = grind (arith, d) in rw t refl

  pub from_part : part ≢ 0 → step_to s (spine_at s cells block part) (spine_cell_of cells part) ≡ block_of s cells block part
  from_part d = let t : (part == 0) ≡ false = grind (arith, d) in rw t refl
