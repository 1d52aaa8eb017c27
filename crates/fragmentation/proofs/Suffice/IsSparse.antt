-- However many pages a cycle may empty: of each class one page more than its blocks take at most, and the pages that are evacuating once.
use Rattle.std.specs.Prelude.{ℕ, ◌<◌, ◌≤◌}
use Rattle.size_classes.specs.declared.class.TheConstants.{CLASSES}
use Rattle.size_classes.specs.Sizes.{blocks_in}
use Rattle.heap_model.specs.declared.phase.Phase.{Phase}
use Rattle.heap_model.specs.Store.{Store}
use Rattle.fragmentation.specs.Suffice.{gathered_pages}
use Rattle.fragmentation.proofs.Tight.IsLeftover.{kept_pages, IsSettled, IsMoved, IsEmptied, ByPhase, AreSettled}

-- In moving, the class has been passed.
pub record IsPassed (s : Store) (class need : ℕ) : Type 0 where
  pub settled : IsSettled s class need
  pub moved : IsMoved s class need

abbrev pub ArePassed : Store → (ℕ → ℕ) → Type 0
ArePassed s need = (class : ℕ) → class < CLASSES → IsPassed s class (need class)

pub record Empties (s : Store) (page block : ℕ) (need : ℕ → ℕ) : Type 0 where
  pub class : ℕ
  pub emptied : IsEmptied s class page block (λ k. IsPassed s k (need k))
  pub few : kept_pages s.pages class page ≤ gathered_pages class (need class)
  pub enough : blocks_in class ≤ need class

abbrev pub IsSparse : Store → Phase → (ℕ → ℕ) → Type 0
IsSparse s p need = ByPhase (AreSettled s need) (λ chosen. ArePassed s need) (λ page block chosen. Empties s page block need) p
