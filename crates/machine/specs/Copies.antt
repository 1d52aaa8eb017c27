-- The change of copies by a move.
use Rattle.std.specs.Prelude.{◌≡◌, ◌≢◌, ℕ, true, false}
use Rattle.heap_model.specs.Store.{Store, is_allocated, record_of}
use Rattle.nodes.specs.Copies.{is_main, is_old}

-- Exactly one main copy becomes an old copy, and a block that was free is the main copy in its place. Each other
-- block is allocated or not, and forwards, as before.
pub record MakesOneOld (old new : Store) : Type 0 where
  pub from : ℕ
  pub to : ℕ
  pub main : is_main old from ≡ true
  pub becomes_old : is_old new from ≡ true
  pub free : is_allocated old to ≡ false
  pub in_its_place : is_main new to ≡ true
  pub leads : (record_of new from).forward ≡ to
  pub allocated : (b : ℕ) → b ≢ to → is_allocated new b ≡ is_allocated old b
  pub forward : (b : ℕ) → b ≢ from → is_allocated old b ≡ true → (record_of new b).forward ≡ (record_of old b).forward
