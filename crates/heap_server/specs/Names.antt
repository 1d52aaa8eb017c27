-- The names of a server.
use Rattle.std.specs.Prelude.{ℕ}
use Rattle.logbook.specs.Pages.{Book}
use Rattle.heap_model.specs.Settings.{HeapSettings}

-- the settings of its heap, the names of its ledgers, and the book of its entries
pub record Names : Type 0 where
  pub settings : HeapSettings
  pub calls : ℕ
  pub begun : ℕ
  pub ended : ℕ
  pub quanta : ℕ
  pub units : ℕ
  pub book : Book
