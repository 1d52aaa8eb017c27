-- The collector, over references: one action, and the beginning of a cycle.
use Rattle.std.specs.Prelude.{◌≡◌, ◌≢◌, ℕ, ◌+◌, ◌<◌, ◌≤◌, Bool, true, false, List, [], ◌∷◌, ◌++◌, if◌then◌else◌}
use Rattle.heap_model.specs.Collector.{In_idle, In_roots, In_marking, In_sweep, In_moves, Collector}
use Rattle.heap_model.proofs.Core.Edits.{shade, set_root, set_cell, free, flip, move}

-- the main copy of a reference is shaded
abbrev pub shaded : Collector → ℕ → Collector
shaded m x = record m { heap = shade m.heap x; grey = if m.heap.marked x then m.grey else x ∷ m.grey }

-- a root is scanned: it is corrected, and its main copy shaded
abbrev pub root_scanned : Collector → ℕ → Collector
root_scanned m place =
    let x = m.heap.forward (m.heap.root place) in
    record (shaded (record m { heap = set_root m.heap place x }) x) { phase = In_roots (place + 1) }

-- the collector after a scan of the next cell of the block in scan
abbrev pub cell_scanned : Collector → Collector
cell_scanned m =
    let x = m.heap.forward (m.heap.cell m.scanning m.column) in
    record (shaded (record m { heap = set_cell m.heap m.scanning m.column x }) x) { column = m.column + 1 }

-- one action of the collector
pub data Acts (m : Collector) : Collector → Type 0 where
  Scans_root : (place : ℕ) → m.phase ≡ In_roots place → place < m.heap.roots → Acts m (root_scanned m place)
  Ends_roots : (place : ℕ) → m.phase ≡ In_roots place → m.heap.roots ≤ place → Acts m (record m { phase = In_marking })
  Scans_header : (front back : List ℕ) (x : ℕ) → m.phase ≡ In_marking → m.column ≡ m.heap.width m.scanning → m.grey ≡ front ++ x ∷ back
      → Acts m (record m { grey = front ++ back; scanning = x; column = 0 })
  Scans_cell : m.phase ≡ In_marking → m.column < m.heap.width m.scanning → Acts m (cell_scanned m)
  Ends_marking : m.phase ≡ In_marking → m.column ≡ m.heap.width m.scanning → m.grey ≡ [] → Acts m (record m { phase = In_sweep 0 })
  Keeps : (place more : ℕ) → m.phase ≡ In_sweep place → ((z : ℕ) → m.heap.allocated z ≡ true → place ≤ z → z < more → m.heap.marked z ≡ true) → Acts m (record m { phase = In_sweep more })
  Frees : (place x : ℕ) → m.phase ≡ In_sweep place → m.heap.marked x ≡ false → Acts m (record m { heap = free m.heap x })
  Ends_sweep : (place : ℕ) → m.phase ≡ In_sweep place → ((z : ℕ) → m.heap.allocated z ≡ true → z < place) → Acts m (record m { phase = In_idle })
  Ends_sweep_to_move : (place : ℕ) (is_target left : ℕ → Bool) → m.phase ≡ In_sweep place → ((z : ℕ) → m.heap.allocated z ≡ true → z < place) → Acts m (record m { phase = In_moves; is_target = is_target; left = left })
  Moves_block : (x y : ℕ) (is_target left : ℕ → Bool) → m.phase ≡ In_moves → m.heap.allocated x ≡ true → m.left x ≡ false → x ≢ 0 → m.is_target x ≡ false → m.heap.allocated y ≡ false
      → is_target y ≡ true → ((z : ℕ) → m.is_target z ≡ true → is_target z ≡ true) → left x ≡ true → ((z : ℕ) → m.left z ≡ true → left z ≡ true)
      → Acts m (record m { heap = move m.heap x y; is_target = is_target; left = left })
  Goes_past : (left : ℕ → Bool) → m.phase ≡ In_moves → ((z : ℕ) → m.left z ≡ true → left z ≡ true) → Acts m (record m { left = left })
  Ends_moves : m.phase ≡ In_moves → Acts m (record m { phase = In_idle })

-- a cycle begins
abbrev pub begun : Collector → Collector
begun m = record m { heap = flip m.heap; phase = In_roots 0; grey = []; scanning = 0; column = 0 }
