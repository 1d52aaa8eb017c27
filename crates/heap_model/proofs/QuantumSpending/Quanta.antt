-- What a turn spends.
use Rattle.std.proofs.Common.{◌≡◌, ℕ, ◌+◌, ◌<◌, ◌≤◌, arith}
use Rattle.size_classes.proofs.Table.{size_low, size_high}
use Rattle.heap_model.specs.Pages.{ArePages}
use Rattle.heap_model.specs.State.{HeapState}
use Rattle.heap_model.specs.Action.{Action, Scans_root, Ends_roots, Scans_header, Scans_cell, Ends_marking, Frees_block, Passes_block, Closes_page, Ends_sweep, Looks_at_page, Chooses_page, Chooses_none, Moves_block, Ends_moving, Chain, Nothing_done, Then}
use Rattle.heap_model.proofs.Store.Allocated.{is_page}
use Rattle.heap_model.proofs.Settings.{action_rest}

-- an action costs from 1 to 256 units, and they are spent
pub action_cost : (h after : HeapState) (cost : ℕ) → ArePages h.store.pages → Action h cost after → (0 < cost) × (cost ≤ 256)
action_cost h after cost w (Scans_root next k e l sh) = (omega arith, omega arith)
action_cost h after cost w (Ends_roots next e l) = (omega arith, omega arith)
action_cost h after cost w (Scans_header part cell x front back e f n) = (omega arith, omega arith)
action_cost h after cost w (Scans_cell part cell new k e l w0 sh) = (omega arith, omega arith)
action_cost h after cost w (Ends_marking part cell e f n) = (omega arith, omega arith)
action_cost h after cost w (Frees_block page block q new e f was unmarked w0 pages) = (omega arith, omega arith)
action_cost h after cost w (Passes_block page block q e f l marked) = (omega arith, omega arith)
action_cost h after cost w (Closes_page page block new e l f w0 pages) = (omega arith, omega arith)
action_cost h after cost w (Ends_sweep page block e l) = (omega arith, omega arith)
action_cost h after cost w (Looks_at_page class page best chosen at few more) = (omega arith, omega arith)
action_cost h after cost w (Chooses_page class page best chosen b q new at few last is good there w0 pages) = (omega arith, omega arith)
action_cost h after cost w (Chooses_none class page best chosen at few last is) = (omega arith, omega arith)
action_cost h after cost w (Moves_block class page block chosen k to j q r new e at evacuating next place there empty w0 pages) =
    let is = is_page h.store page q w at in
    let low = size_low q.class is.class in
    let high = size_high q.class is.class in
    (omega arith, high)
action_cost h after cost w (Ends_moving done) = (omega arith, omega arith)

-- what a chain costs is spent
pub chain_units : (h after : HeapState) (spent : ℕ) → Chain h spent after → after.units ≡ h.units + spent
chain_units h after spent Nothing_done = omega arith
chain_units h after spent (Then u cost j k linked chain links action) = let a = chain_units h j u chain in let b = (action_rest (record j { store = linked }) k cost action).1 in omega arith
