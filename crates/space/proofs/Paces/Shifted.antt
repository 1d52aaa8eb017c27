-- A heap does the same whatever units were spent.
use Rattle.std.proofs.Common.{◌≡◌, ℕ, ◌+◌, Option, subst, arith}
use Rattle.graph_heap.specs.Graph.{Graph}
use Rattle.graph_heap.specs.declared.command.Change.{Change}
use Rattle.heap_model.specs.declared.phase.Candidate.{Candidate}
use Rattle.heap_model.specs.State.{HeapState}
use Rattle.heap_model.specs.Spent.{IsWithin}
use Rattle.heap_model.specs.Represents.{Represents}
use Rattle.heap_model.specs.Action.{Action, Scans_root, Ends_roots, Scans_header, Scans_cell, Ends_marking, Frees_block, Passes_block, Closes_page, Ends_sweep, Looks_at_page, Chooses_page, Chooses_none, Moves_block, Ends_moving, Shades, Was_marked, Is_marked, AtPass, In_pass, After_page, MovingDone, No_class, No_page, Chain, Nothing_done, Then}
use Rattle.heap_model.specs.Change.{Records, Records_nothing, Records_main, Clears, Clears_none, Clears_next, DoesChange, Does_nothing, Does_root, Does_ref, Does_word, Does_new, Does_join, Does_leave}

-- a heap, as if this many units had been spent
abbrev pub at_units : ℕ → HeapState → HeapState
at_units u h = record h { units = u }

shades_at : (u : ℕ) (h k : HeapState) (x : ℕ) → Shades h x k → Shades (at_units u h) x (at_units u k)
shades_at u h k x (Was_marked e) = Was_marked e
shades_at u h k x (Is_marked new front back is e w) = Is_marked new front back is e w

pass_at : (u : ℕ) (h : HeapState) (class page : ℕ) (best : Option Candidate) (chosen : ℕ) → AtPass h class page best chosen → AtPass (at_units u h) class page best chosen
pass_at u h class page best chosen (In_pass class0 page0 best0 chosen0 e) = In_pass class page best chosen e
pass_at u h class page best chosen (After_page class0 page0 block chosen0 p e at l done less) = After_page class page0 block chosen p e at l done less

done_at : (u : ℕ) (h : HeapState) → MovingDone h → MovingDone (at_units u h)
done_at u h (No_class page best chosen e) = No_class page best chosen e
done_at u h (No_page class page block chosen p e at done less) = No_page class page block chosen p e at done less

action_at : (u : ℕ) (h after : HeapState) (cost : ℕ) → Action h cost after → Action (at_units u h) cost (at_units (u + cost) after)
action_at u h after cost (Scans_root next k e l sh) = Scans_root next (at_units u k) e l (shades_at u _ k _ sh)
action_at u h after cost (Ends_roots next e l) = Ends_roots next e l
action_at u h after cost (Scans_header part cell x front back e f n) = Scans_header part cell x front back e f n
action_at u h after cost (Scans_cell part cell new k e l w sh) = Scans_cell part cell new (at_units u k) e l w (shades_at u _ k _ sh)
action_at u h after cost (Ends_marking part cell e f n) = Ends_marking part cell e f n
action_at u h after cost (Frees_block page block p new e f was unmarked w pages) = Frees_block page block p new e f was unmarked w pages
action_at u h after cost (Passes_block page block p e f l marked) = Passes_block page block p e f l marked
action_at u h after cost (Closes_page page block new e l f w pages) = Closes_page page block new e l f w pages
action_at u h after cost (Ends_sweep page block e l) = Ends_sweep page block e l
action_at u h after cost (Looks_at_page class page best chosen at few more) = Looks_at_page class page best chosen (pass_at u h class page best chosen at) few more
action_at u h after cost (Chooses_page class page best chosen c p new at few last is good there w pages) = Chooses_page class page best chosen c p new (pass_at u h class page best chosen at) few last is good there w pages
action_at u h after cost (Chooses_none class page best chosen at few last is) = Chooses_none class page best chosen (pass_at u h class page best chosen at) few last is
action_at u h after cost (Moves_block class page block chosen i to j p q new e at evacuating next place there empty w pages) = Moves_block class page block chosen i to j p q new e at evacuating next place there empty w pages
action_at u h after cost (Ends_moving done) = Ends_moving (done_at u h done)

pub chain_at : (u : ℕ) (h after : HeapState) (spent : ℕ) → Chain h spent after → Chain (at_units u h) spent (at_units (u + spent) after)
chain_at u h after spent Nothing_done = let e : u ≡ u + 0 = omega arith in subst (λ z. Chain (at_units u h) 0 (at_units z h)) e Nothing_done
chain_at u h after spent (Then before cost j k linked chain links action) =
    let e : u + before + cost ≡ u + (before + cost) = omega arith in
    subst (λ z. Chain (at_units u h) (before + cost) (at_units z k)) e
    (Then before cost (at_units (u + before) j) (at_units (u + before + cost) k) linked (chain_at u h j before chain) links (action_at (u + before) (record j { store = linked }) k cost action))

records_at : (u : ℕ) (h k : HeapState) (x : ℕ) → Records h x k → Records (at_units u h) x (at_units u k)
records_at u h k x (Records_nothing e) = Records_nothing e
records_at u h k x (Records_main k0 e sh) = Records_main (at_units u k0) e (shades_at u h k0 _ sh)

clears_at : (u : ℕ) (h : HeapState) (first n : ℕ) (k : HeapState) → Clears h first n k → Clears (at_units u h) first n (at_units u k)
clears_at u h first n k Clears_none = Clears_none
clears_at u h first n k (Clears_next n0 j k0 c r) = Clears_next n0 (at_units u j) (at_units u k0) (clears_at u h first n0 j c) (records_at u j k0 _ r)

pub change_at : (u : ℕ) (h after : HeapState) (g : Graph) (c : Change) → DoesChange h g c after → DoesChange (at_units u h) g c (at_units u after)
change_at u h after g c Does_nothing = Does_nothing
change_at u h after g c (Does_root cell id y k r main) = Does_root cell id y (at_units u k) (records_at u h k _ r) main
change_at u h after g c (Does_ref id i value address y k new at r main writes) = Does_ref id i value address y (at_units u k) new at (records_at u h k _ r) main writes
change_at u h after g c (Does_word id i word address new at writes) = Does_word id i word address new at writes
change_at u h after g c (Does_new cell id shape k new at r makes takes) = Does_new cell id shape (at_units u k) new at (records_at u h k _ r) makes takes
change_at u h after g c (Does_join m) = Does_join m
change_at u h after g c (Does_leave m k clears) = Does_leave m (at_units u k) (clears_at u h _ _ k clears)

-- it represents the same graph heaps, if this many units are within those of its phase
pub represents_at : (u : ℕ) (h : HeapState) (present snapshot : Graph) → Represents h present snapshot → IsWithin (at_units u h) h.phase → Represents (at_units u h) present snapshot
represents_at u h present snapshot w within =
    let c = w.consistent in
    record {
      pages = w.pages;
      some = w.some;
      consistent = record { limits = c.limits; live = c.live; row = c.row; present_row = c.present_row; snapshot_row = c.snapshot_row; cells = c.cells; whole = c.whole; parts = c.parts };
      within = within;
      placed = w.placed;
      closed = w.closed;
    }
