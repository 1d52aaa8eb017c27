-- No event changes the settings of a heap.
use Rattle.std.proofs.Common.{◌≡◌, ℕ, ◌+◌, length, refl, ap, ◌∙◌, length-set}
use Rattle.graph_heap.specs.declared.command.Change.{Change}
use Rattle.graph_heap.specs.Graph.{Graph, first_slot}
use Rattle.size_classes.specs.Parts.{cells_of, parts_in}
use Rattle.heap_model.specs.State.{HeapState}
use Rattle.heap_model.specs.Action.{Action, Chain, Nothing_done, Then, Shades, Was_marked, Is_marked, Scans_root, Ends_roots, Scans_header, Scans_cell, Ends_marking, Frees_block, Passes_block, Closes_page, Ends_sweep, Looks_at_page, Chooses_page, Chooses_none, Moves_block, Ends_moving}
use Rattle.heap_model.specs.Change.{Records, Records_nothing, Records_main, DoesChange, Does_nothing, Does_root, Does_ref, Does_word, Does_new, Does_join, Does_leave, Clears, Clears_none, Clears_next}
use Rattle.heap_model.specs.Event.{Course, Event, Command_done, Cycle_begun, Begin_refused, Quantum_done, Quantum_refused, present_of, room_for, change_by, Does}
use Rattle.heap_model.specs.Settings.{HeapSettings, settings_of}
use Rattle.heap_model.proofs.Grey.Relinked.{relinked_settings}
use Rattle.heap_model.proofs.Spent.Actions.{shades_units}
use Rattle.heap_model.proofs.Marks.{action_count}
use Rattle.heap_model.proofs.Taking.{takes_count}

-- the settings except the number of pages
abbrev pub others : HeapState → HeapSettings
others h = record (settings_of h) { pages = 0 }

-- the others, with this many pages
abbrev with_pages : HeapSettings → ℕ → HeapSettings
with_pages s n = record s { pages = n }

settings_same : (h k : HeapState) → others k ≡ others h → length k.store.pages ≡ length h.store.pages → settings_of k ≡ settings_of h
settings_same h k same count = ap (λ (s : HeapSettings). with_pages s (length k.store.pages)) same ∙ ap (with_pages (others h)) count

shades_settings : (h k : HeapState) (x : ℕ) → Shades h x k → settings_of k ≡ settings_of h
shades_settings h k x (Was_marked m) = refl
shades_settings h k x (Is_marked new front back is m writes) = ap (with_pages (others h)) (ap length writes.pages)

records_settings : (h k : HeapState) (x : ℕ) → Records h x k → settings_of k ≡ settings_of h
records_settings h k x (Records_nothing r) = refl
records_settings h after x (Records_main k r s) = shades_settings h k _ s

-- an action spends its cost, and keeps the number of roots, and each setting except the number of pages
pub action_rest : (h after : HeapState) (cost : ℕ) → Action h cost after → (others after ≡ others h) × (after.units ≡ h.units + cost) × (length after.roots ≡ length h.roots)
action_rest h after cost (Scans_root next k e l sh) = (ap (λ (s : HeapSettings). with_pages s 0) (shades_settings _ k _ sh), ap (λ z. z + 1) (shades_units _ k _ sh).0, ap length (shades_units _ k _ sh).1 ∙ length-set h.roots next _)
action_rest h after cost (Ends_roots next e l) = (refl, refl, refl)
action_rest h after cost (Scans_header part cell x front back e f n) = (refl, refl, refl)
action_rest h after cost (Scans_cell part cell new k e l w sh) = (ap (λ (s : HeapSettings). with_pages s 0) (shades_settings _ k _ sh), ap (λ z. z + 1) (shades_units _ k _ sh).0, ap length (shades_units _ k _ sh).1)
action_rest h after cost (Ends_marking part cell e f n) = (refl, refl, refl)
action_rest h after cost (Frees_block page block p new e f was unmarked w pages) = (refl, refl, refl)
action_rest h after cost (Passes_block page block p e f l marked) = (refl, refl, refl)
action_rest h after cost (Closes_page page block new e l f w pages) = (refl, refl, refl)
action_rest h after cost (Ends_sweep page block e l) = (refl, refl, refl)
action_rest h after cost (Looks_at_page class page best chosen at few more) = (refl, refl, refl)
action_rest h after cost (Chooses_page class page best chosen c p new at few last is good there w pages) = (refl, refl, refl)
action_rest h after cost (Chooses_none class page best chosen at few last is) = (refl, refl, refl)
action_rest h after cost (Moves_block class page block chosen i to j p q new e at evacuating next place there empty w pages) = (refl, refl, refl)
action_rest h after cost (Ends_moving done) = (refl, refl, refl)

pub action_settings : (h after : HeapState) (cost : ℕ) → Action h cost after → settings_of after ≡ settings_of h
action_settings h after cost a = settings_same h after (action_rest h after cost a).0 (action_count h after cost a)

pub chain_settings : (h after : HeapState) (units : ℕ) → Chain h units after → settings_of after ≡ settings_of h
chain_settings h after units Nothing_done = refl
chain_settings h after units (Then u cost j k linked chain links a) =
    let i : HeapState = record j { store = linked } in
    action_settings i k cost a ∙ relinked_settings j linked links ∙ chain_settings h j u chain

clears_settings : (h : HeapState) (first n : ℕ) (k : HeapState) → Clears h first n k → settings_of k ≡ settings_of h
clears_settings h first n k Clears_none = refl
clears_settings h first n k (Clears_next n0 j k0 c r) = records_settings j k0 _ r ∙ clears_settings h first n0 j c

pub change_settings : (h after : HeapState) (g : Graph) (c : Change) → DoesChange h g c after → settings_of after ≡ settings_of h
change_settings h after g c Does_nothing = refl
change_settings h after g c (Does_root cell id y k r main) = records_settings h k _ r
change_settings h after g c (Does_ref id i value address y k new at r main writes) = ap (with_pages (others k)) (ap length writes.pages) ∙ records_settings h k _ r
change_settings h after g c (Does_word id i word address new at writes) = ap (with_pages (others h)) (ap length writes.pages)
change_settings h after g c (Does_new cell id shape k new at r makes takes) = ap (with_pages (others k)) (takes_count (cells_of shape) at k.store.pages (parts_in (cells_of shape)) new.pages takes) ∙ records_settings h k _ r
change_settings h after g c (Does_join m) = refl
change_settings h after g c (Does_leave m k clears) = clears_settings h (first_slot g.limits m) g.limits.slots k clears

pub does_settings : (r : Course) (e : Event) (new : Course) → Does r e new → settings_of new.heap ≡ settings_of r.heap
does_settings r (Command_done m c reply) new d = change_settings r.heap new.heap (present_of r) (change_by (room_for r.heap c) (present_of r) m c) d.change
does_settings r Cycle_begun new d = ap settings_of d.heap
does_settings r Begin_refused new d = ap (λ (x : Course). settings_of x.heap) d.1
does_settings r (Quantum_done budget units phase) new d = chain_settings r.heap new.heap units d.turn.chain
does_settings r (Quantum_refused budget) new d = ap (λ (x : Course). settings_of x.heap) d.1
