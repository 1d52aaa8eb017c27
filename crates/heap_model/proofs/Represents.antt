-- A heap represents graph heaps through actions, chains and beginnings.
use Rattle.std.proofs.Common.{refl, ◌≡◌, ℕ, ◌<◌, ◌≤◌, true, false, length, ap, subst, sym, ◌∙◌, arith}
use Rattle.std.specs.Prelude.{Some, None}
use Rattle.graph_heap.specs.Graph.{Graph, opening}
use Rattle.size_classes.specs.declared.class.TheConstants.{CLASSES}
use Rattle.heap_model.specs.declared.phase.Phase.TheVariants as phases
use Rattle.heap_model.specs.declared.phase.Moving.TheVariants as moves
use Rattle.heap_model.specs.Pages.{page_at}
use Rattle.heap_model.specs.State.{HeapState}
use Rattle.heap_model.specs.Opening.{IsOpening}
use Rattle.heap_model.specs.Action.{Action, Scans_root, Ends_roots, Scans_header, Scans_cell, Ends_marking, Frees_block, Passes_block, Closes_page, Ends_sweep, Looks_at_page, Chooses_page, Chooses_none, Moves_block, Ends_moving, In_pass, After_page, No_class, No_page, Chain, Nothing_done, Then, begun}
use Rattle.heap_model.specs.Swept.{IsSwept}
use Rattle.heap_model.specs.Spent.{IsWithin, cycle_limit}
use Rattle.heap_model.specs.Placed.{IsPlaced}
use Rattle.heap_model.specs.Marks.{HasNoMark, AreClosed}
use Rattle.heap_model.specs.Represents.{Represents, is_sweeping}
use Rattle.heap_model.proofs.Action.Each.{action_kept, begun_kept}
use Rattle.heap_model.proofs.Spent.Actions.{within_kept, begun_within, limit_kept}
use Rattle.heap_model.proofs.Marks.{action_pages, action_count, action_placed, action_closed, no_mark}
use Rattle.heap_model.proofs.Opening.{opening_represents, page_none}
use Rattle.heap_model.proofs.Grey.Relinked.{represents_relinked}
use Rattle.heap_model.proofs.Swept.{swept}

pub represents_action : (h after : HeapState) (cost : ℕ) (present snapshot : Graph) → Represents h present snapshot → Action h cost after → Represents after present snapshot
represents_action h after cost p s w a = record {
  pages = action_pages h after cost w.pages a;
  some = (let e = action_count h after cost a in let l = w.some in omega arith);
  consistent = action_kept h after cost p s w.pages w.consistent a;
  within = within_kept h after cost p s w.some w.pages w.consistent w.within a;
  placed = action_placed h after cost a;
  closed = action_closed h after cost w.closed a;
}

pub represents_chain : (h after : HeapState) (spent : ℕ) (present snapshot : Graph) → Represents h present snapshot → Chain h spent after → Represents after present snapshot
represents_chain h after spent p s w Nothing_done = w
represents_chain h after spent p s w (Then u cost j k linked chain links action) = represents_action (record j { store = linked }) k cost p s (represents_relinked j linked links p s (represents_chain h j u p s w chain)) action

pub represents_begun : (h : HeapState) (present snapshot : Graph) → Represents h present snapshot → h.phase ≡ phases.Idle → Represents (begun h) present present
represents_begun h p s w e = record { pages = w.pages; some = w.some; consistent = begun_kept h p s w.consistent e; within = begun_within h; placed = tt; closed = tt }

pub represents_limit : (h : HeapState) (present snapshot : Graph) → Represents h present snapshot → h.units ≤ cycle_limit h
represents_limit h p s w = limit_kept h p s w.some w.pages w.consistent w.within

-- the opening heap
pub represents_opening : (h : HeapState) → IsOpening h → 0 < length h.store.pages → Represents h (opening h.limits) (opening h.limits)
represents_opening h o l = record {
  pages = record { each = λ k p e. absurd (let z : None ≡ Some p = sym (ap (λ y. page_at y k) o.pages ∙ page_none (length h.store.pages) k) ∙ e in cc) };
  some = l;
  consistent = opening_represents h o;
  within = subst (IsWithin h) (sym o.phase) (let u : h.units ≡ 0 = o.units in within_none h.units (cycle_limit h) u);
  placed = subst (IsPlaced h.store.pages) (sym o.phase) tt;
  closed = subst (AreClosed h.store.pages) (sym o.phase) tt;
}
  where
    within_none : (u l : ℕ) → u ≡ 0 → u ≤ l
    within_none u l e = omega arith

-- An action ends the sweep.
pub sweep_change : (h after : HeapState) (cost : ℕ) (present snapshot : Graph) → Represents h present snapshot → Action h cost after → is_sweeping h.phase ≡ true → is_sweeping after.phase ≡ false
    → IsSwept after present snapshot × ((k : ℕ) → HasNoMark (page_at after.store.pages k))
sweep_change h after cost p s w (Scans_root next k e l sh) on off = absurd (let z : true ≡ false = sym on ∙ ap is_sweeping e in cc)
sweep_change h after cost p s w (Ends_roots next e l) on off = absurd (let z : true ≡ false = sym on ∙ ap is_sweeping e in cc)
sweep_change h after cost p s w (Scans_header part cell x front back e f n) on off = absurd (let z : true ≡ false = sym on ∙ ap is_sweeping e in cc)
sweep_change h after cost p s w (Scans_cell part cell new k e l w0 sh) on off = absurd (let z : true ≡ false = sym on ∙ ap is_sweeping e in cc)
sweep_change h after cost p s w (Ends_marking part cell e f n) on off = absurd (let z : true ≡ false = sym on ∙ ap is_sweeping e in cc)
sweep_change h after cost p s w (Frees_block page block q new e f was unmarked w0 pages) on off = absurd (cc)
sweep_change h after cost p s w (Passes_block page block q e f l marked) on off = absurd (cc)
sweep_change h after cost p s w (Closes_page page block new e l f w0 pages) on off = absurd (cc)
sweep_change h after cost p s w (Ends_sweep page block e l) on off =
    let v = swept h p s page block w.consistent e l in
    (record { main = v.main; kept = v.kept; part = v.part; one = v.one; each = v.each; cells = v.cells; roots = v.roots }, no_mark h.store.pages page (subst (AreClosed h.store.pages) e w.closed) l)
sweep_change h after cost p s w (Looks_at_page class page best chosen (In_pass class0 page0 best0 chosen0 e) few more) on off = absurd (let z : true ≡ false = sym on ∙ ap is_sweeping e in cc)
sweep_change h after cost p s w (Looks_at_page class page best chosen (After_page class0 page0 block chosen0 q e at l done less) few more) on off = absurd (let z : true ≡ false = sym on ∙ ap is_sweeping e in cc)
sweep_change h after cost p s w (Chooses_page class page best chosen b q new (In_pass class0 page0 best0 chosen0 e) few last is good there w0 pages) on off = absurd (let z : true ≡ false = sym on ∙ ap is_sweeping e in cc)
sweep_change h after cost p s w (Chooses_page class page best chosen b q new (After_page class0 page0 block chosen0 r e at l done less) few last is good there w0 pages) on off = absurd (let z : true ≡ false = sym on ∙ ap is_sweeping e in cc)
sweep_change h after cost p s w (Chooses_none class page best chosen (In_pass class0 page0 best0 chosen0 e) few last is) on off = absurd (let z : true ≡ false = sym on ∙ ap is_sweeping e in cc)
sweep_change h after cost p s w (Chooses_none class page best chosen (After_page class0 page0 block chosen0 r e at l done less) few last is) on off = absurd (let z : true ≡ false = sym on ∙ ap is_sweeping e in cc)
sweep_change h after cost p s w (Moves_block class page block chosen i to j q r new e at evacuating next place there empty w0 pages) on off = absurd (let z : true ≡ false = sym on ∙ ap is_sweeping e in cc)
sweep_change h after cost p s w (Ends_moving (No_class page best chosen e)) on off = absurd (let z : true ≡ false = sym on ∙ ap is_sweeping e in cc)
sweep_change h after cost p s w (Ends_moving (No_page class page block chosen q e at done less)) on off = absurd (let z : true ≡ false = sym on ∙ ap is_sweeping e in cc)

-- idle does nothing
idle_rests : (h after : HeapState) (cost : ℕ) → Action h cost after → h.phase ≡ phases.Idle → ⊥
idle_rests h after cost (Scans_root next k e l sh) i = let z : phases.Idle ≡ phases.Roots next = sym i ∙ e in cc
idle_rests h after cost (Ends_roots next e l) i = let z : phases.Idle ≡ phases.Roots next = sym i ∙ e in cc
idle_rests h after cost (Scans_header part cell x front back e f n) i = let z : phases.Idle ≡ phases.Marking part cell = sym i ∙ e in cc
idle_rests h after cost (Scans_cell part cell new k e l w0 sh) i = let z : phases.Idle ≡ phases.Marking part cell = sym i ∙ e in cc
idle_rests h after cost (Ends_marking part cell e f n) i = let z : phases.Idle ≡ phases.Marking part cell = sym i ∙ e in cc
idle_rests h after cost (Frees_block page block q new e f was unmarked w0 pages) i = let z : phases.Idle ≡ phases.Sweeping page block = sym i ∙ e in cc
idle_rests h after cost (Passes_block page block q e f l marked) i = let z : phases.Idle ≡ phases.Sweeping page block = sym i ∙ e in cc
idle_rests h after cost (Closes_page page block new e l f w0 pages) i = let z : phases.Idle ≡ phases.Sweeping page block = sym i ∙ e in cc
idle_rests h after cost (Ends_sweep page block e l) i = let z : phases.Idle ≡ phases.Sweeping page block = sym i ∙ e in cc
idle_rests h after cost (Looks_at_page class page best chosen (In_pass class0 page0 best0 chosen0 e) few more) i = let z : phases.Idle ≡ phases.Moving (moves.Pass class page best chosen) = sym i ∙ e in cc
idle_rests h after cost (Looks_at_page class page best chosen (After_page class0 page0 block chosen0 q e at l done less) few more) i = let z : phases.Idle ≡ phases.Moving (moves.Emptying class page0 block chosen) = sym i ∙ e in cc
idle_rests h after cost (Chooses_page class page best chosen b q new (In_pass class0 page0 best0 chosen0 e) few last is good there w0 pages) i = let z : phases.Idle ≡ phases.Moving (moves.Pass class page best chosen) = sym i ∙ e in cc
idle_rests h after cost (Chooses_page class page best chosen b q new (After_page class0 page0 block chosen0 r e at l done less) few last is good there w0 pages) i = let z : phases.Idle ≡ phases.Moving (moves.Emptying class page0 block chosen) = sym i ∙ e in cc
idle_rests h after cost (Chooses_none class page best chosen (In_pass class0 page0 best0 chosen0 e) few last is) i = let z : phases.Idle ≡ phases.Moving (moves.Pass class page best chosen) = sym i ∙ e in cc
idle_rests h after cost (Chooses_none class page best chosen (After_page class0 page0 block chosen0 r e at l done less) few last is) i = let z : phases.Idle ≡ phases.Moving (moves.Emptying class page0 block chosen) = sym i ∙ e in cc
idle_rests h after cost (Moves_block class page block chosen k to j q r new e at evacuating next place there empty w0 pages) i = let z : phases.Idle ≡ phases.Moving (moves.Emptying class page block chosen) = sym i ∙ e in cc
idle_rests h after cost (Ends_moving (No_class page best chosen e)) i = let z : phases.Idle ≡ phases.Moving (moves.Pass CLASSES page best chosen) = sym i ∙ e in cc
idle_rests h after cost (Ends_moving (No_page class page block chosen q e at done less)) i = let z : phases.Idle ≡ phases.Moving (moves.Emptying class page block chosen) = sym i ∙ e in cc

pub idle_chain : (h after : HeapState) (spent : ℕ) → Chain h spent after → h.phase ≡ phases.Idle → (after ≡ h) × (spent ≡ 0)
idle_chain h after spent Nothing_done i = (refl, refl)
idle_chain h after spent (Then u cost j k linked chain links action) i = absurd (idle_rests (record j { store = linked }) k cost action (ap (λ (z : HeapState). z.phase) (idle_chain h j u chain i).0 ∙ i))
