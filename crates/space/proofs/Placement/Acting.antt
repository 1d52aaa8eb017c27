-- The blocks after each action.
use Rattle.std.proofs.Common.{◌≡◌, ℕ, ◌-◌, Bool, true, false, if◌then◌else◌, List, None, ap, ◌∙◌, refl}
use Rattle.graph_heap.specs.Graph.{Object, Graph}
use Rattle.heap_model.specs.declared.phase.Phase.TheVariants as phases
use Rattle.heap_model.specs.declared.phase.Moving.TheVariants as moves
use Rattle.heap_model.specs.Pages.{with_allocated}
use Rattle.heap_model.specs.State.{HeapState}
use Rattle.heap_model.specs.Action.{Action, Scans_root, Ends_roots, Scans_header, Scans_cell, Ends_marking, Frees_block, Passes_block, Closes_page, Ends_sweep, Looks_at_page, Chooses_page, Chooses_none, Moves_block, Ends_moving, is_sparse}
use Rattle.heap_model.specs.Represents.{Represents}
use Rattle.heap_model.specs.Phases.{awaits_sweep_end}
use Rattle.space.specs.Placement.{IsTidy, KeepsOnly}
use Rattle.space.proofs.Placement.Tidying.{shrinks_then, shrinks_writes, shrinks_shades, shrinks_keeps, shrinks_frees, tidy_same, tidy_put, tidy_close, tidy_move, only_less}

-- Each action keeps blocks at their proper places.
pub tidy_action : (h after : HeapState) (cost : ℕ) (present snapshot : Graph) (objects : List Object) → Represents h present snapshot → Action h cost after → IsTidy h.store objects → IsTidy after.store objects
tidy_action h after cost g s objects st (Scans_root next k e l sh) w = let f = shrinks_shades _ k _ sh in tidy_same h.store k.store objects f.0 f.1 w
tidy_action h after cost g s objects st (Ends_roots next e l) w = w
tidy_action h after cost g s objects st (Scans_header part cell x front back e f n) w = w
tidy_action h after cost g s objects st (Scans_cell part cell new k e l w0 sh) w =
    let f = shrinks_shades _ k _ sh in
    tidy_same h.store k.store objects (shrinks_then h.store new k.store (shrinks_writes h.store new (part - 1) _ w0 (record { identity = refl; part = refl; shape = refl; forward = refl })) f.0) (f.1 ∙ w0.pages) w
tidy_action h after cost g s objects st (Ends_marking part cell e f n) w = w
tidy_action h after cost g s objects st (Frees_block page block p new e f was unmarked w0 pages) w = tidy_put h.store new objects page p (with_allocated p block false) (shrinks_frees h.store new _ w0) f pages refl (λ z. z) w
tidy_action h after cost g s objects st (Passes_block page block p e f l marked) w = w
tidy_action h after cost g s objects st (Closes_page page block new e l f w0 pages) w = tidy_close h g s objects page block new st.pages st.consistent e l f w0 pages w
tidy_action h after cost g s objects st (Ends_sweep page block e l) w = w
tidy_action h after cost g s objects st (Looks_at_page class page best chosen at few more) w = w
tidy_action h after cost g s objects st (Chooses_page class page best chosen k p new at few last is good there w0 pages) w = tidy_put h.store new objects k.page p (record p { evacuating = true }) (shrinks_keeps h.store new w0) there pages refl (λ z. refl) w
tidy_action h after cost g s objects st (Chooses_none class page best chosen at few last is) w = w
tidy_action h after cost g s objects st (Moves_block class page block chosen i to j p q new e at evacuating next place there empty w0 pages) w =
    tidy_move h g s objects class page block chosen i to j p q new st.pages st.consistent e at evacuating next place there empty w0 pages w
tidy_action h after cost g s objects st (Ends_moving done) w = w

-- until the sweep's end nothing is moved
sparse_tracing : (b : Bool) → awaits_sweep_end (if b then phases.Moving (moves.Pass 0 0 None 0) else phases.Idle) ≡ true → ⊥
sparse_tracing true e = cc
sparse_tracing false e = cc

pub only_action : (h after : HeapState) (cost base : ℕ) (ids : List ℕ) → Action h cost after → awaits_sweep_end after.phase ≡ true → (awaits_sweep_end h.phase ≡ true → KeepsOnly h.store base ids) → KeepsOnly after.store base ids
only_action h after cost base ids (Scans_root next k e l sh) t w = only_less h.store k.store base ids (shrinks_shades _ k _ sh).0 (w (ap awaits_sweep_end e))
only_action h after cost base ids (Ends_roots next e l) t w = w (ap awaits_sweep_end e)
only_action h after cost base ids (Scans_header part cell x front back e f n) t w = w (ap awaits_sweep_end e)
only_action h after cost base ids (Scans_cell part cell new k e l w0 sh) t w =
    only_less h.store k.store base ids (shrinks_then h.store new k.store (shrinks_writes h.store new (part - 1) _ w0 (record { identity = refl; part = refl; shape = refl; forward = refl })) (shrinks_shades _ k _ sh).0) (w (ap awaits_sweep_end e))
only_action h after cost base ids (Ends_marking part cell e f n) t w = w (ap awaits_sweep_end e)
only_action h after cost base ids (Frees_block page block p new e f was unmarked w0 pages) t w = only_less h.store new base ids (shrinks_frees h.store new _ w0) (w (ap awaits_sweep_end e))
only_action h after cost base ids (Passes_block page block p e f l marked) t w = w (ap awaits_sweep_end e)
only_action h after cost base ids (Closes_page page block new e l f w0 pages) t w = only_less h.store new base ids (shrinks_keeps h.store new w0) (w (ap awaits_sweep_end e))
only_action h after cost base ids (Ends_sweep page block e l) t w = absurd (sparse_tracing (is_sparse h) t)
only_action h after cost base ids (Looks_at_page class page best chosen at few more) t w = absurd (cc)
only_action h after cost base ids (Chooses_page class page best chosen k p new at few last is good there w0 pages) t w = absurd (cc)
only_action h after cost base ids (Chooses_none class page best chosen at few last is) t w = absurd (cc)
only_action h after cost base ids (Moves_block class page block chosen i to j p q new e at evacuating next place there empty w0 pages) t w = absurd (cc)
only_action h after cost base ids (Ends_moving done) t w = absurd (cc)
