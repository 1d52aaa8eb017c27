-- An action of moving keeps the blocks, or makes one main copy an old copy.
use Rattle.std.proofs.Common.{◌≡◌, ◌≢◌, ℕ, ◌+◌, ◌-◌, ◌*◌, ◌/◌, ◌<◌, ◌≤◌, ◌⊎◌, inl, inr, Bool, true, false, not, ◌==◌, if◌then◌else◌, List, ap, ◌∙◌, sym, refl, arith, nat_lt}
use Rattle.std.specs.Prelude.{Option, Some}
use Rattle.std.proofs.lemmas.Option.{slice_get_within}
use Rattle.graph_heap.specs.Graph.{Graph}
use Rattle.size_classes.specs.Sizes.{size_of}
use Rattle.heap_model.specs.declared.phase.Phase.TheVariants as phases
use Rattle.heap_model.specs.declared.phase.Moving.{Moving as Place}
use Rattle.heap_model.specs.declared.phase.Moving.TheVariants as moves
use Rattle.heap_model.specs.Block.{BlockRecord}
use Rattle.heap_model.specs.Pages.{Page, page_at}
use Rattle.heap_model.specs.Store.{Store, is_allocated, size_in, record_of, address_of}
use Rattle.heap_model.specs.Cut.{view}
use Rattle.heap_model.specs.State.{HeapState, seen, is_left, is_evacuating, page_of, reference_of}
use Rattle.heap_model.specs.Action.{Action, Scans_root, Ends_roots, Scans_header, Scans_cell, Ends_marking, Frees_block, Passes_block, Closes_page, Ends_sweep, Looks_at_page, Chooses_page, Chooses_none, Moves_block, Ends_moving, KeepsBlocks, MovesBlock, IsNext}
use Rattle.heap_model.specs.Represents.{Represents}
use Rattle.heap_model.proofs.Action.Collecting.{at_phase}
use Rattle.heap_model.proofs.Collector.Coherence.{left_main}
use Rattle.heap_model.proofs.Store.Allocated.{is_page, block_within, size_some, page_of_place, allocated_at}
use Rattle.heap_model.proofs.Action.Moving.{at_number, below_end, not_below}
use Rattle.heap_model.proofs.State.{behind}
use Rattle.nodes.specs.Copies.{is_main, is_old}
use Rattle.machine.specs.Copies.{MakesOneOld}

main_true : (s : Store) (b : ℕ) → is_allocated s b ≡ true → (record_of s b).forward ≡ b → is_main s b ≡ true
unfolding is_main
main_true s b l f = rw l (at_number (record_of s b).forward b f)

other_number : (a b : ℕ) → a ≢ b → not (a == b) ≡ true
other_number a b ne = let e : (a == b) ≡ false = grind arith in ap not e

old_true : (s : Store) (b : ℕ) → is_allocated s b ≡ true → (record_of s b).forward ≢ b → is_old s b ≡ true
unfolding is_old
old_true s b l f = rw l (other_number (record_of s b).forward b f)

same_blocks : (s : Store) → KeepsBlocks s s
same_blocks s = record { allocated = λ b. refl; nodes = λ b l. refl }

-- in the page that is being emptied, exactly the references before the place are past
here_left : (pages : List (Option Page)) (page x : ℕ) (r b : Bool) → (x - 1) / 2048 ≡ page → r ≡ b → (if (x - 1) / 2048 == page then r else is_evacuating (page_of pages x)) ≡ b
here_left pages page x r b s t = let f : ((x - 1) / 2048 == page) ≡ true = at_number ((x - 1) / 2048) page s in rw f t

-- the next block to be moved is a main copy
module _ (h : HeapState) (present snapshot : Graph) (class page block chosen i : ℕ) (p : Page) (w : Represents h present snapshot) (e : h.phase ≡ phases.Moving (moves.Emptying class page block chosen)) (at : page_at h.store.pages page ≡ Some p) (next : IsNext p block i) where
  abbrev a : ℕ
  a = address_of p.class page i

  next_allocated : is_allocated h.store a ≡ true
  next_allocated = allocated_at h.store page i p w.pages at next.allocated

  next_main : (record_of h.store a).forward ≡ a
  next_main =
      let was = phases.Moving (moves.Emptying class page block chosen) in
      let c = at_phase h was (view present) (view snapshot) e w.consistent.parts in
      let is_p = is_page h.store page p w.pages at in
      let within : (i + 1) * size_of p.class ≤ 2048 = block_within p i is_p (slice_get_within p.allocated i true next.allocated) in
      let less : i * size_of p.class < 2048 = below_end i (size_of p.class) (size_some p is_p) within in
      let here : (a + 1 - 1) / 2048 ≡ page = page_of_place page (a + 1 - 1) (omega arith) (omega arith) in
      let allocated : (seen h).allocated (a + 1) ≡ true = behind true (λ z. is_allocated h.store z) a ∙ next_allocated in
      let not_past : nat_lt (a + 1) (reference_of h.store.pages page block) ≡ false = not_below i block (size_of p.class) (size_in (page_at h.store.pages page)) page next.from (sym (ap size_in at)) in
      let unleft : is_left h.store.pages was (a + 1) ≡ false = here_left h.store.pages page (a + 1) _ false here not_past in
      let main : (seen h).forward (a + 1) ≡ a + 1 = left_main (seen h) (λ z. is_left h.store.pages was z) (a + 1) c.stage.2 allocated unleft in
      let f : (record_of h.store a).forward + 1 ≡ a + 1 = sym (behind 0 (λ z. (record_of h.store z).forward + 1) a) ∙ main in
      omega (arith, f)

-- a main copy that is moved becomes an old copy
makes_one_old : (old new : Store) (from to : ℕ) → MovesBlock old new from to → is_allocated old from ≡ true → (record_of old from).forward ≡ from → MakesOneOld old new
makes_one_old old new from to w l f =
    let apart : from ≢ to = λ e. let z : true ≡ false = sym l ∙ ap (is_allocated old) e ∙ w.free in cc in
    let leads : (record_of new from).forward ≡ to = ap (λ (n : BlockRecord). n.forward) w.forward in
    record {
      from = from;
      to = to;
      main = main_true old from l f;
      becomes_old = old_true new from (w.same from apart ∙ l) (λ e. apart (sym e ∙ leads));
      free = w.free;
      in_its_place = main_true new to w.allocated (ap (λ (n : BlockRecord). n.forward) w.copy);
      leads = leads;
      allocated = w.same;
      forward = λ b ne m. ap (λ (n : BlockRecord). n.forward) (w.nodes b ne m);
    }

pub moves_make_one_old : (h after : HeapState) (cost : ℕ) (present snapshot : Graph) (place : Place) → Represents h present snapshot → h.phase ≡ phases.Moving place → Action h cost after
    → KeepsBlocks h.store after.store ⊎ MakesOneOld h.store after.store
moves_make_one_old h after cost s g place w e (Scans_root next k f l sh) = absurd (let z : phases.Roots next ≡ phases.Moving place = sym f ∙ e in cc)
moves_make_one_old h after cost s g place w e (Ends_roots next f l) = absurd (let z : phases.Roots next ≡ phases.Moving place = sym f ∙ e in cc)
moves_make_one_old h after cost s g place w e (Scans_header part cell x front back f v q) = absurd (let z : phases.Marking part cell ≡ phases.Moving place = sym f ∙ e in cc)
moves_make_one_old h after cost s g place w e (Scans_cell part cell new k f l v sh) = absurd (let z : phases.Marking part cell ≡ phases.Moving place = sym f ∙ e in cc)
moves_make_one_old h after cost s g place w e (Ends_marking part cell f v q) = absurd (let z : phases.Marking part cell ≡ phases.Moving place = sym f ∙ e in cc)
moves_make_one_old h after cost s g place w e (Frees_block page block p new f at was unmarked v pages) = absurd (let z : phases.Sweeping page block ≡ phases.Moving place = sym f ∙ e in cc)
moves_make_one_old h after cost s g place w e (Passes_block page block p f at l marked) = absurd (let z : phases.Sweeping page block ≡ phases.Moving place = sym f ∙ e in cc)
moves_make_one_old h after cost s g place w e (Closes_page page block new f l at v pages) = absurd (let z : phases.Sweeping page block ≡ phases.Moving place = sym f ∙ e in cc)
moves_make_one_old h after cost s g place w e (Ends_sweep page block f l) = absurd (let z : phases.Sweeping page block ≡ phases.Moving place = sym f ∙ e in cc)
moves_make_one_old h after cost s g place w e (Looks_at_page class page best chosen at few more) = inl (same_blocks h.store)
moves_make_one_old h after cost s g place w e (Chooses_page class page best chosen c p new at few last is good there v pages) = inl v
moves_make_one_old h after cost s g place w e (Chooses_none class page best chosen at few last is) = inl (same_blocks h.store)
moves_make_one_old h after cost s g place w e (Moves_block class page block chosen i to j p q new f at evacuating next there into free v pages) =
    inr (makes_one_old h.store new (address_of p.class page i) (address_of p.class to j) v (next_allocated h s g class page block chosen i p w f at next) (next_main h s g class page block chosen i p w f at next))
moves_make_one_old h after cost s g place w e (Ends_moving done) = inl (same_blocks h.store)
