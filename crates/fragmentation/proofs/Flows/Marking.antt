-- Marking takes no more than the words of what was live when the cycle began, and of what was made since.
use Rattle.std.proofs.Common.{◌≡◌, ℕ, ◌+◌, ◌-◌, ◌<◌, ◌≤◌, inl, inr, true, false, ◌==◌, length, drop, ap, ◌∙◌, sym, subst, arith, refl}
use Rattle.graph_heap.specs.Graph.{Graph}
use Rattle.heap_model.specs.declared.phase.Phase.TheVariants as phases
use Rattle.heap_model.specs.Block.{BlockRecord}
use Rattle.heap_model.specs.Store.{record_of}
use Rattle.heap_model.specs.Core.{Name, Kept, Tracing}
use Rattle.heap_model.specs.Cut.{view}
use Rattle.heap_model.specs.Collector.{In_marking, Collector, Greys, contains, done_by, done_of}
use Rattle.heap_model.specs.State.{HeapState, seen, collector_of, progress_of}
use Rattle.heap_model.specs.Units.{work}
use Rattle.heap_model.specs.Spent.{arena_words, marking_work}
use Rattle.heap_model.specs.Represents.{Represents}
use Rattle.heap_model.proofs.Swept.{allocated_kept}
use Rattle.heap_model.proofs.Units.{LieApart}
use Rattle.heap_model.proofs.Store.Apart.{size_behind, lie_apart}
use Rattle.heap_model.proofs.Action.Collecting.{allocated_behind}
use Rattle.heap_model.proofs.Collector.Coherence.{stage_at}
use Rattle.space.specs.Demand.{LiveWithin, blocks_of}
use Rattle.space.specs.Placement.{IsTidy, KeepsShapes}
use Rattle.fragmentation.specs.Flow.{words_of}
use Rattle.fragmentation.proofs.Flows.Counted.{AreBlocks, words_counted}

-- what work went into is an allocated block that is marked
record IsWorked (m : Collector) (x : ℕ) : Type 0 where
  allocated : m.heap.allocated x ≡ true
  marked : m.heap.marked x ≡ true
  some : 0 < x
  done : work m x ≤ done_of m x + 1

is_worked : (m : Collector) (x : ℕ) → 0 < work m x → IsWorked m x
unfolding work
is_worked m x p = record { allocated = grind arith; marked = grind arith; some = grind arith; done = grind arith }

done_few : (m : Collector) (x : ℕ) → Greys m → done_of m x ≤ m.heap.width x
unfolding done_by
done_few m x w = let c = w.column in grind arith

-- a reference names the part that its block says
abbrev pub named : BlockRecord → Name
named n = record { identity = n.identity; part = n.part }

pub not_null : (x : ℕ) → 0 < x → (x == 0) ≡ false
not_null x l = grind arith

pub name_of : (h : HeapState) (x : ℕ) → 0 < x → (seen h).name x ≡ named (record_of h.store (x - 1))
name_of h x l = rw (not_null x l) refl

pub one_before : (x : ℕ) → 0 < x → x - 1 + 1 ≡ x
one_before x l = omega (arith, l)

module _ (h : HeapState) (present snapshot : Graph) (r : Represents h present snapshot) (part cell : ℕ) (e : h.phase ≡ phases.Marking part cell) (tidy : IsTidy h.store present.objects) (most : ℕ → ℕ) (live : LiveWithin snapshot most) (kept : KeepsShapes snapshot.objects present.objects) where
  abbrev m : Collector
  m = collector_of h

  stage : Tracing (seen h) (view present) (view snapshot) r.consistent.parts.at (done_of m) (length h.roots) × Greys m
  stage = stage_at m (view present) (view snapshot) r.consistent.parts In_marking (ap (progress_of h.store.pages) e)

  apart : LieApart (seen h) (size_behind h) (arena_words h)
  apart = lie_apart h r.pages r.consistent.whole

  marked_blocks : AreBlocks h.store (length snapshot.objects) live.ids (work m)
  marked_blocks = record {
    allocated = λ x p. (let a = is_worked m x p in allocated_behind h x a.some a.allocated);
    few = λ x p. (let a = is_worked m x p in let f = apart.fits x a.allocated a.some in let w = done_few m x stage.1 in let d = a.done in omega (arith, f, w, d));
    only = λ x p low. of_live x p low;
    one = λ x y p q i n. (
        let a = is_worked m x p in
        let b = is_worked m y q in
        stage.0.marked_main x a.allocated a.marked
        ∙ ap r.consistent.parts.at (name_of h x a.some ∙ same_name (record_of h.store (x - 1)) (record_of h.store (y - 1)) i n ∙ sym (name_of h y b.some))
        ∙ sym (stage.0.marked_main y b.allocated b.marked));
  }
    where
      same_name : (m n : BlockRecord) → m.identity ≡ n.identity → m.part ≡ n.part → named m ≡ named n
      same_name m n e f t = record { identity = e t; part = f t }

      of_live : (x : ℕ) → 0 < work m x → (record_of h.store (x - 1)).identity ≤ length snapshot.objects → contains live.ids (record_of h.store (x - 1)).identity ≡ true
      of_live x p low =
          let a = is_worked m x p in
          let back = one_before x a.some in
          let k = stage.0.marked_kept x a.allocated a.marked in
          let at = stage.0.marked_main x a.allocated a.marked in
          let i = allocated_kept h present snapshot r.consistent (x - 1) (subst (λ z. Kept (length h.roots) (view snapshot) (view present) ((seen h).name z)) (sym back) k) (subst (λ z. z ≡ r.consistent.parts.at ((seen h).name z)) (sym back) at) in
          elim i.0 [
            | inl reach ↦ live.reached (record_of h.store (x - 1)).identity reach
            | inr late ↦ absurd (let q = late.0 in omega (arith, q, low))
          ]

  pub marking_few : marking_work h ≤ words_of (λ class. most class + blocks_of (drop (length snapshot.objects) present.objects) class)
  unfolding marking_work
  marking_few = words_counted h.store present.objects r.pages tidy snapshot.objects live.ids kept (work m) marked_blocks most live.blocks (arena_words h + 1)
