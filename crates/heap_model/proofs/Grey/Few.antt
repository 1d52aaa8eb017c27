-- How many grey parts there can be.
use Rattle.std.proofs.Common.{ap, ◌≡◌, ◌≢◌, ℕ, zero, suc, ◌+◌, ◌-◌, ◌*◌, ◌/◌, ◌<◌, ◌≤◌, ◌⊎◌, inl, inr, Bool, true, false, List, [], ◌∷◌, length, arith, subst, sym, refl, ◌∙◌, ◌==◌, ◌||◌}
use Rattle.std.specs.Prelude.{map, Option}
use Rattle.std.specs.List.{AllByRecursion, IsDistinct, list_any}
use Rattle.std.proofs.Math.Dec.{eqb}
use Rattle.std.proofs.lemmas.Bool.{ne_eqb}
use Rattle.std.proofs.lemmas.List.{length-map}
use Rattle.std.proofs.lemmas.Map.Steps.{length-le_from_distinct_below}
use Rattle.graph_heap.specs.Graph.{Graph}
use Rattle.size_classes.specs.declared.class.TheConstants.{MOST_BLOCKS}
use Rattle.heap_model.specs.declared.phase.Phase.{Phase}
use Rattle.heap_model.specs.declared.phase.Phase.TheVariants as phases
use Rattle.heap_model.specs.declared.phase.Candidate.{Candidate}
use Rattle.heap_model.specs.Action.{Action, Scans_root, Ends_roots, Scans_header, Scans_cell, Ends_marking, Frees_block, Passes_block, Closes_page, Ends_sweep, Looks_at_page, Chooses_page, Chooses_none, Moves_block, Ends_moving, AtPass, In_pass, After_page, No_class, No_page}
use Rattle.heap_model.specs.Core.{Heap}
use Rattle.heap_model.specs.Collector.{contains, Once, Greys, PhaseInvariant}
use Rattle.heap_model.specs.Grey.{AreGrey}
use Rattle.heap_model.specs.State.{HeapState, seen, collector_of, collector_by, progress_of}
use Rattle.heap_model.specs.Cut.{view}
use Rattle.heap_model.specs.Pages.{ArePages}
use Rattle.heap_model.specs.Agreement.{IsWhole}
use Rattle.heap_model.specs.Written.{records}
use Rattle.heap_model.specs.Spent.{IsWithin, arena_words}
use Rattle.heap_model.specs.Represents.{Represents}
use Rattle.heap_model.proofs.Units.{LieApart}
use Rattle.heap_model.proofs.Action.Collecting.{allocated_behind}
use Rattle.heap_model.proofs.Store.Apart.{lie_apart, size_behind}

-- a part, by the quarter of the arena's words in which it begins
abbrev quarter : ℕ → ℕ
quarter x = (x - 1) / 4

apart_by : (x y : ℕ) → 0 < x → x + 4 ≤ y → quarter x ≢ quarter y
apart_by x y p l e = omega (arith, e)

first_of : (y x : ℕ) (c : Bool) → ((y == x) || c) ≡ false → (y ≢ x) × (c ≡ false)
first_of y x c e = (grind arith, grind arith)

here_of : (x : ℕ) (c : Bool) → ((x == x) || c) ≡ true
here_of x c = grind arith

behind_of : (y x : ℕ) (c : Bool) → c ≡ true → ((y == x) || c) ≡ true
behind_of y x c e = grind arith

module _ (h : Heap) (size : ℕ → ℕ) (n : ℕ) (a : LieApart h size (4 * n)) where
  -- parts that are allocated, and not null
  abbrev AreAllocated : List ℕ → Type 0
  AreAllocated xs = (y : ℕ) → contains xs y ≡ true → (h.allocated y ≡ true) × (0 < y)

  allocated_here : (x : ℕ) (xs : List ℕ) → AreAllocated (x ∷ xs) → (h.allocated x ≡ true) × (0 < x)
  unfolding contains
  allocated_here x xs w = w x (here_of x (contains xs x))

  allocated_later : (x : ℕ) (xs : List ℕ) → AreAllocated (x ∷ xs) → AreAllocated xs
  unfolding contains
  allocated_later x xs w y e = w y (behind_of x y (contains xs y) e)

  other_quarter : (x y : ℕ) → (h.allocated x ≡ true) × (0 < x) → (h.allocated y ≡ true) × (0 < y) → x ≢ y → quarter x ≢ quarter y
  other_quarter x y p q d e =
      let fx = a.fits x p.0 p.1 in
      let fy = a.fits y q.0 q.1 in
      elim (less x y d) [
        | inl l ↦ (let b = a.apart x y p.0 q.0 p.1 l in apart_by x y p.1 (omega arith) e)
        | inr l ↦ (let b = a.apart y x q.0 p.0 q.1 l in apart_by y x q.1 (omega arith) (sym e))
      ]
    where
      less : (i j : ℕ) → i ≢ j → (i < j) ⊎ (j < i)
      less i j d = grind arith

  others : (x : ℕ) → (h.allocated x ≡ true) × (0 < x) → (xs : List ℕ) → contains xs x ≡ false → AreAllocated xs → AllByRecursion (λ y. eqb (quarter x) y ≡ false) (map quarter xs)
  unfolding contains
  others x p [] e w = tt
  others x p (y ∷ ys) e w =
      let s = first_of y x (contains ys x) e in
      (ne_eqb (quarter x) (quarter y) (λ z. other_quarter x y p (allocated_here y ys w) (λ t. s.0 (sym t)) z), others x p ys s.1 (allocated_later y ys w))

  distinct : (xs : List ℕ) → Once xs → AreAllocated xs → IsDistinct eqb (map quarter xs)
  unfolding Once IsDistinct
  distinct [] o w = tt
  distinct (x ∷ xs) o w = (others x (allocated_here x xs w) xs o.0 (allocated_later x xs w), distinct xs o.1 (allocated_later x xs w))

  quarter_below : (x : ℕ) → (h.allocated x ≡ true) × (0 < x) → quarter x < n
  quarter_below x p = let f = a.fits x p.0 p.1 in let i = a.inside x p.0 p.1 in omega arith

  below : (xs : List ℕ) → AreAllocated xs → (q : ℕ) → list_any (eqb q) (map quarter xs) ≡ true → q < n
  below [] w q e = absurd (let z : false ≡ true = e in cc)
  below (x ∷ xs) w q e = by_case (eqb q (quarter x)) refl e (below xs (allocated_later x xs w) q)
    where
      by_case : (b : Bool) → eqb q (quarter x) ≡ b → (b || list_any (eqb q) (map quarter xs)) ≡ true → (list_any (eqb q) (map quarter xs) ≡ true → q < n) → q < n
      by_case true t z more = let l = quarter_below x (allocated_here x xs w) in let u : q ≡ quarter x = grind arith in subst (λ k. k < n) (sym u) l
      by_case false t z more = more z

  pub few : (xs : List ℕ) → Once xs → AreAllocated xs → length xs ≤ n
  few xs o w = subst (λ k. k ≤ n) (length-map xs quarter) (length-le_from_distinct_below (map quarter xs) n (distinct xs o w) (below xs w))

-- how many words of the arena the four words of each block's header alone may take
quarters : (h : HeapState) → arena_words h ≡ 4 * (MOST_BLOCKS * length h.store.pages)
quarters h = omega arith

nonzero : (xs : List ℕ) (y : ℕ) → contains xs 0 ≡ false → contains xs y ≡ true → 0 < y
nonzero xs y n e = by_zero y e
  where
    by_zero : (k : ℕ) → contains xs k ≡ true → 0 < k
    by_zero zero e = absurd (let z : false ≡ true = sym n ∙ e in cc)
    by_zero (suc k) e = omega arith

module _ (h : HeapState) (pages : ArePages h.store.pages) (whole : IsWhole h.store) (present : 0 < length h.store.pages) where
  greys_by : (p : Phase) → Greys (collector_by (seen h) h.store.pages p h.grey) → contains h.grey 0 ≡ false → AreGrey h
  greys_by p g null = record {
    pages = present;
    some = null;
    allocated = λ x e. allocated_behind h x (nonzero h.grey x null e) (g.allocated x e);
    marked = g.marked;
    once = g.once;
    few = few (seen h) (size_behind h) (MOST_BLOCKS * length h.store.pages) (subst (LieApart (seen h) (size_behind h)) (quarters h) (lie_apart h pages whole)) h.grey g.once (λ y e. (g.allocated y e, nonzero h.grey y null e));
  }

-- in roots and marking
pub are_grey : (h : HeapState) (present snapshot : Graph) → Represents h present snapshot → records h.phase ≡ true → AreGrey h
are_grey h p s w r = by_phase h.phase r w.within w.consistent.parts.stage
  where
    by_phase : (q : Phase) → records q ≡ true → IsWithin h q → PhaseInvariant (collector_of h) (view p) (view s) w.consistent.parts.at (progress_of h.store.pages q) → AreGrey h
    by_phase phases.Idle r within stage = absurd (let z : false ≡ true = r in cc)
    by_phase (phases.Roots next) r within stage = greys_by h w.pages w.consistent.whole w.some h.phase stage.1 within.2
    by_phase (phases.Marking part cell) r within stage = greys_by h w.pages w.consistent.whole w.some h.phase stage.1 within.1
    by_phase (phases.Sweeping page block) r within stage = absurd (let z : false ≡ true = r in cc)
    by_phase (phases.Moving m) r within stage = absurd (let z : false ≡ true = r in cc)

pub passing : (h : HeapState) (class page : ℕ) (best : Option Candidate) (chosen : ℕ) → AtPass h class page best chosen → records h.phase ≡ false
passing h class page best chosen (In_pass class0 page0 best0 chosen0 e) = ap records e
passing h class page best chosen (After_page class0 page0 block chosen0 p e at l done less) = ap records e

-- outside roots and marking no part is grey, after each action
pub rests_empty : (h after : HeapState) (cost : ℕ) → Action h cost after → (records h.phase ≡ false → h.grey ≡ []) → records after.phase ≡ false → after.grey ≡ []
rests_empty h after cost (Scans_root next k e l sh) none off = absurd (let z : true ≡ false = off in cc)
rests_empty h after cost (Ends_roots next e l) none off = absurd (let z : true ≡ false = off in cc)
rests_empty h after cost (Scans_header part cell x front back e f n) none off = absurd (let z : true ≡ false = off in cc)
rests_empty h after cost (Scans_cell part cell new k e l w sh) none off = absurd (let z : true ≡ false = off in cc)
rests_empty h after cost (Ends_marking part cell e f n) none off = n
rests_empty h after cost (Frees_block page block p new e f was unmarked w pages) none off = none (ap records e)
rests_empty h after cost (Passes_block page block p e f l marked) none off = none (ap records e)
rests_empty h after cost (Closes_page page block new e l f w pages) none off = none (ap records e)
rests_empty h after cost (Ends_sweep page block e l) none off = none (ap records e)
rests_empty h after cost (Looks_at_page class page best chosen at few more) none off = none (passing h class page best chosen at)
rests_empty h after cost (Chooses_page class page best chosen c p new at few last is good there w pages) none off = none (passing h class page best chosen at)
rests_empty h after cost (Chooses_none class page best chosen at few last is) none off = none (passing h class page best chosen at)
rests_empty h after cost (Moves_block class page block chosen i to j p q new e at evacuating next place there empty w pages) none off = none (ap records e)
rests_empty h after cost (Ends_moving (No_class page best chosen e)) none off = none (ap records e)
rests_empty h after cost (Ends_moving (No_page class page block chosen p e at done less)) none off = none (ap records e)
