-- The cost of the next action is fixed by the state.
use Rattle.std.proofs.Common.{◌≡◌, ◌≢◌, ℕ, ◌+◌, ◌-◌, ◌<◌, ◌≤◌, ◌⊎◌, inl, inr, Bool, true, false, List, length, drop, get_or, refl, ap, sym, subst, ◌∙◌, arith}
use Rattle.std.specs.Prelude.{Option, Some, None, slice_get, position}
use Rattle.std.specs.List.{position_or_len}
use Rattle.std.proofs.lemmas.Bool.{cases_lt}
use Rattle.std.proofs.lemmas.List.{get_or-drop, length-drop}
use Rattle.std.proofs.lemmas.List.Sums.{fails_before_first, passes_at_first}
use Rattle.std.proofs.lemmas.Option.{same_Some, slice_get-get_or, slice_get_within, get_or_from_slice_get}
use Rattle.size_classes.specs.declared.class.TheConstants.{CLASSES}
use Rattle.size_classes.specs.Sizes.{size_of}
use Rattle.size_classes.proofs.Table.{size_low, size_high}
use Rattle.heap_model.specs.declared.phase.Phase.{Phase}
use Rattle.heap_model.specs.declared.phase.Phase.TheVariants as phases
use Rattle.heap_model.specs.declared.phase.Moving.TheVariants as moves
use Rattle.heap_model.specs.declared.phase.Candidate.{Candidate}
use Rattle.heap_model.specs.Pages.{Page, ArePages, page_at, is_usable}
use Rattle.heap_model.specs.State.{HeapState}
use Rattle.heap_model.specs.Action.{Action, Scans_root, Ends_roots, Scans_header, Scans_cell, Ends_marking, Frees_block, Passes_block, Closes_page, Ends_sweep, Looks_at_page, Chooses_page, Chooses_none, Moves_block, Ends_moving, IsDone, AtPass, In_pass, After_page, No_class, No_page, IsNext}
use Rattle.heap_model.specs.QuantumSpending.{MovesNext, NextCosts, Of_move, Of_other, QuantumSpends}

is_emptying : Phase → Bool
is_emptying phases.Idle = false
is_emptying (phases.Roots next) = false
is_emptying (phases.Marking part cell) = false
is_emptying (phases.Sweeping page block) = false
is_emptying (phases.Moving (moves.Pass class page best chosen)) = false
is_emptying (phases.Moving (moves.Emptying class page block chosen)) = true

busy : Phase → Bool
busy phases.Idle = false
busy (phases.Roots next) = true
busy (phases.Marking part cell) = true
busy (phases.Sweeping page block) = true
busy (phases.Moving m) = true

-- no block is moved in another phase
other_costs : (h : HeapState) (q : Phase) → h.phase ≡ q → busy q ≡ true → is_emptying q ≡ false → NextCosts h 1
unfolding is_emptying busy
other_costs h q e on off = Of_other (λ i. let z : false ≡ true = sym (ap busy i) ∙ ap busy e ∙ on in cc) (λ p m. let z : true ≡ false = sym (ap is_emptying m.phase) ∙ ap is_emptying e ∙ off in cc)

-- nor from a page that is done
pub done_costs : (h : HeapState) (class page block chosen : ℕ) (p : Page) → h.phase ≡ phases.Moving (moves.Emptying class page block chosen) → page_at h.store.pages page ≡ Some p → IsDone h.store.pages p block → NextCosts h 1
done_costs h class page block chosen p e at done = Of_other (λ i. let z : phases.Idle ≡ phases.Moving (moves.Emptying class page block chosen) = sym i ∙ e in cc) (λ q m. none q m)
  where
    none : (q : Page) → MovesNext h q → ⊥
    none q m =
        let same : phases.Moving (moves.Emptying class page block chosen) ≡ phases.Moving (moves.Emptying m.class m.page m.block m.chosen) = sym e ∙ m.phase in
        let page_is : m.page ≡ page = cc same in
        let block_is : m.block ≡ block = cc same in
        let here : q ≡ p = same_Some q p (sym m.emptied ∙ ap (page_at h.store.pages) page_is ∙ at) in
        let from : block ≤ m.next = (let f = m.is_next.from in omega arith) in
        let allocated : slice_get p.allocated m.next ≡ Some true = ap (λ (z : Page). slice_get z.allocated m.next) (sym here) ∙ m.is_next.allocated in
        let place : position (is_usable p.class) h.store.pages ≡ Some m.to = ap (λ (z : Page). position (is_usable z.class) h.store.pages) (sym here) ∙ m.place in
        elim done [ inl left ↦ left m.next from allocated | inr full ↦ let z : None ≡ Some m.to = sym full ∙ place in cc ]

pass_costs : (h : HeapState) (class page : ℕ) (best : Option Candidate) (chosen : ℕ) → AtPass h class page best chosen → NextCosts h 1
unfolding is_emptying busy
pass_costs h class page best chosen (In_pass class0 page0 best0 chosen0 e) = other_costs h (phases.Moving (moves.Pass class page best chosen)) e refl refl
pass_costs h class page best chosen (After_page class0 page0 block chosen0 p e at l done less) = done_costs h class page0 block chosen p e at done

-- each action costs what the state says
pub action_costs : (h after : HeapState) (cost : ℕ) → Action h cost after → NextCosts h cost
unfolding is_emptying busy
action_costs h after cost (Scans_root next k e l sh) = other_costs h (phases.Roots next) e refl refl
action_costs h after cost (Ends_roots next e l) = other_costs h (phases.Roots next) e refl refl
action_costs h after cost (Scans_header part cell x front back e f n) = other_costs h (phases.Marking part cell) e refl refl
action_costs h after cost (Scans_cell part cell new k e l w0 sh) = other_costs h (phases.Marking part cell) e refl refl
action_costs h after cost (Ends_marking part cell e f n) = other_costs h (phases.Marking part cell) e refl refl
action_costs h after cost (Frees_block page block q new e f was unmarked w0 pages) = other_costs h (phases.Sweeping page block) e refl refl
action_costs h after cost (Passes_block page block q e f l marked) = other_costs h (phases.Sweeping page block) e refl refl
action_costs h after cost (Closes_page page block new e l f w0 pages) = other_costs h (phases.Sweeping page block) e refl refl
action_costs h after cost (Ends_sweep page block e l) = other_costs h (phases.Sweeping page block) e refl refl
action_costs h after cost (Looks_at_page class page best chosen at few more) = pass_costs h class page best chosen at
action_costs h after cost (Chooses_page class page best chosen b q new at few last is good there w0 pages) = pass_costs h class page best chosen at
action_costs h after cost (Chooses_none class page best chosen at few last is) = pass_costs h class page best chosen at
action_costs h after cost (Moves_block class page block chosen i to j p q new e at evacuating next place there empty w0 pages) =
    Of_move p (record { class = class; page = page; block = block; chosen = chosen; next = i; to = to; phase = e; emptied = at; is_next = next; place = place })
action_costs h after cost (Ends_moving (No_class page best chosen e)) = other_costs h (phases.Moving (moves.Pass CLASSES page best chosen)) e refl refl
action_costs h after cost (Ends_moving (No_page class page block chosen p e at done less)) = done_costs h class page block chosen p e at done

-- and the state says one cost
same_page : (h : HeapState) (p q : Page) → MovesNext h p → MovesNext h q → p ≡ q
same_page h p q m n =
    let same : phases.Moving (moves.Emptying m.class m.page m.block m.chosen) ≡ phases.Moving (moves.Emptying n.class n.page n.block n.chosen) = sym m.phase ∙ n.phase in
    let page_is : m.page ≡ n.page = cc same in
    same_Some p q (sym m.emptied ∙ ap (page_at h.store.pages) page_is ∙ n.emptied)

pub one_cost : (h : HeapState) (a b : ℕ) → NextCosts h a → NextCosts h b → a ≡ b
one_cost h a b (Of_move p m) (Of_move q n) = ap (λ (z : Page). size_of z.class) (same_page h p q m n)
one_cost h a b (Of_move p m) (Of_other on none) = absurd (none p m)
one_cost h a b (Of_other on none) (Of_move q n) = absurd (none q n)
one_cost h a b (Of_other on none) (Of_other off other) = refl

-- from 1 to 256 units
pub cost_high : (h : HeapState) (cost : ℕ) → ArePages h.store.pages → NextCosts h cost → cost ≤ 256
cost_high h cost w (Of_move p m) = size_high p.class (w.each m.page p m.emptied).class
cost_high h cost w (Of_other on none) = omega arith

-- a page has a next block to be moved, or none
module _ (p : Page) (block : ℕ) where
  abbrev rest : List Bool
  rest = drop block p.allocated

  abbrev first : ℕ
  first = position_or_len (λ b. b) rest

  free_before : (k : ℕ) → block ≤ k → k < block + first → get_or p.allocated k false ≡ false
  free_before k from below =
      subst (λ m. get_or p.allocated m false ≡ false) (let e : block + (k - block) ≡ k = omega (arith, from) in e)
      (sym (get_or-drop block p.allocated (k - block) false) ∙ fails_before_first (λ b. b) rest (k - block) false (omega (arith, from, below)))

  next_block : ((i : ℕ) × IsNext p block i) ⊎ ((k : ℕ) → block ≤ k → slice_get p.allocated k ≢ Some true)
  next_block = let rest_is = length-drop block p.allocated in elim (cases_lt first (length rest)) [
    | inl within ↦ inl (
      block + first,
      record {
        from = omega arith;
        allocated = slice_get-get_or p.allocated (block + first) false (omega (arith, within, rest_is)) ∙ ap Some (sym (get_or-drop block p.allocated first false) ∙ passes_at_first (λ b. b) rest false within);
        first = λ k from before. slice_get-get_or p.allocated k false (omega (arith, before, within, rest_is)) ∙ ap Some (free_before k from before);
      },
    )
    | inr past ↦ inr (λ k from e.
        let l = slice_get_within p.allocated k true e in
        let z : true ≡ false = sym (get_or_from_slice_get p.allocated k true false e) ∙ free_before k from (omega (arith, from, l, past, rest_is)) in cc)
  ]

-- A heap is idle, or its next action costs something.
module _ (h : HeapState) (w : ArePages h.store.pages) where
  abbrev Costs : Type 0
  Costs = (cost : ℕ) × NextCosts h cost × (0 < cost)

  emptying_costs : (class page block chosen : ℕ) → h.phase ≡ phases.Moving (moves.Emptying class page block chosen) → (o : Option Page) → page_at h.store.pages page ≡ o → Costs
  emptying_costs class page block chosen e None is = (
    1,
    Of_other (λ i. let z : phases.Idle ≡ phases.Moving (moves.Emptying class page block chosen) = sym i ∙ e in cc) (λ q m.
        let same : phases.Moving (moves.Emptying class page block chosen) ≡ phases.Moving (moves.Emptying m.class m.page m.block m.chosen) = sym e ∙ m.phase in
        let page_is : m.page ≡ page = cc same in
        let z : None ≡ Some q = sym is ∙ ap (page_at h.store.pages) (sym page_is) ∙ m.emptied in cc),
    omega arith,
  )
  emptying_costs class page block chosen e (Some p) is = by_block (next_block p block) (position (is_usable p.class) h.store.pages) refl
    where
      by_block : ((i : ℕ) × IsNext p block i) ⊎ ((k : ℕ) → block ≤ k → slice_get p.allocated k ≢ Some true) → (to : Option ℕ) → position (is_usable p.class) h.store.pages ≡ to → Costs
      by_block (inr none) to place = (1, done_costs h class page block chosen p e is (inl none), omega arith)
      by_block (inl next) None place = (1, done_costs h class page block chosen p e is (inr place), omega arith)
      by_block (inl next) (Some to) place = (
        size_of p.class,
        Of_move p (record { class = class; page = page; block = block; chosen = chosen; next = next.0; to = to; phase = e; emptied = is; is_next = next.1; place = place }),
        (let low = size_low p.class (w.each page p is).class in omega arith),
      )

  phase_costs : (q : Phase) → h.phase ≡ q → (h.phase ≡ phases.Idle) ⊎ Costs
  unfolding is_emptying busy
  phase_costs phases.Idle e = inl e
  phase_costs (phases.Roots next) e = inr (1, other_costs h (phases.Roots next) e refl refl, omega arith)
  phase_costs (phases.Marking part cell) e = inr (1, other_costs h (phases.Marking part cell) e refl refl, omega arith)
  phase_costs (phases.Sweeping page block) e = inr (1, other_costs h (phases.Sweeping page block) e refl refl, omega arith)
  phase_costs (phases.Moving (moves.Pass class page best chosen)) e = inr (1, other_costs h (phases.Moving (moves.Pass class page best chosen)) e refl refl, omega arith)
  phase_costs (phases.Moving (moves.Emptying class page block chosen)) e = inr (emptying_costs class page block chosen e (page_at h.store.pages page) refl)

  pub some_cost : (h.phase ≡ phases.Idle) ⊎ Costs
  some_cost = phase_costs h.phase refl

pub turn_left : (h after : HeapState) (budget spent : ℕ) → ArePages after.store.pages → QuantumSpends h budget after spent → (after.phase ≡ phases.Idle) ⊎ (budget < spent + 256)
turn_left h after budget spent w t = elim t.ends [
  | inl e ↦ inl e
  | inr n ↦ inr (let c = cost_high after n.0 w n.1 in let l = n.2 in omega arith)
]
