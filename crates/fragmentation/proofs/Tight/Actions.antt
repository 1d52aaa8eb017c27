-- Facts of few pages and of leftover pages, through each action and each chain of actions.
use Rattle.std.proofs.Common.{◌≡◌, ℕ, ◌+◌, ◌-◌, ◌<◌, ◌≤◌, ◌⊎◌, inl, inr, Bool, true, false, ◌&&◌, if◌then◌else◌, nat_lt, List, Option, Some, None, length, ap, ◌∙◌, sym, subst, arith, refl}
use Rattle.std.proofs.lemmas.List.Sums.{count_by-le-length}
use Rattle.std.proofs.lemmas.List.Quantifiers.{position-Some}
use Rattle.graph_heap.specs.Graph.{Graph, first_slot}
use Rattle.graph_heap.specs.declared.command.Change.{Change}
use Rattle.size_classes.specs.declared.class.TheConstants.{CLASSES}
use Rattle.size_classes.specs.Parts.{cells_of, parts_in}
use Rattle.heap_model.specs.declared.phase.Phase.{Phase}
use Rattle.heap_model.specs.declared.phase.Phase.TheVariants as phases
use Rattle.heap_model.specs.declared.phase.Moving.TheVariants as moves
use Rattle.heap_model.specs.Pages.{Page, is_usable, is_free, page_at, free_pages}
use Rattle.heap_model.specs.Store.{Store}
use Rattle.heap_model.specs.State.{HeapState}
use Rattle.heap_model.specs.Marks.{HasNoMark, AreClosed}
use Rattle.heap_model.specs.Placed.{IsPlaced}
use Rattle.heap_model.specs.Settings.{HeapSettings, settings_of}
use Rattle.heap_model.specs.Represents.{Represents, is_sweeping}
use Rattle.heap_model.specs.Change.{DoesChange, Does_nothing, Does_root, Does_ref, Does_word, Does_new, Does_join, Does_leave}
use Rattle.heap_model.specs.Action.{Relinks, Action, Chain, Nothing_done, Then, Scans_root, Ends_roots, Scans_header, Scans_cell, Ends_marking, Frees_block, Passes_block, Closes_page, Ends_sweep, Looks_at_page, Chooses_page, Chooses_none, Moves_block, Ends_moving, MovingDone, No_class, No_page, goes_to, after_sweep, is_sparse, is_choosable}
use Rattle.heap_model.proofs.Marks.{no_mark}
use Rattle.heap_model.proofs.Change.Recording.{records_stay}
use Rattle.heap_model.proofs.Grey.Relinked.{represents_relinked, relinked_settings}
use Rattle.heap_model.proofs.Settings.{action_settings}
use Rattle.heap_model.proofs.Represents.{represents_action}
use Rattle.space.specs.Demand.{asked_by}
use Rattle.heap_model.specs.Phases.{awaits_sweep_end}
use Rattle.space.specs.Counts.{main_blocks, used_pages}
use Rattle.space.specs.Placement.{IsTidy}
use Rattle.space.proofs.Counts.{used, both_true}
use Rattle.space.proofs.Placement.Tidying.{shrinks_then, shrinks_writes, shrinks_shades, shrinks_frees, shrinks_keeps, tidy_same}
use Rattle.space.proofs.Placement.Acting.{tidy_action}
use Rattle.space.proofs.Placement.Changing.{shrinks_records}
use Rattle.space.proofs.Space.{none_evacuating}
use Rattle.fragmentation.specs.Gathering.{AreUsed, ReceivesFirst, AreTight, HasLooked, IsGathering}
use Rattle.fragmentation.specs.Suffice.{gathered_pages, GathersAll}
use Rattle.fragmentation.proofs.Tight.IsFew.{IsFew}
use Rattle.fragmentation.proofs.Tight.IsLeftover.{IsSettled, IsEmptying, AtLook, IsLeftover}
use Rattle.fragmentation.proofs.Tight.Free.{chosen_free}
use Rattle.fragmentation.proofs.Tight.Few.{few_starts, few_action, at_pass_moving, done_moving, moving_not, sweep_ended, not_both}
use Rattle.fragmentation.proofs.Gathering.Passing.{in_pass}
use Rattle.fragmentation.proofs.Gathering.Steps.{gather_action, gather_same, clears_pages, tight_action}
use Rattle.fragmentation.proofs.Tight.Leftover.{leftover_same, settled_freed, settled_closed, settled_used, none_leaves, at_look}
use Rattle.fragmentation.proofs.Tight.Evacuating.{chosen_left, block_left, never_cut, moved_settled}
use Rattle.fragmentation.proofs.Tight.Growing.{few_made, takes_few}

-- what is left, through each action but the change out of a sweep
at_phase : (s : Store) (p q : Phase) (need : ℕ → ℕ) → p ≡ q → IsLeftover s p need → IsLeftover s q need
at_phase s p q need e w = subst (λ z. IsLeftover s z need) e w

pub left_action : (h after : HeapState) (cost : ℕ) (present snapshot : Graph) (need : ℕ → ℕ) → Represents h present snapshot → IsGathering h.store.pages (length h.store.pages) h.phase → GathersAll h → (awaits_sweep_end h.phase ≡ false → (class : ℕ) → class < CLASSES → main_blocks h.store.pages class ≤ need class)
    → awaits_sweep_end after.phase ≡ awaits_sweep_end h.phase → Action h cost after → IsLeftover h.store h.phase need → IsLeftover after.store after.phase need
left_action h after cost g s need st ga all census same (Scans_root next k e l sh) w = let f = shrinks_shades _ k _ sh in leftover_same h.store k.store (phases.Roots (next + 1)) need f.0 f.1 (at_phase h.store h.phase (phases.Roots next) need e w)
left_action h after cost g s need st ga all census same (Ends_roots next e l) w = at_phase h.store h.phase (phases.Roots next) need e w
left_action h after cost g s need st ga all census same (Scans_header part cell x front back e f n) w = at_phase h.store h.phase (phases.Marking part cell) need e w
left_action h after cost g s need st ga all census same (Scans_cell part cell new k e l w0 sh) w =
    let f = shrinks_shades _ k _ sh in
    leftover_same h.store k.store (phases.Marking part (cell + 1)) need (shrinks_then h.store new k.store (shrinks_writes h.store new (part - 1) _ w0 (record { identity = refl; part = refl; shape = refl; forward = refl })) f.0) (f.1 ∙ w0.pages) (at_phase h.store h.phase (phases.Marking part cell) need e w)
left_action h after cost g s need st ga all census same (Ends_marking part cell e f n) w = at_phase h.store h.phase (phases.Marking part cell) need e w
left_action h after cost g s need st ga all census same (Frees_block page block p new e f was unmarked w0 pages) w =
    let q : (class : ℕ) → class < CLASSES → IsSettled h.store class (need class) = at_phase h.store h.phase (phases.Sweeping page block) need e w in
    λ class l. settled_freed h.store new page block class (need class) p (shrinks_frees h.store new _ w0) f pages (q class l)
left_action h after cost g s need st ga all census same (Passes_block page block p e f l marked) w = at_phase h.store h.phase (phases.Sweeping page block) need e w
left_action h after cost g s need st ga all census same (Closes_page page block new e l f w0 pages) w =
    let q : (class : ℕ) → class < CLASSES → IsSettled h.store class (need class) = at_phase h.store h.phase (phases.Sweeping page block) need e w in
    λ class small. settled_closed h g s page block class (need class) new small st e l f w0 pages (q class small)
left_action h after cost g s need st ga all census same (Ends_sweep page block e l) w = absurd (not_both _ (same ∙ ap awaits_sweep_end e) (sweep_ended (is_sparse h)))
left_action h after cost g s need st ga all census same (Looks_at_page class page best chosen at few more) w = at_look h class page best chosen need st.pages (census (sym same)) w at
left_action h after cost g s need st ga all census same (Chooses_page class page best chosen k p new at few last is good there w0 pages) w =
    let q = at_look h class page best chosen need st.pages (census (sym same)) w at in
    let i = in_pass h class page best chosen ga at in
    let ok : is_choosable class (Some p) ≡ true = sym (ap (is_choosable class) there) ∙ (both_true _ _ good).0 in
    chosen_left h.store new class k.page chosen p need st.pages i.used there ok (chosen_free h.store.pages class k st.pages good) few w0 pages
    (λ c t. tight_action h _ 1 c st.pages (moving_not h class page best chosen at) (Chooses_page class page best chosen k p new at few last is good there w0 pages) t) q
left_action h after cost g s need st ga all census same (Chooses_none class page best chosen at few last is) w = at_look h class page best chosen need st.pages (census (sym same)) w at
left_action h after cost g s need st ga all census same (Moves_block class page block chosen i to j p q new e at evacuating next place there empty w0 pages) w =
    let usable : is_usable p.class (Some q) ≡ true = ap (is_usable p.class) (sym there) ∙ (position-Some (is_usable p.class) h.store.pages to None place).1 in
    block_left h.store new page block chosen i to j p q need st.pages at evacuating next usable there empty w0 pages
    (λ c t. tight_action h _ _ c st.pages (ap is_sweeping e) (Moves_block class page block chosen i to j p q new e at evacuating next place there empty w0 pages) t)
    (at_phase h.store h.phase (phases.Moving (moves.Emptying class page block chosen)) need e w)
left_action h after cost g s need st ga all census same (Ends_moving done) w = ended done
  where
    main : (class : ℕ) → class < CLASSES → main_blocks h.store.pages class ≤ need class
    main = census (sym same)

    ended : MovingDone h → (class : ℕ) → class < CLASSES → IsSettled h.store class (need class)
    ended (No_class page best chosen e) class small =
        let q : AtLook h.store chosen need = at_phase h.store h.phase (phases.Moving (moves.Pass CLASSES page best chosen)) need e w in
        let t : AreUsed h.store.pages (length h.store.pages) × ReceivesFirst h.store.pages × AreTight h.store.pages CLASSES × HasLooked h.store.pages CLASSES page best = subst (IsGathering h.store.pages (length h.store.pages)) e ga in
        moved_settled h.store class (need class) small st.pages (t.2 class small) (main class small) (q.moved class small)
    ended (No_page k page block chosen p e at done most) class small =
        let q : IsEmptying h.store page block chosen need = at_phase h.store h.phase (phases.Moving (moves.Emptying k page block chosen)) need e w in
        let n = never_cut h.store page block chosen need q in
        let a = all.all in
        absurd (omega (arith, n, a, most))

-- a heap that goes on
pub record IsGoing (h : HeapState) (present snapshot : Graph) : Type 0 where
  pub represents : Represents h present snapshot
  pub tidy : IsTidy h.store present.objects
  pub gathering : IsGathering h.store.pages (length h.store.pages) h.phase
  pub all : GathersAll h

pub gathers_settings : (h k : HeapState) → settings_of k ≡ settings_of h → GathersAll h → GathersAll k
gathers_settings h k e w = record {
  always = (let a : length k.store.pages ≡ length h.store.pages = ap (λ (s : HeapSettings). s.pages) e in let b : k.defrag_below ≡ h.defrag_below = ap (λ (s : HeapSettings). s.defrag_below) e in let c = w.always in omega (arith, a, b, c));
  all = (let a : length k.store.pages ≡ length h.store.pages = ap (λ (s : HeapSettings). s.pages) e in let b : k.defrag_pages ≡ h.defrag_pages = ap (λ (s : HeapSettings). s.defrag_pages) e in let c = w.all in omega (arith, a, b, c));
}

going_action : (h after : HeapState) (cost : ℕ) (present snapshot : Graph) → IsGoing h present snapshot → Action h cost after → IsGoing after present snapshot
going_action h after cost g s w a = record {
  represents = represents_action h after cost g s w.represents a;
  tidy = tidy_action h after cost g s g.objects w.represents a w.tidy;
  gathering = gather_action h after cost w.represents.pages w.represents.closed w.gathering a;
  all = gathers_settings h after (action_settings h after cost a) w.all;
}

going_relinked : (h : HeapState) (linked : Store) (present snapshot : Graph) → Relinks h.store linked → IsGoing h present snapshot → IsGoing (record h { store = linked }) present snapshot
going_relinked h linked g s links w = record {
  represents = represents_relinked h linked links g s w.represents;
  tidy = tidy_same h.store linked g.objects (shrinks_keeps h.store linked links.blocks) links.pages w.tidy;
  gathering = gather_same h.store.pages linked.pages h.phase h.phase links.pages refl w.gathering;
  all = gathers_settings h (record h { store = linked }) (relinked_settings h linked links) w.all;
}

-- A sweep ends.
record LeavesSweep (h after : HeapState) : Type 0 where
  page : ℕ
  block : ℕ
  phase : h.phase ≡ phases.Sweeping page block
  all : length h.store.pages ≤ page
  after_is : after ≡ goes_to h 1 (after_sweep h)

leaves_sweep : (h after : HeapState) (cost : ℕ) → Action h cost after → awaits_sweep_end h.phase ≡ true → awaits_sweep_end after.phase ≡ false → LeavesSweep h after
leaves_sweep h after cost (Scans_root next k e l sh) x y = absurd (cc)
leaves_sweep h after cost (Ends_roots next e l) x y = absurd (cc)
leaves_sweep h after cost (Scans_header part cell z front back e f n) x y = absurd (cc)
leaves_sweep h after cost (Scans_cell part cell new k e l w0 sh) x y = absurd (cc)
leaves_sweep h after cost (Ends_marking part cell e f n) x y = absurd (cc)
leaves_sweep h after cost (Frees_block page block p new e f was unmarked w0 pages) x y = absurd (cc)
leaves_sweep h after cost (Passes_block page block p e f l marked) x y = absurd (cc)
leaves_sweep h after cost (Closes_page page block new e l f w0 pages) x y = absurd (cc)
leaves_sweep h after cost (Ends_sweep page block e l) x y = record { page = page; block = block; phase = e; all = l; after_is = refl }
leaves_sweep h after cost (Looks_at_page class page best chosen at few more) x y = absurd (not_both _ x (ap awaits_sweep_end (at_pass_moving h class page best chosen at).1))
leaves_sweep h after cost (Chooses_page class page best chosen k p new at few last is good there w0 pages) x y = absurd (not_both _ x (ap awaits_sweep_end (at_pass_moving h class page best chosen at).1))
leaves_sweep h after cost (Chooses_none class page best chosen at few last is) x y = absurd (not_both _ x (ap awaits_sweep_end (at_pass_moving h class page best chosen at).1))
leaves_sweep h after cost (Moves_block class page block chosen i to j p q new e at evacuating next place there empty w0 pages) x y = absurd (not_both _ x (ap awaits_sweep_end e))
leaves_sweep h after cost (Ends_moving done) x y = absurd (not_both _ x (ap awaits_sweep_end (done_moving h done).1))

-- with always enough to move, and all of it
sparse_always : (h : HeapState) → 0 < length h.store.pages → GathersAll h → is_sparse h ≡ true
sparse_always h some all = both _ _ (lt 0 h.defrag_pages (let a = all.all in omega (arith, a, some))) (lt (free_pages h.store.pages) h.defrag_below (let a = all.always in let f = count_by-le-length is_free h.store.pages in omega (arith, a, f)))
  where
    both : (a b : Bool) → a ≡ true → b ≡ true → (a && b) ≡ true
    both a b p q = cc

    lt : (a b : ℕ) → a < b → nat_lt a b ≡ true
    lt a b l = grind arith

-- how far a heap has got in a quantum: whether its cycle's sweep has still to end, how few pages there are, and what is left
pub record Advances (on : Bool) (h : HeapState) (first made need : ℕ → ℕ) : Type 0 where
  pub awaiting_sweep_end : awaits_sweep_end h.phase ≡ on
  pub few : IsFew h.store.pages h.phase first made
  pub left : IsLeftover h.store h.phase need

-- the sweep has ended in it
pub record Behind (h : HeapState) (old new : ℕ → ℕ) : Type 0 where
  pub first : ℕ → ℕ
  pub most : (class : ℕ) → class < CLASSES → first class ≤ gathered_pages class (old class)
  pub stage : Advances false h first (λ class. 0) new

stage_action : (on : Bool) (h after : HeapState) (cost : ℕ) (present snapshot : Graph) (first made need : ℕ → ℕ) → IsGoing h present snapshot → (awaits_sweep_end h.phase ≡ false → (class : ℕ) → class < CLASSES → main_blocks h.store.pages class ≤ need class)
    → Action h cost after → awaits_sweep_end after.phase ≡ on → Advances on h first made need → Advances on after first made need
stage_action on h after cost present snapshot first made need g census a e w =
    let same : awaits_sweep_end after.phase ≡ awaits_sweep_end h.phase = e ∙ sym w.awaiting_sweep_end in
    record { awaiting_sweep_end = e; few = few_action h after cost first made g.represents.pages same a w.few; left = left_action h after cost present snapshot need g.represents g.gathering g.all census same a w.left }

stage_relinked : (on : Bool) (h : HeapState) (linked : Store) (first made need : ℕ → ℕ) → Relinks h.store linked → Advances on h first made need → Advances on (record h { store = linked }) first made need
stage_relinked on h linked first made need links w = record {
  awaiting_sweep_end = w.awaiting_sweep_end;
  few = subst (λ z. IsFew z h.phase first made) (sym links.pages) w.few;
  left = leftover_same h.store linked h.phase need (shrinks_keeps h.store linked links.blocks) links.pages w.left;
}

-- no page is swept while blocks are moved, and no cycle begins by an action
stays_out : (h after : HeapState) (cost : ℕ) → Action h cost after → awaits_sweep_end h.phase ≡ false → awaits_sweep_end after.phase ≡ false
stays_out h after cost (Scans_root next k e l sh) x = absurd (not_both _ (ap awaits_sweep_end e) x)
stays_out h after cost (Ends_roots next e l) x = absurd (not_both _ (ap awaits_sweep_end e) x)
stays_out h after cost (Scans_header part cell z front back e f n) x = absurd (not_both _ (ap awaits_sweep_end e) x)
stays_out h after cost (Scans_cell part cell new k e l w0 sh) x = absurd (not_both _ (ap awaits_sweep_end e) x)
stays_out h after cost (Ends_marking part cell e f n) x = absurd (not_both _ (ap awaits_sweep_end e) x)
stays_out h after cost (Frees_block page block p new e f was unmarked w0 pages) x = absurd (not_both _ (ap awaits_sweep_end e) x)
stays_out h after cost (Passes_block page block p e f l marked) x = absurd (not_both _ (ap awaits_sweep_end e) x)
stays_out h after cost (Closes_page page block new e l f w0 pages) x = absurd (not_both _ (ap awaits_sweep_end e) x)
stays_out h after cost (Ends_sweep page block e l) x = absurd (not_both _ (ap awaits_sweep_end e) x)
stays_out h after cost (Looks_at_page class page best chosen at few more) x = refl
stays_out h after cost (Chooses_page class page best chosen k p new at few last is good there w0 pages) x = refl
stays_out h after cost (Chooses_none class page best chosen at few last is) x = refl
stays_out h after cost (Moves_block class page block chosen i to j p q new e at evacuating next place there empty w0 pages) x = refl
stays_out h after cost (Ends_moving done) x = refl

pub chain_out : (h after : HeapState) (spent : ℕ) → Chain h spent after → awaits_sweep_end h.phase ≡ false → awaits_sweep_end after.phase ≡ false
chain_out h after spent Nothing_done x = x
chain_out h after spent (Then u cost j k linked chain links action) x = stays_out (record j { store = linked }) k cost action (chain_out h j u chain x)

module _ (present snapshot : Graph) (first made old new : ℕ → ℕ) (census : (k : HeapState) → IsGoing k present snapshot → awaits_sweep_end k.phase ≡ false → (class : ℕ) → class < CLASSES → main_blocks k.store.pages class ≤ new class) where
  step_behind : (h after : HeapState) (cost : ℕ) (from made : ℕ → ℕ) → IsGoing h present snapshot → Action h cost after → Advances false h from made new → Advances false after from made new
  step_behind h after cost from made g a w = stage_action false h after cost present snapshot from made new g (census h g) a (stays_out h after cost a w.awaiting_sweep_end) w

  sweep_ends : (h after : HeapState) → IsGoing h present snapshot → LeavesSweep h after → Advances true h first made old → Behind after old new
  sweep_ends h after g l w = subst (λ z. Behind z old new) (sym l.after_is) (subst (λ z. Behind (goes_to h 1 z) old new) (sym moving) (record {
    first = used_pages h.store.pages;
    most = λ class small. (let u = used class h.store.pages in let n = none_evacuating h.store.pages none in let f = settled_used h.store class (old class) (settled class small) in omega (arith, u.0, u.1, n, f));
    stage = record { awaiting_sweep_end = refl; few = few_starts h.store.pages _ (λ class. refl); left = record { moved = λ class small. inl (none_leaves h.store class none); count = omega arith } };
  }))
    where
      moving : after_sweep h ≡ phases.Moving (moves.Pass 0 0 None 0)
      moving = ap (λ b. if b then phases.Moving (moves.Pass 0 0 None 0) else phases.Idle) (sparse_always h g.represents.some g.all)

      none : (k : ℕ) → HasNoMark (page_at h.store.pages k)
      none = no_mark h.store.pages l.page (subst (AreClosed h.store.pages) l.phase g.represents.closed) l.all

      settled : (class : ℕ) → class < CLASSES → IsSettled h.store class (old class)
      settled = at_phase h.store h.phase (phases.Sweeping l.page l.block) old l.phase w.left

  came_action : (h after : HeapState) (cost : ℕ) → IsGoing h present snapshot → Action h cost after → (Advances true h first made old ⊎ Behind h old new) → (Advances true after first made old ⊎ Behind after old new)
  came_action h after cost g a (inr w) = inr (record { first = w.first; most = w.most; stage = step_behind h after cost w.first _ g a w.stage })
  came_action h after cost g a (inl w) = by_tracing (awaits_sweep_end after.phase) refl
    where
      by_tracing : (b : Bool) → awaits_sweep_end after.phase ≡ b → (Advances true after first made old ⊎ Behind after old new)
      by_tracing true e = inl (stage_action true h after cost present snapshot first made old g (λ x. absurd (not_both _ w.awaiting_sweep_end x)) a e w)
      by_tracing false e = inr (sweep_ends h after g (leaves_sweep h after cost a w.awaiting_sweep_end e) w)

  came_relinked : (h : HeapState) (linked : Store) → Relinks h.store linked → (Advances true h first made old ⊎ Behind h old new) → (Advances true (record h { store = linked }) first made old ⊎ Behind (record h { store = linked }) old new)
  came_relinked h linked links (inl w) = inl (stage_relinked true h linked first made old links w)
  came_relinked h linked links (inr w) = inr (record { first = w.first; most = w.most; stage = stage_relinked false h linked w.first _ new links w.stage })

  -- a chain of actions
  pub came_chain : (h after : HeapState) (spent : ℕ) → IsGoing h present snapshot → Chain h spent after → (Advances true h first made old ⊎ Behind h old new) → IsGoing after present snapshot × (Advances true after first made old ⊎ Behind after old new)
  came_chain h after spent g Nothing_done w = (g, w)
  came_chain h after spent g (Then u cost j k linked chain links action) w =
      let r = came_chain h j u g chain w in
      let i = going_relinked j linked present snapshot links r.0 in
      (going_action (record j { store = linked }) k cost present snapshot i action, came_action (record j { store = linked }) k cost i action (came_relinked j linked links r.1))

  -- in a quantum whose cycle's sweep had ended before
  pub out_chain : (h after : HeapState) (spent : ℕ) → IsGoing h present snapshot → Chain h spent after → Advances false h first made new → IsGoing after present snapshot × Advances false after first made new
  out_chain h after spent g Nothing_done w = (g, w)
  out_chain h after spent g (Then u cost j k linked chain links action) w =
      let r = out_chain h j u g chain w in
      let i = going_relinked j linked present snapshot links r.0 in
      (going_action (record j { store = linked }) k cost present snapshot i action, step_behind (record j { store = linked }) k cost first made i action (stage_relinked false j linked first made new links r.1))

-- what a command changes
few_phase : (pages : List (Option Page)) (p q : Phase) (first made : ℕ → ℕ) → q ≡ p → IsFew pages p first made → IsFew pages q first made
few_phase pages p q first made e w = subst (λ z. IsFew pages z first made) (sym e) w

pub few_change : (h after : HeapState) (g : Graph) (c : Change) (first made : ℕ → ℕ) → IsPlaced h.store.pages h.phase → DoesChange h g c after → IsFew h.store.pages h.phase first made → IsFew after.store.pages after.phase first (λ k. made k + asked_by c k)
few_change h after g c first made placed Does_nothing w = few_made h.store.pages h.phase first made _ (λ k. omega arith) w
few_change h after g c first made placed (Does_root cell id y k r i) w =
    few_phase k.store.pages h.phase k.phase first _ (records_stay h k _ r).phase (few_made k.store.pages h.phase first made _ (λ n. omega arith) (subst (λ z. IsFew z h.phase first made) (sym (shrinks_records h k _ r).1) w))
few_change h after g c first made placed (Does_ref id i value address y k new at r main writes) w =
    few_phase new.pages h.phase k.phase first _ (records_stay h k _ r).phase (few_made new.pages h.phase first made _ (λ n. omega arith) (subst (λ z. IsFew z h.phase first made) (sym (writes.pages ∙ (shrinks_records h k _ r).1)) w))
few_change h after g c first made placed (Does_word id i word address new at writes) w = few_made new.pages h.phase first made _ (λ n. omega arith) (subst (λ z. IsFew z h.phase first made) (sym writes.pages) w)
few_change h after g c first made placed (Does_new cell id shape k new at r makes takes) w =
    let same = (shrinks_records h k _ r).1 in
    let phase = (records_stay h k _ r).phase in
    let before = few_phase k.store.pages h.phase k.phase first made phase (subst (λ z. IsFew z h.phase first made) (sym same) w) in
    let there : IsPlaced k.store.pages k.phase = subst (λ z. IsPlaced k.store.pages z) (sym phase) (subst (λ z. IsPlaced z h.phase) (sym same) placed) in
    takes_few (cells_of shape) at k.store.pages (parts_in (cells_of shape)) new.pages k.phase first made there takes before
few_change h after g c first made placed (Does_join m) w = few_made h.store.pages h.phase first made _ (λ k. omega arith) w
few_change h after g c first made placed (Does_leave m k clears) w =
    let e = clears_pages h (first_slot g.limits m) g.limits.slots k clears in
    few_phase k.store.pages h.phase k.phase first _ e.1 (few_made k.store.pages h.phase first made _ (λ n. omega arith) (subst (λ z. IsFew z h.phase first made) (sym e.0) w))
