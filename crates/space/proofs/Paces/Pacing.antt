-- A run that keeps to a pace keeps to a demand.
use Rattle.std.proofs.Common.{◌≡◌, ℕ, zero, suc, ◌+◌, ◌-◌, ◌*◌, ◌<◌, ◌≤◌, ◌⊎◌, inl, inr, Bool, true, false, ◌==◌, if◌then◌else◌, List, [], ◌∷◌, ◌++◌, Result, Ok, Err, length, get_or, drop, ap, ◌∙◌, sym, subst, arith, refl}
use Rattle.std.proofs.lemmas.List.{drop-append-le, get_or_past}
use Rattle.std.proofs.lemmas.Bool.{cases_lt}
use Rattle.std.proofs.lemmas.List.Sums.{sum_by-cons, sum_by-append}
use Rattle.std.proofs.Math.Nat.{mul-le-mul_right}
use Rattle.std.proofs.Math.Seq.{drop-length}
use Rattle.size_classes.specs.declared.class.TheConstants.{CLASSES}
use Rattle.graph_heap.specs.declared.command.Shape.{Shape}
use Rattle.graph_heap.specs.declared.command.Command.{Command}
use Rattle.graph_heap.specs.declared.command.Command.TheVariants as commands
use Rattle.graph_heap.specs.declared.command.Reply.{Reply}
use Rattle.graph_heap.specs.declared.command.Refusal.{Refusal}
use Rattle.graph_heap.specs.declared.command.Change.{Change}
use Rattle.graph_heap.specs.declared.command.Change.TheVariants as changes
use Rattle.graph_heap.specs.Graph.{Object, Graph, object_of, no_object, new_object, changed}
use Rattle.graph_heap.specs.Effect.{settled, slot_at, fitting, next_identity, admitted}
use Rattle.size_classes.specs.Need.{needed}
use Rattle.heap_model.specs.declared.phase.Phase.{Phase}
use Rattle.heap_model.specs.declared.phase.Phase.TheVariants as phases
use Rattle.heap_model.specs.State.{HeapState}
use Rattle.heap_model.specs.Opening.{IsOpening}
use Rattle.heap_model.specs.Event.{Course, Event, Command_done, Cycle_begun, Begin_refused, Quantum_done, Quantum_refused, Enters, Begins, Collects, Does, Runs, IsCourse, present_of, room_for, change_by}
use Rattle.heap_model.specs.ReachedFrom.{opened}
use Rattle.heap_model.specs.Left.{LeavesCycle}
use Rattle.heap_model.proofs.Represents.{idle_chain}
use Rattle.heap_model.proofs.Left.{change_left}
use Rattle.heap_model.proofs.Cut.Changes.{length-put}
use Rattle.heap_model.proofs.Event.Freed.{objects_stay}
use Rattle.heap_model.proofs.Event.Kept.{enters_graph, enters_present, begins_present, collects_present, does_course}
use Rattle.space.specs.Demand.{LiveWithin, blocks_of, asked_for, asked_by}
use Rattle.heap_model.specs.Phases.{awaits_sweep_end}
use Rattle.space.specs.Tally.{Tally, opening_tally, after_event, KeepsTo, AllKeepTo}
use Rattle.space.specs.Placement.{KeepsShapes}
use Rattle.space.specs.Pace.{Pace, Beat, opening_beat, next_beat, in_cycle, KeepsPace, AllKeepPace, demand_of}
use Rattle.space.proofs.Placement.Changing.{shapes_kept}
use Rattle.space.proofs.Rooms.{new_effect}

step_times : (n b : ℕ) → (n + 1) * b ≡ n * b + b
step_times n b = grind arith

-- objects of the same shapes need the same
abbrev SameShapes : List Object → List Object → Type 0
SameShapes xs ys = (length ys ≡ length xs) × ((k : ℕ) → (get_or ys k no_object).shape ≡ (get_or xs k no_object).shape)

blocks_same : (xs ys : List Object) (class : ℕ) → SameShapes xs ys → blocks_of ys class ≡ blocks_of xs class
blocks_same [] [] class e = refl
blocks_same [] (y ∷ ys) class e = absurd (let l = e.0 in omega (arith, l))
blocks_same (x ∷ xs) [] class e = absurd (let l = e.0 in omega (arith, l))
blocks_same (x ∷ xs) (y ∷ ys) class e =
    let r = blocks_same xs ys class ((let l = e.0 in omega (arith, l)), λ k. e.1 (suc k)) in
    let h : needed y.shape class ≡ needed x.shape class = ap (λ s. needed s class) (e.1 0) in
    let a = sum_by-cons (λ (o : Object). needed o.shape class) x xs in
    let b = sum_by-cons (λ (o : Object). needed o.shape class) y ys in
    omega (arith, r, h, a, b)

drop_same : (n : ℕ) (xs ys : List Object) → SameShapes xs ys → SameShapes (drop n xs) (drop n ys)
drop_same zero xs ys e = e
drop_same (suc n) [] [] e = e
drop_same (suc n) [] (y ∷ ys) e = absurd (let l = e.0 in omega (arith, l))
drop_same (suc n) (x ∷ xs) [] e = absurd (let l = e.0 in omega (arith, l))
drop_same (suc n) (x ∷ xs) (y ∷ ys) e = drop_same n xs ys ((let l = e.0 in omega (arith, l)), λ k. e.1 (suc k))

object_at : (xs : List Object) (k : ℕ) → object_of xs (k + 1) ≡ get_or xs k no_object
unfolding object_of
object_at xs k = let e : (k + 1 == 0) ≡ false = not_zero k in let f : k + 1 - 1 ≡ k = omega arith in ap (λ b. if b then no_object else get_or xs (k + 1 - 1) no_object) e ∙ ap (λ z. get_or xs z no_object) f
  where
    not_zero : (k : ℕ) → (k + 1 == 0) ≡ false
    not_zero k = grind arith

put_same : (g : Graph) (c : Change) → length (changed g c).objects ≡ length g.objects → SameShapes g.objects (changed g c).objects
put_same g c l = (l, λ k. by_size k (cases_lt k (length g.objects)))
  where
    s : KeepsShapes g.objects (changed g c).objects
    s = shapes_kept g c

    by_size : (k : ℕ) → (k < length g.objects) ⊎ (length g.objects ≤ k) → (get_or (changed g c).objects k no_object).shape ≡ (get_or g.objects k no_object).shape
    by_size k (inl less) =
        ap (λ (o : Object). o.shape) (sym (object_at (changed g c).objects k)) ∙ s.shape (k + 1) (let z : k + 1 ≤ length g.objects = omega arith in z) ∙ ap (λ (o : Object). o.shape) (object_at g.objects k)
    by_size k (inr more) = ap (λ (o : Object). o.shape) (get_or_past (changed g c).objects k no_object (let z : length (changed g c).objects ≤ k = omega (arith, l, more) in z) ∙ sym (get_or_past g.objects k no_object more))

-- what a change adds to the objects allocated since
pub more_since : (g : Graph) (c : Change) (n class : ℕ) → n ≤ length g.objects → blocks_of (drop n (changed g c).objects) class ≡ blocks_of (drop n g.objects) class + asked_by c class
more_since g changes.Nothing n class low = omega arith
more_since g (changes.Root cell id) n class low = omega arith
more_since g (changes.Ref id i value) n class low = let e = blocks_same (drop n g.objects) (drop n (changed g (changes.Ref id i value)).objects) class (drop_same n g.objects _ (put_same g (changes.Ref id i value) (length-put g.objects id _))) in omega (arith, e)
more_since g (changes.Word id i value) n class low = let e = blocks_same (drop n g.objects) (drop n (changed g (changes.Word id i value)).objects) class (drop_same n g.objects _ (put_same g (changes.Word id i value) (length-put g.objects id _))) in omega (arith, e)
more_since g (changes.New cell id shape) n class low =
    let d : blocks_of (drop n (g.objects ++ new_object shape ∷ [])) class ≡ blocks_of (drop n g.objects ++ new_object shape ∷ []) class = ap (λ z. blocks_of z class) (drop-append-le n g.objects (new_object shape ∷ []) low) in
    let a = sum_by-append (λ (o : Object). needed o.shape class) (drop n g.objects) (new_object shape ∷ []) in
    let b = sum_by-cons (λ (o : Object). needed o.shape class) (new_object shape) [] in
    omega (arith, d, a, b)
more_since g (changes.Join m) n class low = omega arith
more_since g (changes.Leave m) n class low = omega arith

-- what a command changes asks for no more than the command
new_less : (l : Result (Unit {0}) Refusal) (s : Result ℕ Refusal) (f : Result Shape Refusal) (i : Result ℕ Refusal) (shape : Shape) (room : Bool) (k : ℕ) → asked_by (settled (new_effect l s f i shape room)).1 k ≤ asked_by (settled (new_effect l s f i shape true)).1 k
new_less (Err e) s f i shape room k = omega arith
new_less (Ok l) (Err e) f i shape room k = omega arith
new_less (Ok l) (Ok d) (Err e) i shape room k = omega arith
new_less (Ok l) (Ok d) (Ok o) (Err e) shape room k = omega arith
new_less (Ok l) (Ok d) (Ok o) (Ok id) shape true k = omega arith
new_less (Ok l) (Ok d) (Ok o) (Ok id) shape false k = omega arith

pub command_less : (h : HeapState) (g : Graph) (m : ℕ) (c : Command) (k : ℕ) → asked_by (change_by (room_for h c) g m c) k ≤ asked_for g m c k
command_less h g m (commands.New dst shape) k = new_less (admitted g m (commands.New dst shape)) (slot_at g.limits m dst) (fitting shape) (next_identity g) shape (room_for h (commands.New dst shape)) k
command_less h g m _ k = omega arith

-- how many quanta of the cycle that began last were done, after one more event
abbrev pub quanta_after : Course → Event → ℕ → ℕ
quanta_after r (Command_done m c reply) n = n
quanta_after r Cycle_begun n = 0
quanta_after r Begin_refused n = n
quanta_after r (Quantum_done budget units phase) n = if in_cycle r.heap.phase then n + 1 else n
quanta_after r (Quantum_refused budget) n = n

-- The invariant, if n quanta of the cycle were done, and no cycle takes more than `most`.
pub record IsPaced (r : Course) (t : Tally) (b : Beat) (p : Pace) (most n : ℕ) : Type 0 where
  pub graph : t.graph ≡ present_of r
  pub same : b.graph ≡ present_of r
  pub cycle_running : b.cycle_running ≡ in_cycle r.heap.phase
  pub last : t.last ≤ length t.graph.objects
  pub base : t.base ≤ length t.graph.objects
  pub asked : (class : ℕ) → class < CLASSES → b.asked class ≤ (if b.cycle_running then p.busy class else p.idle class)
  pub since_last : (class : ℕ) → class < CLASSES → blocks_of (drop t.last t.graph.objects) class ≤ (if b.cycle_running then n * p.busy class else most * p.busy class) + b.asked class
  pub since_base : (class : ℕ) → class < CLASSES → blocks_of (drop t.base t.graph.objects) class ≤ (if b.cycle_running then most * p.busy class + p.idle class + n * p.busy class else most * p.busy class) + b.asked class

-- only in idle no cycle is running
pub idle_phase : (f : Phase) → in_cycle f ≡ false → f ≡ phases.Idle
idle_phase phases.Idle e = refl
idle_phase (phases.Roots next) e = absurd (cc)
idle_phase (phases.Marking part cell) e = absurd (cc)
idle_phase (phases.Sweeping page block) e = absurd (cc)
idle_phase (phases.Moving m) e = absurd (cc)

-- a command leaves the cycle as it is
pub command_left : (r new : Course) (m : ℕ) (c : Command) (reply : Reply) → Enters r m c reply new → LeavesCycle r.heap new.heap
command_left r new m c reply e = change_left r.heap new.heap (present_of r) (change_by (room_for r.heap c) (present_of r) m c) e.change

module _ (p : Pace) (k most : ℕ) where
  times : (class : ℕ) (n : ℕ) → n + 1 ≤ most → n * p.busy class + p.busy class ≤ most * p.busy class
  times class n l = let m = mul-le-mul_right (p.busy class) l in let e : (n + 1) * p.busy class ≡ n * p.busy class + p.busy class = next_times n (p.busy class) in omega (arith, m, e)
    where
      next_times : (n b : ℕ) → (n + 1) * b ≡ n * b + b
      next_times n b = grind arith

  paced_keeps : (r : Course) (t : Tally) (b : Beat) (n m : ℕ) (c : Command) (reply : Reply) → IsPaced r t b p most n → (b.cycle_running ≡ true → n + 1 ≤ most) → KeepsPace p k b (Command_done m c reply) → KeepsTo (demand_of p most) t (Command_done m c reply)
  paced_keeps r t b n m c reply i few keeps class small = by_on b.cycle_running refl (keeps class small) (i.since_base class small)
    where
      asked : asked_for t.graph m c class ≡ asked_for b.graph m c class
      asked = ap (λ z. asked_for z m c class) (i.graph ∙ sym i.same)

      by_on : (o : Bool) → b.cycle_running ≡ o → b.asked class + asked_for b.graph m c class ≤ (if o then p.busy class else p.idle class)
          → blocks_of (drop t.base t.graph.objects) class ≤ (if o then most * p.busy class + p.idle class + n * p.busy class else most * p.busy class) + b.asked class
          → blocks_of (drop t.base t.graph.objects) class + asked_for t.graph m c class ≤ 2 * (most * p.busy class) + p.idle class
      by_on true e a l = let x = times class n (few e) in omega (arith, asked, a, l, x)
      by_on false e a l = omega (arith, asked, a, l)

  paced_command : (r new : Course) (t : Tally) (b : Beat) (n m : ℕ) (c : Command) (reply : Reply) → IsCourse r → IsPaced r t b p most n → KeepsPace p k b (Command_done m c reply) → Enters r m c reply new
      → IsPaced new (after_event t (Command_done m c reply)) (next_beat b (Command_done m c reply)) p most n
  paced_command r new t b n m c reply w i keeps e = record {
    graph = enters_graph r new m c reply w e t.graph i.graph;
    same = enters_graph r new m c reply w e b.graph i.same;
    cycle_running = i.cycle_running ∙ ap in_cycle (sym (command_left r new m c reply e).phase);
    last = (let l = i.last in let q = longer in omega (arith, l, q));
    base = (let l = i.base in let q = longer in omega (arith, l, q));
    asked = keeps;
    since_last = λ class small. (let l = i.since_last class small in let q = more t.last i.last class in omega (arith, l, q));
    since_base = λ class small. (let l = i.since_base class small in let q = more t.base i.base class in omega (arith, l, q));
  }
    where
      g : Graph
      g = present_of r

      change : Change
      change = change_by (room_for r.heap c) g m c

      next : Graph
      next = (after_event t (Command_done m c reply)).graph

      is : next ≡ changed g change
      is = enters_graph r new m c reply w e t.graph i.graph ∙ enters_present r new m c reply w e

      longer : length t.graph.objects ≤ length next.objects
      longer = let o = objects_stay g change in let x : length next.objects ≡ length (changed g change).objects = ap (λ (z : Graph). length z.objects) is in let y : length t.graph.objects ≡ length g.objects = ap (λ (z : Graph). length z.objects) i.graph in omega (arith, o, x, y)

      more : (start : ℕ) → start ≤ length t.graph.objects → (class : ℕ) → blocks_of (drop start next.objects) class ≤ blocks_of (drop start t.graph.objects) class + asked_for b.graph m c class
      more start low class =
          let y : length t.graph.objects ≡ length g.objects = ap (λ (z : Graph). length z.objects) i.graph in
          let a = more_since g change start class (omega (arith, low, y)) in
          let d = command_less r.heap g m c class in
          let x : blocks_of (drop start next.objects) class ≡ blocks_of (drop start (changed g change).objects) class = ap (λ (z : Graph). blocks_of (drop start z.objects) class) is in
          let v : blocks_of (drop start t.graph.objects) class ≡ blocks_of (drop start g.objects) class = ap (λ (z : Graph). blocks_of (drop start z.objects) class) i.graph in
          let u : asked_for b.graph m c class ≡ asked_for g m c class = ap (λ z. asked_for z m c class) i.same in
          omega (arith, a, d, x, v, u)

  paced_begins : (r new : Course) (t : Tally) (b : Beat) (n : ℕ) → IsPaced r t b p most n → Begins r new → IsPaced new (after_event t Cycle_begun) (next_beat b Cycle_begun) p most 0
  paced_begins r new t b n i e = record {
    graph = i.graph ∙ sym (begins_present r new e);
    same = i.same ∙ sym (begins_present r new e);
    cycle_running = sym (ap (λ (z : HeapState). in_cycle z.phase) e.heap);
    last = omega arith;
    base = i.base;
    asked = λ class small. omega arith;
    since_last = λ class small. (let z : blocks_of (drop (length t.graph.objects) t.graph.objects) class ≡ 0 = ap (λ (y : List Object). blocks_of y class) (drop-length t.graph.objects) in omega (arith, z));
    since_base = λ class small. by_off b.cycle_running off (i.asked class small) (i.since_base class small);
  }
    where
      off : b.cycle_running ≡ false
      off = i.cycle_running ∙ ap in_cycle e.idle

      by_off : {class : ℕ} (o : Bool) → o ≡ false → b.asked class ≤ (if o then p.busy class else p.idle class)
          → blocks_of (drop t.base t.graph.objects) class ≤ (if o then most * p.busy class + p.idle class + n * p.busy class else most * p.busy class) + b.asked class
          → blocks_of (drop t.base t.graph.objects) class ≤ most * p.busy class + p.idle class + 0 * p.busy class + 0
      by_off true z a l = absurd (cc)
      by_off false z a l = omega (arith, a, l)

  paced_quantum : (r new : Course) (budget units : ℕ) (phase : Phase) (t : Tally) (b : Beat) (n : ℕ) → IsCourse r → IsPaced r t b p most n → (b.cycle_running ≡ true → n + 1 ≤ most) → Collects r budget units phase new
      → IsPaced new (after_event t (Quantum_done budget units phase)) (next_beat b (Quantum_done budget units phase)) p most (if in_cycle r.heap.phase then n + 1 else n)
  paced_quantum r new budget units phase t b n w i few q = subst
      (λ z. IsPaced new (after_event t (Quantum_done budget units phase)) (next_beat b (Quantum_done budget units phase)) p most (if z then n + 1 else n)) i.cycle_running (by_on b.cycle_running refl)
    where
      present : present_of new ≡ present_of r
      present = collects_present r new budget units phase w q

      -- No cycle is running.
      at_rest : b.cycle_running ≡ false → IsPaced new (if awaits_sweep_end phase then t else record t { base = t.last }) b p most n
      at_rest off =
          let still = idle_chain r.heap new.heap units q.turn.chain (idle_phase r.heap.phase (sym i.cycle_running ∙ off)) in
          let ends : phase ≡ phases.Idle = sym q.ends ∙ ap (λ (z : HeapState). z.phase) still.0 ∙ idle_phase r.heap.phase (sym i.cycle_running ∙ off) in
          subst (λ z. IsPaced new (if awaits_sweep_end z then t else record t { base = t.last }) b p most n) (sym ends) (record {
            graph = i.graph ∙ sym present;
            same = i.same ∙ sym present;
            cycle_running = i.cycle_running ∙ ap (λ (z : HeapState). in_cycle z.phase) (sym still.0);
            last = i.last;
            base = i.last;
            asked = i.asked;
            since_last = i.since_last;
            since_base = λ class small. by_off class b.cycle_running off (i.since_last class small);
          })
        where
          by_off : (class : ℕ) (o : Bool) → o ≡ false → blocks_of (drop t.last t.graph.objects) class ≤ (if o then n * p.busy class else most * p.busy class) + b.asked class
              → blocks_of (drop t.last t.graph.objects) class ≤ (if o then most * p.busy class + p.idle class + n * p.busy class else most * p.busy class) + b.asked class
          by_off class true z l = absurd (cc)
          by_off class false z l = l

      -- A cycle is running.
      at_work : b.cycle_running ≡ true → IsPaced new (if awaits_sweep_end phase then t else record t { base = t.last }) (record b { cycle_running = in_cycle phase; asked = λ class. 0 }) p most (n + 1)
      at_work on = by_phase phase q.ends
        where
          since_last : (class : ℕ) → class < CLASSES → (blocks_of (drop t.last t.graph.objects) class ≤ (n + 1) * p.busy class) × (blocks_of (drop t.last t.graph.objects) class ≤ most * p.busy class)
          since_last class small = by_true b.cycle_running on (i.asked class small) (i.since_last class small)
            where
              by_true : (o : Bool) → o ≡ true → b.asked class ≤ (if o then p.busy class else p.idle class) → blocks_of (drop t.last t.graph.objects) class ≤ (if o then n * p.busy class else most * p.busy class) + b.asked class
                  → (blocks_of (drop t.last t.graph.objects) class ≤ (n + 1) * p.busy class) × (blocks_of (drop t.last t.graph.objects) class ≤ most * p.busy class)
              by_true false z a l = absurd (cc)
              by_true true z a l = let x = times class n (few on) in let s = step_times n (p.busy class) in (omega (arith, a, l, s), omega (arith, a, l, x))

          since_base : (class : ℕ) → class < CLASSES → blocks_of (drop t.base t.graph.objects) class ≤ most * p.busy class + p.idle class + (n + 1) * p.busy class
          since_base class small = by_true b.cycle_running on (i.asked class small) (i.since_base class small)
            where
              by_true : (o : Bool) → o ≡ true → b.asked class ≤ (if o then p.busy class else p.idle class)
                  → blocks_of (drop t.base t.graph.objects) class ≤ (if o then most * p.busy class + p.idle class + n * p.busy class else most * p.busy class) + b.asked class
                  → blocks_of (drop t.base t.graph.objects) class ≤ most * p.busy class + p.idle class + (n + 1) * p.busy class
              by_true false z a l = absurd (cc)
              by_true true z a l = let s = step_times n (p.busy class) in omega (arith, a, l, s)

          -- when the quantum ends, with the objects that are counted from then on
          ended : (f : Phase) (o : Bool) (start : ℕ) → new.heap.phase ≡ f → in_cycle f ≡ o → start ≤ length t.graph.objects
              → ((class : ℕ) → class < CLASSES → blocks_of (drop t.last t.graph.objects) class ≤ (if o then (n + 1) * p.busy class else most * p.busy class))
              → ((class : ℕ) → class < CLASSES → blocks_of (drop start t.graph.objects) class ≤ (if o then most * p.busy class + p.idle class + (n + 1) * p.busy class else most * p.busy class))
              → IsPaced new (record t { base = start }) (record b { cycle_running = o; asked = λ class. 0 }) p most (n + 1)
          ended f o start e is low last base = record {
            graph = i.graph ∙ sym present;
            same = i.same ∙ sym present;
            cycle_running = sym (ap in_cycle e ∙ is);
            last = i.last;
            base = low;
            asked = λ class small. omega arith;
            since_last = λ class small. (let l = last class small in omega (arith, l));
            since_base = λ class small. (let l = base class small in omega (arith, l));
          }

          tracing : (f : Phase) → new.heap.phase ≡ f → in_cycle f ≡ true → IsPaced new t (record b { cycle_running = true; asked = λ class. 0 }) p most (n + 1)
          tracing f e o = ended f true t.base e o i.base (λ class small. (since_last class small).0) since_base

          by_phase : (f : Phase) → new.heap.phase ≡ f → IsPaced new (if awaits_sweep_end f then t else record t { base = t.last }) (record b { cycle_running = in_cycle f; asked = λ class. 0 }) p most (n + 1)
          by_phase (phases.Roots next) e = tracing (phases.Roots next) e refl
          by_phase (phases.Marking part cell) e = tracing (phases.Marking part cell) e refl
          by_phase (phases.Sweeping page block) e = tracing (phases.Sweeping page block) e refl
          by_phase (phases.Moving m) e = ended (phases.Moving m) true t.last e refl i.last (λ class small. (since_last class small).0) (λ class small. (let l = (since_last class small).0 in omega (arith, l)))
          by_phase phases.Idle e = ended phases.Idle false t.last e refl i.last (λ class small. (since_last class small).1) (λ class small. (since_last class small).1)

      by_on : (o : Bool) → b.cycle_running ≡ o → IsPaced new (if awaits_sweep_end phase then t else record t { base = t.last }) (if b.cycle_running then record b { cycle_running = in_cycle phase; asked = λ class. 0 } else b) p most (if b.cycle_running then n + 1 else n)
      by_on true e = subst (λ z. IsPaced new (if awaits_sweep_end phase then t else record t { base = t.last }) (if z then record b { cycle_running = in_cycle phase; asked = λ class. 0 } else b) p most (if z then n + 1 else n)) (sym e) (at_work e)
      by_on false e = subst (λ z. IsPaced new (if awaits_sweep_end phase then t else record t { base = t.last }) (if z then record b { cycle_running = in_cycle phase; asked = λ class. 0 } else b) p most (if z then n + 1 else n)) (sym e) (at_rest e)

  -- an event keeps to the demand
  paced_to : (r : Course) (e : Event) (t : Tally) (b : Beat) (n : ℕ) → IsPaced r t b p most n → (b.cycle_running ≡ true → n + 1 ≤ most) → KeepsPace p k b e → KeepsTo (demand_of p most) t e
  paced_to r (Command_done m c reply) t b n i few keeps = paced_keeps r t b n m c reply i few keeps
  paced_to r Cycle_begun t b n i few keeps = subst (λ z. LiveWithin z p.live) (i.same ∙ sym i.graph) keeps
  paced_to r Begin_refused t b n i few keeps = tt
  paced_to r (Quantum_done budget units phase) t b n i few keeps = tt
  paced_to r (Quantum_refused budget) t b n i few keeps = tt

  -- and what is kept holds after it
  paced_next : (r : Course) (e : Event) (new : Course) (t : Tally) (b : Beat) (n : ℕ) → IsCourse r → IsPaced r t b p most n → (b.cycle_running ≡ true → n + 1 ≤ most) → KeepsPace p k b e → Does r e new
      → IsPaced new (after_event t e) (next_beat b e) p most (quanta_after r e n)
  paced_next r (Command_done m c reply) new t b n w i few keeps does = paced_command r new t b n m c reply w i keeps does
  paced_next r Cycle_begun new t b n w i few keeps does = paced_begins r new t b n i does
  paced_next r Begin_refused new t b n w i few keeps does = subst (λ z. IsPaced z t b p most n) (sym does.1) i
  paced_next r (Quantum_done budget units phase) new t b n w i few keeps does = paced_quantum r new budget units phase t b n w i few does
  paced_next r (Quantum_refused budget) new t b n w i few keeps does = subst (λ z. IsPaced z t b p most n) (sym does.1) i

  -- A run that keeps to a pace keeps to a demand, if its course, its tally and the quanta of its cycle keep a fact by
  -- which the quanta never get too many.
  pub runs_keep : (Kept : Course → Tally → ℕ → Type 0) → ((r : Course) (t : Tally) (n : ℕ) → IsCourse r → Kept r t n → in_cycle r.heap.phase ≡ true → n + 1 ≤ most)
      → ((r : Course) (e : Event) (new : Course) (t : Tally) (b : Beat) (n : ℕ) → IsCourse r → Kept r t n → KeepsPace p k b e → KeepsTo (demand_of p most) t e → Does r e new → Kept new (after_event t e) (quanta_after r e n))
      → (es : List Event) (r new : Course) (t : Tally) (b : Beat) (n : ℕ) → IsCourse r → Kept r t n → IsPaced r t b p most n → Runs r es new → AllKeepPace p k b es → AllKeepTo (demand_of p most) t es
  runs_keep Kept few step [] r new t b n w kept i runs keeps = tt
  runs_keep Kept few step (e ∷ es) r new t b n w kept i runs keeps =
      let low : b.cycle_running ≡ true → n + 1 ≤ most = λ on. few r t n w kept (sym i.cycle_running ∙ on) in
      let to = paced_to r e t b n i low keeps.0 in (
        to,
        runs_keep Kept few step es runs.0 new (after_event t e) (next_beat b e) (quanta_after r e n) (does_course r e runs.0 w runs.1)
            (step r e runs.0 t b n w kept keeps.0 to runs.1) (paced_next r e runs.0 t b n w i low keeps.0 runs.1) runs.2 keeps.1,
      )

-- at the opening nothing was asked for
pub opening_paced : (h : HeapState) (p : Pace) (most : ℕ) → IsOpening h → IsPaced (opened h) (opening_tally h.limits) (opening_beat h.limits) p most 0
opening_paced h p most o = record {
  graph = refl;
  same = refl;
  cycle_running = sym (ap in_cycle o.phase);
  last = omega arith;
  base = omega arith;
  asked = λ class small. omega arith;
  since_last = λ class small. omega arith;
  since_base = λ class small. omega arith;
}
