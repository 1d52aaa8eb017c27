-- A log after one more step.
use Rattle.std.proofs.Common.{◌≡◌, ℕ, ◌+◌, ◌-◌, ◌^◌, min, max, Bool, true, false, cond, List, [], ◌∷◌, ◌++◌, length, refl, ap, ◌∙◌, sym, subst, arith, append_assoc}
use Rattle.std.specs.Prelude.{Option, Some, None, count_by}
use Rattle.heap_model.specs.Event.{Course}
use Rattle.nodes.specs.Copies.{copies_in}
use Rattle.nodes.specs.declared.nodes.counting.Copies.{Copies}
use Rattle.inspector.specs.declared.cycles.cycle.Cycle.{Cycle}
use Rattle.inspector.specs.declared.cycles.open.Base.{Base}
use Rattle.inspector.specs.declared.cycles.open.Open.{Open}
use Rattle.inspector.specs.declared.cycles.log.Log.{Log}
use Rattle.trace.specs.Steps.{Step}
use Rattle.inspector.specs.Steps.{is_quantum, begins, works, ends_sweep, ends_cycle}
use Rattle.inspector.specs.Cycles.{counted, after_last, copies_at, units_by, end_of, SweptBy, IsCycle, AreCycles, No_cycle, One_cycle_more}
use Rattle.inspector.specs.Log.{place_at, IsBase, AreCounted, IsEnd, IsStart, IsOpen, HasOpen, IsOpenIn, IsLog}
use Rattle.std.proofs.lemmas.List.Sums.{fold_push}
use Rattle.inspector.proofs.cycles.Stepping.{count_push, count_other, fewer, idles, ends_none, no_quantum, end_here, last_push, swept_other, end_other, counted_more}

-- what is known of the last sweep and the last end, with a step more
pub objects_more : (b : Bool) (r : Course) (o : Option Course) (n m : ℕ) → (b ≡ true → n ≡ (copies_in r.heap.store).objects) → m ≡ (copies_at o).objects → cond b n m ≡ (copies_at (cond b (Some r) o)).objects
objects_more true r o n m is was = is refl
objects_more false r o n m is was = was

pub parts_more : (b : Bool) (r : Course) (o : Option Course) (n m : ℕ) → (b ≡ true → n ≡ (copies_in r.heap.store).parts) → m ≡ (copies_at o).parts → cond b n m ≡ (copies_at (cond b (Some r) o)).parts
parts_more true r o n m is was = is refl
parts_more false r o n m is was = was

pub old_more : (b : Bool) (r : Course) (o : Option Course) (n m : ℕ) → (b ≡ true → n ≡ (copies_in r.heap.store).old) → m ≡ (copies_at o).old → cond b n m ≡ (copies_at (cond b (Some r) o)).old
old_more true r o n m is was = is refl
old_more false r o n m is was = was

pub place_more : (b : Bool) (r : Course) (o : Option Course) (n m : ℕ) → n ≡ length r.history → m ≡ place_at o → cond b n m ≡ place_at (cond b (Some r) o)
place_more true r o n m is was = is
place_more false r o n m is was = was

module _ (steps : List Step) (s : Step) (old : Base) (base : IsBase steps old) where
  abbrev swept : Option Course
  swept = after_last ends_sweep None steps

  abbrev ended : Option Course
  ended = after_last ends_cycle None steps

  pub base_more : (copies : Copies) (place : ℕ) (new : Base) → AreCounted s copies → place ≡ length s.after.history
      → new.objects ≡ cond (ends_sweep s) copies.objects old.objects → new.parts ≡ cond (ends_sweep s) copies.parts old.parts → new.old ≡ cond (ends_cycle s) copies.old old.old → new.place ≡ cond (ends_sweep s) place old.place
      → IsBase (steps ++ s ∷ []) new
  base_more copies place new counted at objects parts moved placed =
      let sweep = last_push ends_sweep None steps s in
      let cycle = last_push ends_cycle None steps s in
      record {
        objects = objects ∙ objects_more (ends_sweep s) s.after swept copies.objects old.objects (λ e. ap (λ (c : Copies). c.objects) (counted.sweep e)) base.objects ∙ ap (λ o. (copies_at o).objects) (sym sweep);
        parts = parts ∙ parts_more (ends_sweep s) s.after swept copies.parts old.parts (λ e. ap (λ (c : Copies). c.parts) (counted.sweep e)) base.parts ∙ ap (λ o. (copies_at o).parts) (sym sweep);
        old = moved ∙ old_more (ends_cycle s) s.after ended copies.old old.old (λ e. ap (λ (c : Copies). c.old) (counted.cycle e)) base.old ∙ ap (λ o. (copies_at o).old) (sym cycle);
        place = placed ∙ place_more (ends_sweep s) s.after swept place old.place at base.place ∙ ap place_at (sym sweep);
      }

  pub base_stays : works s ≡ false → IsBase (steps ++ s ∷ []) old
  base_stays e =
      let none = ends_none s e in
      let sweep = last_push ends_sweep None steps s ∙ ap (λ b. cond b (Some s.after) swept) none.0 in
      let cycle = last_push ends_cycle None steps s ∙ ap (λ b. cond b (Some s.after) ended) none.1 in
      record {
        objects = base.objects ∙ ap (λ o. (copies_at o).objects) (sym sweep);
        parts = base.parts ∙ ap (λ o. (copies_at o).parts) (sym sweep);
        old = base.old ∙ ap (λ o. (copies_at o).old) (sym cycle);
        place = base.place ∙ ap place_at (sym sweep);
      }

module _ (earlier : List Step) (first : Step) (later : List Step) (s : Step) (old : Open) (is : IsOpen earlier first later old) where
  -- the sweep and the end are reported with the step
  pub open_more : (new : Open) → new.start ≡ old.start → new.quanta ≡ min (old.quanta + cond (works s) 1 0) (2 ^ 64 - 1) → new.longest ≡ max old.longest (units_by s)
      → SweptBy earlier first (later ++ s ∷ []) new.sweep → IsEnd first (later ++ s ∷ []) new.end → IsOpen earlier first (later ++ s ∷ []) new
  open_more new start quanta longest sweep end = record {
    start = subst (IsStart earlier first) (sym start) is.start;
    quanta = quanta ∙ ap (λ n. min (n + cond (works s) 1 0) (2 ^ 64 - 1)) is.quanta ∙ counted_more (count_by works later) (works s) ∙ ap counted (sym (count_push works later s));
    longest = longest ∙ ap (λ n. max n (units_by s)) is.longest ∙ sym (fold_push (λ most t. max most (units_by t)) 0 later s);
    sweep = sweep;
    end = end;
  }

  -- the step is no quantum of the cycle
  pub open_stays : works s ≡ false → IsOpen earlier first (later ++ s ∷ []) old
  open_stays e =
      let none = ends_none s e in
      open_more old refl (allocated (works s) (count_by works later) e is.quanta) (no_units (works s) (s.after.heap.units - s.before.heap.units) e) (swept_other earlier first later s old.sweep none.0 is.sweep) (end_other first later s old.end none.1 is.end)
    where
      allocated : (b : Bool) (n : ℕ) → b ≡ false → old.quanta ≡ min n (2 ^ 64 - 1) → old.quanta ≡ min (old.quanta + cond b 1 0) (2 ^ 64 - 1)
      allocated b n e q = let none : cond b 1 0 ≡ 0 = ap {B = ℕ} (λ c. cond c 1 0) e in omega (arith, q, none)

      no_units : (b : Bool) (n : ℕ) → b ≡ false → old.longest ≡ max old.longest (cond b n 0)
      no_units b n e = let none : cond b n 0 ≡ 0 = ap {B = ℕ} (λ c. cond c n 0) e in omega (arith, none)

-- a step more of the cycle that is open
module _ (steps : List Step) (s : Step) (closed : List Cycle) (old new : Open) (has : HasOpen steps s.before closed old) (other : begins s ≡ false) where
  pub has_more : (IsOpen has.earlier has.first has.later old → IsOpen has.earlier has.first (has.later ++ s ∷ []) new) → HasOpen (steps ++ s ∷ []) s.after closed new
  has_more so = record {
    earlier = has.earlier;
    first = has.first;
    later = has.later ++ s ∷ [];
    whole = ap (λ l. l ++ s ∷ []) has.whole ∙ append_assoc has.earlier (has.first ∷ has.later) (s ∷ []);
    cycles = has.cycles;
    begun = has.begun;
    none = count_other begins has.later s other ∙ has.none;
    leads = λ none. end_here has.first has.later s (ends_none has.first (idles has.first (no_quantum has.first.event has.begun))).1 (fewer ends_cycle has.later s none);
    is = so has.is;
  }

-- a step that the log needn't know
module _ (steps : List Step) (s : Step) (log : Log) (is : IsLog steps s.before log) (other : is_quantum s.event ≡ false) (later : begins s ≡ false) where
  passes : (o : Option Open) → IsOpenIn steps s.before log.closed.items o → IsOpenIn (steps ++ s ∷ []) s.after log.closed.items o
  passes None (none, few) = (none, count_other begins steps s later ∙ few)
  passes (Some o) has = has_more steps s log.closed.items o o has later (λ i. open_stays has.earlier has.first has.later s o i (idles s other))

  pub log_stays : IsLog (steps ++ s ∷ []) s.after log
  log_stays = record { base = base_stays steps s log.base is.base (idles s other); cycles = passes log.last is.cycles }

-- no cycle is open
pub none_open : (steps : List Step) (now : Course) (closed : List Cycle) (o : Option Open) → o ≡ None → IsOpenIn steps now closed o → AreCycles steps closed
none_open steps now closed o e is =
    let none = subst (IsOpenIn steps now closed) e is in
    subst (AreCycles steps) (sym none.0) (No_cycle steps none.1)

-- the last cycle is closed
pub is_closed : (steps : List Step) (now : Course) (closed : List Cycle) (o : Open) (c : Cycle) → HasOpen steps now closed o → ((earlier later : List Step) (first : Step) → IsOpen earlier first later o → (count_by ends_cycle later ≡ 0 → (end_of first later).heap ≡ now.heap) → IsCycle earlier first later c)
    → AreCycles steps (closed ++ c ∷ [])
is_closed steps now closed o c has cycle =
    let one = One_cycle_more has.earlier closed has.first has.later c has.cycles has.begun has.none (cycle has.earlier has.later has.first has.is (λ none. ap (λ (r : Course). r.heap) (has.leads none))) in
    subst (λ l. AreCycles l (closed ++ c ∷ [])) (sym has.whole) one

-- a cycle is begun
pub is_begun : (steps : List Step) (s : Step) (closed : List Cycle) (o : Open) → AreCycles steps closed → begins s ≡ true → IsOpen steps s [] o → HasOpen (steps ++ s ∷ []) s.after closed o
is_begun steps s closed o cycles begun is = record {
  earlier = steps;
  first = s;
  later = [];
  whole = refl;
  cycles = cycles;
  begun = begun;
  none = refl;
  leads = λ none. refl;
  is = is;
}
