-- Each event keeps what holds of a heap with its history.
use Rattle.std.proofs.Common.{◌≡◌, ◌≢◌, ℕ, ◌+◌, ◌-◌, ◌*◌, ◌/◌, ◌<◌, ◌≤◌, ◌⊎◌, Bool, List, [], ◌∷◌, length, take, refl, ap, subst, sym, ◌∙◌, inl, inr, arith, Result, Ok, Err, length-append}
use Rattle.std.proofs.lemmas.List.{take-append-le}
use Rattle.std.proofs.Math.Seq.{take-length}
use Rattle.std.proofs.Math.Nat.{mul-le-mul_right}
use Rattle.graph_heap.specs.declared.command.Command.{Command}
use Rattle.graph_heap.specs.declared.command.Reply.{Reply}
use Rattle.graph_heap.specs.declared.command.Refusal.{Refusal}
use Rattle.graph_heap.specs.declared.command.Entry.{Entry}
use Rattle.graph_heap.specs.declared.command.Change.{Change}
use Rattle.graph_heap.specs.declared.command.Change.TheVariants as changes
use Rattle.graph_heap.specs.Graph.{Graph, opening, changed, root_cells}
use Rattle.graph_heap.specs.Effect.{effect_of, settled, next_of}
use Rattle.graph_heap.specs.History.{after, after_entry, IsLegal, IsEntryOf}
use Rattle.graph_heap.proofs.Histories.{after-push, IsLegal-push, IsEntryOf-step}
use Rattle.heap_model.specs.declared.phase.Phase.{Phase}
use Rattle.heap_model.specs.declared.phase.Phase.TheVariants as phases
use Rattle.heap_model.specs.State.{HeapState}
use Rattle.heap_model.specs.Agreement.{Consistent}
use Rattle.heap_model.specs.Alike.{IsFounded}
use Rattle.heap_model.specs.Opening.{IsOpening}
use Rattle.heap_model.specs.Spent.{cycle_limit}
use Rattle.heap_model.specs.Represents.{Represents}
use Rattle.heap_model.specs.Bound.{most_quanta}
use Rattle.heap_model.specs.Change.{DoesChange}
use Rattle.heap_model.specs.Event.{Course, present_of, snapshot_of, room_for, change_by, Enters, Begins, Collects, Event, Command_done, Cycle_begun, Begin_refused, Quantum_done, Quantum_refused, Does, Runs, IsCourse, quanta_in, HaveBudgets, OneIsLast}
use Rattle.heap_model.proofs.Alike.Founded.{effect_founded}
use Rattle.heap_model.proofs.QuantumSpending.Quanta.{chain_units}
use Rattle.heap_model.proofs.QuantumSpending.Costs.{turn_left}
use Rattle.heap_model.proofs.Represents.{represents_chain, represents_begun, represents_opening, represents_limit}
use Rattle.heap_model.proofs.Bound.{chain_limit, too_much, at_least, spent_more}
use Rattle.heap_model.proofs.Change.Changed.{represents_changed}
use Rattle.heap_model.proofs.Left.{change_left}

changed-limits : (g : Graph) (c : Change) → (changed g c).limits ≡ g.limits
changed-limits g changes.Nothing = refl
changed-limits g (changes.Root cell id) = refl
changed-limits g (changes.Ref id i v) = refl
changed-limits g (changes.Word id i v) = refl
changed-limits g (changes.New cell id shape) = refl
changed-limits g (changes.Join m) = refl
changed-limits g (changes.Leave m) = refl

-- what a command changes is there
pub founded : (g : Graph) (room : Bool) (m : ℕ) (c : Command) → length g.roots ≡ root_cells g.limits → IsFounded g (change_by room g m c)
founded g room m c row = by_effect (effect_of room g m c) refl
  where
    by_effect : (x : Result (Reply × Change) Refusal) → effect_of room g m c ≡ x → IsFounded g (settled x).1
    by_effect (Ok x) e = effect_founded g room m c x row e
    by_effect (Err n) e = tt

pub present_row : (h : HeapState) (present snapshot : Graph) → Consistent h present snapshot → length present.roots ≡ root_cells present.limits
present_row h p s c = sym c.present_row ∙ c.row ∙ ap root_cells c.limits

pub represents_command : (h after : HeapState) (present snapshot : Graph) (room : Bool) (m : ℕ) (c : Command) → Represents h present snapshot → DoesChange h present (change_by room present m c) after → Represents after (next_of room present m c) snapshot
unfolding next_of
represents_command h after p s room m c w d = represents_changed h after p s (change_by room p m c) w (founded p room m c (present_row h p s w.consistent)) d

-- where the history of a command leads
module _ (r new : Course) (m : ℕ) (c : Command) (reply : Reply) (w : IsCourse r) (e : Enters r m c reply new) where
  abbrev pub change : Change
  change = change_by (room_for r.heap c) (present_of r) m c

  abbrev pub entry : Entry
  entry = record { mutator = m; command = c; reply = reply }

  pub enters_represents : Represents new.heap (changed (present_of r) change) (snapshot_of r)
  enters_represents = represents_changed r.heap new.heap (present_of r) (snapshot_of r) change w.represents (founded (present_of r) (room_for r.heap c) m c (present_row r.heap (present_of r) (snapshot_of r) w.represents.consistent)) e.change

  enters_limits : new.heap.limits ≡ r.heap.limits
  enters_limits = enters_represents.consistent.limits ∙ changed-limits (present_of r) change ∙ sym w.represents.consistent.limits

  pub enters_step : IsEntryOf (present_of r) entry × (after_entry (present_of r) entry ≡ next_of (room_for r.heap c) (present_of r) m c)
  enters_step = IsEntryOf-step (present_of r) entry (room_for r.heap c) (sym e.replies)

  pub enters_present : present_of new ≡ changed (present_of r) change
  unfolding next_of
  enters_present = ap (λ z. after (opening z) new.history) enters_limits ∙ ap (after (opening r.heap.limits)) e.history ∙ after-push (opening r.heap.limits) r.history entry ∙ enters_step.1

  -- what is the graph heap at present becomes the next
  pub enters_graph : (z : Graph) → z ≡ present_of r → after_entry z entry ≡ present_of new
  unfolding next_of
  enters_graph z s = ap (λ y. after_entry y entry) s ∙ enters_step.1 ∙ sym enters_present

  enters_first : take new.place new.history ≡ take r.place r.history
  enters_first = ap (λ z. take z new.history) e.place ∙ ap (take r.place) e.history ∙ take-append-le r.place r.history (entry ∷ []) w.place

  pub enters_snapshot : snapshot_of new ≡ snapshot_of r
  enters_snapshot = ap (λ z. after (opening z) (take new.place new.history)) enters_limits ∙ ap (after (opening r.heap.limits)) enters_first

  pub enters_course : IsCourse new
  enters_course =
      let longer : length new.history ≡ length r.history + 1 = ap length e.history ∙ length-append r.history (entry ∷ []) in
      let s1 = subst (λ z. Represents new.heap z (snapshot_of r)) (sym enters_present) enters_represents in
      record {
        represents = subst (λ z. Represents new.heap (present_of new) z) (sym enters_snapshot) s1;
        legal = subst (λ z. IsLegal (opening z) new.history) (sym enters_limits) (subst (IsLegal (opening r.heap.limits)) (sym e.history) (IsLegal-push (opening r.heap.limits) r.history entry w.legal enters_step.0));
        place = (let p = w.place in let q = e.place in omega arith);
      }

-- A beginning keeps the graph heap at present.
pub begins_present : (r new : Course) → Begins r new → present_of new ≡ present_of r
begins_present r new b = ap (λ z. after (opening z) new.history) (ap (λ (z : HeapState). z.limits) b.heap) ∙ ap (after (opening r.heap.limits)) b.history

begins_course : (r new : Course) → IsCourse r → Begins r new → IsCourse new
begins_course r new w b =
    let s = represents_begun r.heap (present_of r) (snapshot_of r) w.represents b.idle in
    let limits : new.heap.limits ≡ r.heap.limits = ap (λ (z : HeapState). z.limits) b.heap in
    let all : take new.place new.history ≡ r.history = ap (λ z. take z new.history) b.place ∙ ap (take (length r.history)) b.history ∙ take-length r.history in
    let then : snapshot_of new ≡ present_of r = ap (λ z. after (opening z) (take new.place new.history)) limits ∙ ap (after (opening r.heap.limits)) all in
    let s1 = subst (λ z. Represents z (present_of r) (present_of r)) (sym b.heap) s in
    let s2 = subst (λ z. Represents new.heap z (present_of r)) (sym (begins_present r new b)) s1 in
    record {
      represents = subst (λ z. Represents new.heap (present_of new) z) (sym then) s2;
      legal = subst (λ z. IsLegal (opening z) new.history) (sym limits) (subst (IsLegal (opening r.heap.limits)) (sym b.history) w.legal);
      place = (let p = b.place in let q = ap length b.history in omega arith);
    }

-- A quantum keeps the limits.
pub collects_limits : (r new : Course) (budget units : ℕ) (phase : Phase) → IsCourse r → Collects r budget units phase new → new.heap.limits ≡ r.heap.limits
collects_limits r new budget units phase w k = (represents_chain r.heap new.heap units (present_of r) (snapshot_of r) w.represents k.turn.chain).consistent.limits ∙ sym w.represents.consistent.limits

pub collects_present : (r new : Course) (budget units : ℕ) (phase : Phase) → IsCourse r → Collects r budget units phase new → present_of new ≡ present_of r
collects_present r new budget units phase w k = ap (λ z. after (opening z) new.history) (collects_limits r new budget units phase w k) ∙ ap (after (opening r.heap.limits)) k.history

collects_course : (r new : Course) (budget units : ℕ) (phase : Phase) → IsCourse r → Collects r budget units phase new → IsCourse new
collects_course r new budget units phase w k =
    let s = represents_chain r.heap new.heap units (present_of r) (snapshot_of r) w.represents k.turn.chain in
    let limits = collects_limits r new budget units phase w k in
    let first : take new.place new.history ≡ take r.place r.history = ap (λ z. take z new.history) k.place ∙ ap (take r.place) k.history in
    let then : snapshot_of new ≡ snapshot_of r = ap (λ z. after (opening z) (take new.place new.history)) limits ∙ ap (after (opening r.heap.limits)) first in
    let s1 = subst (λ z. Represents new.heap z (snapshot_of r)) (sym (collects_present r new budget units phase w k)) s in
    record {
      represents = subst (λ z. Represents new.heap (present_of new) z) (sym then) s1;
      legal = subst (λ z. IsLegal (opening z) new.history) (sym limits) (subst (IsLegal (opening r.heap.limits)) (sym k.history) w.legal);
      place = (let p = k.place in let q = ap length k.history in let l = w.place in omega arith);
    }

pub does_course : (r : Course) (e : Event) (new : Course) → IsCourse r → Does r e new → IsCourse new
does_course r (Command_done m c reply) new w d = enters_course r new m c reply w d
does_course r Cycle_begun new w d = begins_course r new w d
does_course r Begin_refused new w d = subst IsCourse (sym d.1) w
does_course r (Quantum_done budget units phase) new w d = collects_course r new budget units phase w d
does_course r (Quantum_refused budget) new w d = subst IsCourse (sym d.1) w

pub runs_course : (es : List Event) (r new : Course) → IsCourse r → Runs r es new → IsCourse new
runs_course [] r new w e = subst IsCourse (sym e) w
runs_course (e ∷ es) r new w d = runs_course es d.0 new (does_course r e d.0 w d.1) d.2

pub opening_course : (h : HeapState) → IsOpening h → 0 < length h.store.pages → IsCourse (record { heap = h; history = []; place = 0 })
opening_course h o l = record { represents = represents_opening h o l; legal = tt; place = omega arith }

-- how many quanta a cycle takes
enough_quanta : (n limit d units : ℕ) → 0 < d → limit / d + 1 ≤ n → n * d ≤ units → units ≤ limit → ⊥
enough_quanta n limit d units some l m u = let q : (limit / d + 1) * d ≤ n * d = mul-le-mul_right d l in too_much limit d units some (omega arith) u

not_last : (budget units : ℕ) (phase : Phase) (es : List Event) → phase ≢ phases.Idle → OneIsLast es → OneIsLast (Quantum_done budget units phase ∷ es)
not_last budget units phases.Idle es n o = tt
not_last budget units (phases.Roots next) es n o = o
not_last budget units (phases.Marking part cell) es n o = o
not_last budget units (phases.Sweeping page block) es n o = o
not_last budget units (phases.Moving m) es n o = o

-- a phase is idle or not
is_idle : (p : Phase) → (p ≡ phases.Idle) ⊎ (p ≢ phases.Idle)
is_idle phases.Idle = inl refl
is_idle (phases.Roots next) = inr (λ e. cc)
is_idle (phases.Marking part cell) = inr (λ e. cc)
is_idle (phases.Sweeping page block) = inr (λ e. cc)
is_idle (phases.Moving m) = inr (λ e. cc)

last_here : (budget units : ℕ) (phase : Phase) (es : List Event) → phase ≡ phases.Idle → OneIsLast (Quantum_done budget units phase ∷ es)
last_here budget units phase es e = subst (λ z. OneIsLast (Quantum_done budget units z ∷ es)) (sym e) tt

module _ (k limit : ℕ) (great : 256 ≤ k) where
  pub runs_end : (es : List Event) (r new : Course) (n : ℕ) → IsCourse r → r.heap.phase ≢ phases.Idle → cycle_limit r.heap ≡ limit → n * (k - 255) ≤ r.heap.units → Runs r es new → HaveBudgets k es → limit / (k - 255) + 1 ≤ n + quanta_in es → OneIsLast es
  runs_end [] r new n w on e l d b m =
      let u : r.heap.units ≤ limit = subst (λ z. r.heap.units ≤ z) e (represents_limit r.heap (present_of r) (snapshot_of r) w.represents) in
      enough_quanta n limit (k - 255) r.heap.units (omega arith) (omega arith) l u
  runs_end (Command_done m0 c reply ∷ es) r new n w on e l d b m =
      let x = d.0 in
      let w1 = enters_course r x m0 c reply w d.1 in
      let f = change_left r.heap x.heap (present_of r) _ d.1.change in
      runs_end es x new n w1 (λ i. on (sym f.phase ∙ i)) (f.limit ∙ e) (let u = f.units in omega arith) d.2 b m
  runs_end (Cycle_begun ∷ es) r new n w on e l d b m = absurd (on d.1.idle)
  runs_end (Begin_refused ∷ es) r new n w on e l d b m =
      runs_end es d.0 new n (subst IsCourse (sym d.1.1) w) (λ i. on (sym (ap (λ (z : Course). z.heap.phase) d.1.1) ∙ i)) (ap (λ (z : Course). cycle_limit z.heap) d.1.1 ∙ e)
      (let u : d.0.heap.units ≡ r.heap.units = ap (λ (z : Course). z.heap.units) d.1.1 in omega arith) d.2 b m
  runs_end (Quantum_refused budget ∷ es) r new n w on e l d b m =
      runs_end es d.0 new n (subst IsCourse (sym d.1.1) w) (λ i. on (sym (ap (λ (z : Course). z.heap.phase) d.1.1) ∙ i)) (ap (λ (z : Course). cycle_limit z.heap) d.1.1 ∙ e)
      (let u : d.0.heap.units ≡ r.heap.units = ap (λ (z : Course). z.heap.units) d.1.1 in omega arith) d.2 b m
  runs_end (Quantum_done budget units phase ∷ es) r new n w on e l d b m =
      let x = d.0 in
      let q = d.1 in
      let w1 = collects_course r x budget units phase w q in
      elim (is_idle phase) [
        | inl i ↦ last_here budget units phase es i
        | inr other ↦ not_last budget units phase es other (
            let away : x.heap.phase ≢ phases.Idle = λ i. other (sym q.ends ∙ i) in
            let spent : k - 255 ≤ units = elim (turn_left r.heap x.heap budget units w1.represents.pages q.turn) [ inl i ↦ absurd (away i) | inr s ↦ at_least k budget units b.0 s ] in
            let more = spent_more n (k - 255) r.heap.units x.heap.units units l (chain_units r.heap x.heap units q.turn.chain) spent in
            runs_end es x new (n + 1) w1 away (chain_limit r.heap x.heap units q.turn.chain ∙ e) more d.2 b.1 (omega arith))
      ]

pub cycle_ends : (r start new : Course) (k : ℕ) (es : List Event) → 256 ≤ k → IsCourse r → Begins r start → Runs start es new → HaveBudgets k es → most_quanta r.heap k ≤ quanta_in es → OneIsLast es
cycle_ends r start new k es great w b d budgets m =
    let phase : start.heap.phase ≡ phases.Roots 0 = ap (λ (z : HeapState). z.phase) b.heap in
    let units : start.heap.units ≡ 0 = ap (λ (z : HeapState). z.units) b.heap in
    let limit : cycle_limit start.heap ≡ cycle_limit r.heap = ap cycle_limit b.heap in
    runs_end k (cycle_limit r.heap) great es start new 0 (begins_course r start w b) (λ i. let z : phases.Roots 0 ≡ phases.Idle = sym phase ∙ i in cc) limit (omega arith) d budgets (omega arith)
