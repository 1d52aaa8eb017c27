-- Slots of a mutator in a row, cleared one after the other.
use Rattle.std.proofs.Common.{◌≡◌, ℕ, zero, suc, ◌+◌, ◌-◌, ◌*◌, ◌<◌, ◌≤◌, Bool, true, false, List, length, Result, Ok, Err, refl, ap, ◌∙◌, sym, subst, arith, inl}
use Rattle.std.specs.Prelude.{nat_lt, ◌&&◌, if◌then◌else◌}
use Rattle.std.proofs.lemmas.Bool.{ltb-true, lt-ltb}
use Rattle.graph_heap.specs.declared.command.Command.TheVariants as commands
use Rattle.graph_heap.specs.declared.command.Reply.{Reply}
use Rattle.graph_heap.specs.declared.command.Reply.TheVariants as replies
use Rattle.graph_heap.specs.declared.command.Change.{Change}
use Rattle.graph_heap.specs.declared.command.Change.TheVariants as changes
use Rattle.graph_heap.specs.declared.command.Refusal.{Refusal}
use Rattle.graph_heap.specs.declared.command.Refusal.TheVariants as refusals
use Rattle.graph_heap.specs.declared.command.Limits.{Limits}
use Rattle.graph_heap.specs.Graph.{Graph}
use Rattle.graph_heap.specs.Effect.{◌>>=◌, admitted_to, slot_at}
use Rattle.heap_model.specs.State.{HeapState}
use Rattle.heap_model.specs.Agreement.{Agrees}
use Rattle.heap_model.specs.Action.{Shades, Was_marked, Is_marked}
use Rattle.heap_model.specs.Change.{Records, Records_nothing, Records_main, Clears, Clears_none, Clears_next}
use Rattle.nodes.specs.HeapFields.{IsHeap}
use Rattle.machine.specs.declared.plan.Planned.{Planned}
use Rattle.machine.specs.declared.plan.Write.TheVariants as writes
use Rattle.machine.specs.Plan.{DoesEach, Steps}
use Rattle.machine.specs.Runs.{slot_run, StepsEach, DoesRun}
use Rattle.machine.proofs.Doing.{leave_within}
use Rattle.machine.proofs.Effects.{clear_effect}
use Rattle.machine.proofs.Live.{null_can, clears_row}
use Rattle.machine.proofs.Replying.{admitted_steps, refused_each, commits_ok}
use Rattle.machine.proofs.Writing.{performs, stays_heap, root_does}

-- recording leaves the live mutators as they are
shades_live : (h k : HeapState) (x : ℕ) → Shades h x k → k.live ≡ h.live
shades_live h k x (Was_marked e) = refl
shades_live h k x (Is_marked new front back is e w) = refl

records_live : (h k : HeapState) (x : ℕ) → Records h x k → k.live ≡ h.live
records_live h k x (Records_nothing e) = refl
records_live h k x (Records_main k0 e sh) = shades_live h k _ sh

clears_live : (h : HeapState) (first n : ℕ) (k : HeapState) → Clears h first n k → k.live ≡ h.live
clears_live h first n k Clears_none = refl
clears_live h first n k (Clears_next n0 j k0 c r) = records_live j k0 _ r ∙ clears_live h first n0 j c

-- the place of a slot
slot_parts : (l : Limits) (m s root : ℕ) → slot_at l m s ≡ Ok root → (m < l.mutators) × (s < l.slots) × (root ≡ m * l.slots + s)
slot_parts l m s root e = by_case (nat_lt m l.mutators) (nat_lt s l.slots) refl refl e
  where
    by_case : (b c : Bool) → nat_lt m l.mutators ≡ b → nat_lt s l.slots ≡ c → (if b && c then Ok (m * l.slots + s) else Err refusals.BadSlot) ≡ Ok root → (m < l.mutators) × (s < l.slots) × (root ≡ m * l.slots + s)
    by_case true true low small q = (ltb-true m l.mutators low, ltb-true s l.slots small, (cc))
    by_case true false low small q = absurd (cc)
    by_case false c low small q = absurd (cc)

slot_there : (l : Limits) (m s : ℕ) → m < l.mutators → s < l.slots → slot_at l m s ≡ Ok (m * l.slots + s)
slot_there l m s low small = rw (lt-ltb m l.mutators low, lt-ltb s l.slots small) refl

slot_behind : (l : Limits) (m s root n : ℕ) → slot_at l m s ≡ Ok root → s + n < l.slots → slot_at l m (s + n) ≡ Ok (root + n)
slot_behind l m s root n e below =
    let p = slot_parts l m s root e in
    let sum : m * l.slots + (s + n) ≡ root + n = grind (arith, p.2) in
    slot_there l m (s + n) p.0 below ∙ ap Ok sum

-- a slot of a mutator that may ask is cleared
clears_one : (h : HeapState) → IsHeap h → (m slot cell : ℕ) (ok : Unit {0}) → admitted_to h.limits h.live m false ≡ Ok ok → slot_at h.limits m slot ≡ Ok cell → cell < length h.roots
    → (after : HeapState) → DoesEach h (writes.Root cell 0) after → Steps h m (commands.Clear slot) replies.Done after
clears_one h w m slot cell ok admitted place below after does =
    let p : Planned = record { reply = replies.Done; write = writes.Root cell 0 } in
    admitted_steps h h refl m (commands.Clear slot) false refl (admitted_to h.limits h.live m false) refl ok admitted (Ok p)
    (λ g a. (changes.Root cell 0, clear_effect h g a m slot cell (sym place), (0, refl, below, inl refl, record { allocated = refl; forward = refl; name = refl })))
    replies.Done after
    (commits_ok h p after (performs h h refl w (writes.Root cell 0) after does))

module _ (h : HeapState) (w : IsHeap h) (m s root : ℕ) (ok : Unit {0}) (admitted : admitted_to h.limits h.live m false ≡ Ok ok) (place : slot_at h.limits m s ≡ Ok root) where
  clears_from : (n : ℕ) (k : HeapState) → Clears h root n k → s + n ≤ h.limits.slots → IsHeap k × StepsEach h m (λ i. commands.Clear (s + i)) (λ i. replies.Done) n k
  clears_from zero k Clears_none l = (w, refl)
  clears_from (suc n) k (Clears_next n0 j k0 c r) l =
      let before = clears_from n0 j c (omega arith) in
      let row = clears_row h root n0 j c in
      let live = clears_live h root n0 j c in
      let low : s + n0 < h.limits.slots = omega arith in
      let p = slot_parts h.limits m s root place in
      let end = leave_within h m w.represents.consistent.row p.0 in
      let cells = row.0 in
      let below : root + n0 < length j.roots = (let q = p.2 in omega (arith, q, end, cells, low)) in
      let does = root_does j k0 _ r (root + n0) 0 refl in (
        stays_heap j j refl before.0 (writes.Root (root + n0) 0) k does (null_can j (root + n0) below),
        (
          j,
          before.1,
          clears_one j before.0 m (s + n0) (root + n0) ok
              (subst (λ (x : Limits). admitted_to x j.live m false ≡ Ok ok) (sym row.1) (subst (λ (x : List Bool). admitted_to h.limits x m false ≡ Ok ok) (sym live) admitted))
              (subst (λ (x : Limits). slot_at x m (s + n0) ≡ Ok (root + n0)) (sym row.1) (slot_behind h.limits m s root n0 place low)) below k does,
        ),
      )

  clears_each : (n : ℕ) (k : HeapState) → Clears h root n k → s + n ≤ h.limits.slots → StepsEach h m (λ i. commands.Clear (s + i)) (λ i. replies.Done) n k
  clears_each n k c l = (clears_from n k c l).1

-- the first slot can't be cleared
cut_short : {A B : Type 0} (x : Result (Unit {0}) Refusal) (y : Result ℕ Refusal) (f : ℕ → A) (k : ℕ → B) (e : Refusal) → (x >>= λ ok. y >>= λ r. Ok (f r)) ≡ Err e → (x >>= λ ok. y >>= λ r. Ok (k r)) ≡ Err e
cut_short (Ok ok) (Ok r) f k e is = absurd (cc)
cut_short (Ok ok) (Err why) f k e is = let same : why ≡ e = cc in ap Err same
cut_short (Err why) y f k e is = let same : why ≡ e = cc in ap Err same

pub clears_refused : (h : HeapState) (m first : ℕ) (result : Result ℕ Refusal) (y e : Refusal) → result ≡ Err y → y ≡ e → slot_run h.limits h.live m first ≡ Err e
    → DoesRun h m (λ i. commands.Clear (first + i)) (λ i. replies.Done) result h
clears_refused h m first result y e is same none =
    let start : first ≡ first + 0 = omega arith in
    subst (λ (x : Result ℕ Refusal). DoesRun h m (λ i. commands.Clear (first + i)) (λ i. replies.Done) x h) (sym (is ∙ ap Err same))
    (subst (λ k. Steps h m (commands.Clear k) (replies.Refused e) h) start
    (refused_each h m (commands.Clear first) e (λ g a. cut_short (admitted_to g.limits g.live m false) (slot_at g.limits m first) (λ r. first)
    (λ r. (let x : Reply × Change = (replies.Done, changes.Root r 0) in x)) e (clear_here g a))))
  where
    clear_here : (g : Graph) → Agrees h g → (admitted_to g.limits g.live m false >>= λ ok. slot_at g.limits m first >>= λ r. Ok first) ≡ Err e
    clear_here g a = cut_short (admitted_to g.limits g.live m false) (slot_at g.limits m first) (λ r. g.limits.slots - first) (λ r. first) e
        (subst (λ (l : Limits). slot_run l g.live m first ≡ Err e) a.limits (subst (λ (z : List Bool). slot_run h.limits z m first ≡ Err e) a.live none))

pub not_admitted : (l : Limits) (live : List Bool) (m first : ℕ) (e : Refusal) → admitted_to l live m false ≡ Err e → slot_run l live m first ≡ Err e
not_admitted l live m first e is = ap (λ (x : Result (Unit {0}) Refusal). x >>= λ ok. slot_at l m first >>= λ r. Ok (l.slots - first)) is

pub no_slot : (l : Limits) (live : List Bool) (m first : ℕ) (ok : Unit {0}) (e : Refusal) → admitted_to l live m false ≡ Ok ok → slot_at l m first ≡ Err e → slot_run l live m first ≡ Err e
no_slot l live m first ok e admitted none =
    ap (λ (x : Result (Unit {0}) Refusal). x >>= λ b. slot_at l m first >>= λ r. Ok (l.slots - first)) admitted
    ∙ ap (λ (x : Result ℕ Refusal). x >>= λ r. Ok (l.slots - first)) none

-- at most as many slots are cleared as there are
row_within : (l : Limits) (m s root n : ℕ) → slot_at l m s ≡ Ok root → n ≤ l.slots - s → s + n ≤ l.slots
row_within l m s root n place few = let p = slot_parts l m s root place in let small = p.1 in omega (arith, small, few)

-- the number of slots cleared is that requested, of the heap that is seen as the value t
pub row_clears : (h t : HeapState) → h ≡ t → IsHeap h → (m s root : ℕ) (ok : Unit {0}) → admitted_to h.limits h.live m false ≡ Ok ok → slot_at h.limits m s ≡ Ok root
    → (n : ℕ) → n ≤ h.limits.slots - s → (k : HeapState) → Clears h root n k → StepsEach t m (λ i. commands.Clear (s + i)) (λ i. replies.Done) n k
row_clears h t is w m s root ok admitted place n few k c =
    subst (λ (x : HeapState). StepsEach x m (λ i. commands.Clear (s + i)) (λ i. replies.Done) n k) is
    (clears_each h w m s root ok admitted place n k c (row_within h.limits m s root n place few))
