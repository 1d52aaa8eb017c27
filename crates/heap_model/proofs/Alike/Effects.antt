-- A command does the same to two graph heaps that can't be told apart.
use Rattle.std.proofs.Common.{◌≡◌, ◌≢◌, ℕ, ◌+◌, ◌-◌, ◌<◌, ◌≤◌, Bool, true, false, List, length, get_or, refl, ap, subst, sym, ◌∙◌, arith, inl, ◌==◌, if◌then◌else◌, nat_lt, Some, Result, Ok, Err}
use Rattle.std.specs.Prelude.{slice_get, slice_index, slice_index_or}
use Rattle.std.proofs.Math.Path.{fun_ext}
use Rattle.std.proofs.lemmas.List.{get_or_past}
use Rattle.std.proofs.lemmas.Option.{slice_get-get_or}
use Rattle.graph_heap.specs.declared.command.Command.{Command}
use Rattle.graph_heap.specs.declared.command.Command.TheVariants as commands
use Rattle.graph_heap.specs.declared.command.Reply.{Reply}
use Rattle.graph_heap.specs.declared.command.Reply.TheVariants as replies
use Rattle.graph_heap.specs.declared.command.Refusal.{Refusal}
use Rattle.graph_heap.specs.declared.command.Refusal.TheVariants as refusals
use Rattle.graph_heap.specs.declared.command.Limits.{Limits}
use Rattle.graph_heap.specs.declared.command.Change.{Change}
use Rattle.graph_heap.specs.declared.command.Change.TheVariants as changes
use Rattle.graph_heap.specs.Graph.{Object, Graph, no_object, object_of, root_cells, changed}
use Rattle.graph_heap.specs.Effect.{◌>>=◌, slot_at, static_at, found, object_at, ref_cell, word_cell, fitting, next_identity, with_room, admitted_effect, is_join, admits, admitted, effect_of, settled, reply_of, next_of}
use Rattle.heap_model.specs.State.{HeapState}
use Rattle.heap_model.specs.Agreement.{Agrees}
use Rattle.heap_model.specs.Written.{IsKnown}
use Rattle.heap_model.proofs.Alike.Sameness.{told, known_root, known_reaches, each_changed}
use Rattle.heap_model.proofs.Alike.Founded.{change_in, effect_founded, settled_founded}

-- what a command does, by what it looks at: the limits, the roots, the next identity, and the objects
-- that roots name
abbrev effect_by : Bool → Limits → List ℕ → Result ℕ Refusal → (ℕ → Result Object Refusal) → ℕ → Command → Result (Reply × Change) Refusal
effect_by room l roots next at m (commands.New dst shape) = do
  d ← slot_at l m dst
  ok ← fitting shape
  id ← next
  has ← with_room room
  Ok (replies.Made id, changes.New d id shape)
effect_by room l roots next at m (commands.Load dst obj i) = do
  d ← slot_at l m dst
  a ← slot_at l m obj
  v ← at a >>= λ o. ref_cell o i
  Ok (replies.Ref v, changes.Root d v)
effect_by room l roots next at m (commands.Store obj i src) = do
  a ← slot_at l m obj
  s ← slot_at l m src
  v ← at a >>= λ o. ref_cell o i
  Ok (replies.Done, changes.Ref (slice_index roots a) i (slice_index roots s))
effect_by room l roots next at m (commands.CompareStore obj i expect new) = do
  a ← slot_at l m obj
  e ← slot_at l m expect
  n ← slot_at l m new
  v ← at a >>= λ o. ref_cell o i
  if v == slice_index roots e then Ok (replies.Stored, changes.Ref (slice_index roots a) i (slice_index roots n)) else Ok (replies.Kept v, changes.Nothing)
effect_by room l roots next at m (commands.Get obj i) = do
  a ← slot_at l m obj
  v ← at a >>= λ o. word_cell o i
  Ok (replies.Word v, changes.Nothing)
effect_by room l roots next at m (commands.Put obj i word) = do
  a ← slot_at l m obj
  v ← at a >>= λ o. word_cell o i
  Ok (replies.Done, changes.Word (slice_index roots a) i word)
effect_by room l roots next at m (commands.ComparePut obj i old new) = do
  a ← slot_at l m obj
  v ← at a >>= λ o. word_cell o i
  if v == old then Ok (replies.Stored, changes.Word (slice_index roots a) i new) else Ok (replies.KeptWord v, changes.Nothing)
effect_by room l roots next at m (commands.Copy dst src) = do
  d ← slot_at l m dst
  s ← slot_at l m src
  Ok (replies.Done, changes.Root d (slice_index roots s))
effect_by room l roots next at m (commands.Clear dst) = do
  d ← slot_at l m dst
  Ok (replies.Done, changes.Root d 0)
effect_by room l roots next at m (commands.LoadStatic dst k) = do
  d ← slot_at l m dst
  s ← static_at l k
  Ok (replies.Ref (slice_index roots s), changes.Root d (slice_index roots s))
effect_by room l roots next at m (commands.StoreStatic k src) = do
  s ← slot_at l m src
  d ← static_at l k
  Ok (replies.Done, changes.Root d (slice_index roots s))
effect_by room l roots next at m (commands.CompareStatic k expect new) = do
  e ← slot_at l m expect
  n ← slot_at l m new
  d ← static_at l k
  if slice_index roots d == slice_index roots e then Ok (replies.Stored, changes.Root d (slice_index roots n)) else Ok (replies.Kept (slice_index roots d), changes.Nothing)
effect_by room l roots next at m (commands.Same a b) = do
  x ← slot_at l m a
  y ← slot_at l m b
  Ok (replies.Is (slice_index roots x == slice_index roots y), changes.Nothing)
effect_by room l roots next at m (commands.Describe a) = do
  x ← slot_at l m a
  o ← at x
  Ok (replies.Described (slice_index roots x) o.shape, changes.Nothing)
effect_by room l roots next at m commands.Join = Ok (replies.Done, changes.Join m)
effect_by room l roots next at m commands.Leave = Ok (replies.Done, changes.Leave m)

abbrev named : Graph → ℕ → Result Object Refusal
named g a = object_at g.objects (slice_index g.roots a)

effect_is : (room : Bool) (g : Graph) (m : ℕ) (c : Command) → admitted_effect room g m c ≡ effect_by room g.limits g.roots (next_identity g) (λ a. named g a) m c
effect_is room g m (commands.New dst shape) = refl
effect_is room g m (commands.Load dst obj i) = refl
effect_is room g m (commands.Store obj i src) = refl
effect_is room g m (commands.CompareStore obj i expect new) = refl
effect_is room g m (commands.Get obj i) = refl
effect_is room g m (commands.Put obj i word) = refl
effect_is room g m (commands.ComparePut obj i old new) = refl
effect_is room g m (commands.Copy dst src) = refl
effect_is room g m (commands.Clear dst) = refl
effect_is room g m (commands.LoadStatic dst k) = refl
effect_is room g m (commands.StoreStatic k src) = refl
effect_is room g m (commands.CompareStatic k expect new) = refl
effect_is room g m (commands.Same a b) = refl
effect_is room g m (commands.Describe a) = refl
effect_is room g m commands.Join = refl
effect_is room g m commands.Leave = refl

-- a root that isn't null stands in the row, and names what can be reached
root_within : (g : Graph) (a : ℕ) → get_or g.roots a 0 ≢ 0 → a < length g.roots
root_within g a some = by_size (nat_lt a (length g.roots)) refl
  where
    by_size : (b : Bool) → nat_lt a (length g.roots) ≡ b → a < length g.roots
    by_size true e = grind arith
    by_size false e = absurd (some (get_or_past g.roots a 0 (grind arith)))

object_within : (xs : List Object) (id : ℕ) → id ≢ 0 → id ≤ length xs → slice_get xs (id - 1) ≡ Some (object_of xs id)
unfolding object_of
object_within xs id some l = slice_get-get_or xs (id - 1) no_object (omega arith) ∙ ap Some (let e : (id == 0) ≡ false = grind arith in rw e refl)

named_known : (h : HeapState) (f g : Graph) → Agrees h f → Agrees h g → (id : ℕ) → IsKnown f id → object_at f.objects id ≡ object_at g.objects id
named_known h f g p q id k = by_null (id == 0) refl
  where
    by_null : (b : Bool) → (id == 0) ≡ b → (if b then Err refusals.NullSlot else found (slice_get f.objects (id - 1))) ≡ (if b then Err refusals.NullSlot else found (slice_get g.objects (id - 1)))
    by_null true e = refl
    by_null false e =
        let some : id ≢ 0 = grind arith in
        let a = told h f g p q in
        let r = known_reaches f id k (omega arith) in
        let below = (p.given id r).below in
        let below' : id ≤ length g.objects = (let c = a.count in omega arith) in
        ap found (object_within f.objects id some below ∙ ap Some (a.object id r) ∙ sym (object_within g.objects id some below'))

named_same : (h : HeapState) (f g : Graph) → Agrees h f → Agrees h g → (a : ℕ) → named f a ≡ named g a
named_same h f g p q a = by_size (nat_lt a (length f.roots)) refl ∙ ap (λ z. object_at g.objects (slice_index z a)) (told h f g p q).roots
  where
    by_size : (b : Bool) → nat_lt a (length f.roots) ≡ b → object_at f.objects (slice_index f.roots a) ≡ object_at g.objects (slice_index f.roots a)
    by_size true e = named_known h f g p q (slice_index f.roots a) (known_root f a (grind arith))
    by_size false e = named_known h f g p q (slice_index f.roots a) (inl (get_or_past f.roots a 0 (grind arith)))

abbrev next_by : ℕ → Limits → Result ℕ Refusal
next_by n l = if nat_lt n l.identities then Ok (n + 1) else Err refusals.IdentitiesSpent

same_admitted_effect : (h : HeapState) (f g : Graph) (room : Bool) (m : ℕ) (c : Command) → Agrees h f → Agrees h g → admitted_effect room f m c ≡ admitted_effect room g m c
same_admitted_effect h f g room m c p q =
    let a = told h f g p q in
    let at : (λ x. named f x) ≡ (λ x. named g x) = fun_ext (named_same h f g p q) in
    let next : next_identity f ≡ next_identity g = ap (λ n. next_by n f.limits) a.count ∙ ap (λ l. next_by (length g.objects) l) a.limits in
    effect_is room f m c ∙ ap (λ l. effect_by room l f.roots (next_identity f) (λ x. named f x) m c) a.limits ∙ ap (λ r. effect_by room g.limits r (next_identity f) (λ x. named f x) m c) a.roots
    ∙ ap (λ n. effect_by room g.limits g.roots n (λ x. named f x) m c) next ∙ ap (λ z. effect_by room g.limits g.roots (next_identity g) z m c) at ∙ sym (effect_is room g m c)

-- the admission looks at the limits and at who is live
abbrev admitted_by : Limits → List Bool → ℕ → Command → Result (Unit {0}) Refusal
admitted_by l live m c = if nat_lt m l.mutators then admits (slice_index_or live m false) (is_join c) else Err refusals.BadSlot

same_admitted : (h : HeapState) (f g : Graph) (m : ℕ) (c : Command) → Agrees h f → Agrees h g → admitted f m c ≡ admitted g m c
same_admitted h f g m c p q = let a = told h f g p q in ap (λ l. admitted_by l f.live m c) a.limits ∙ ap (λ z. admitted_by g.limits z m c) a.live

abbrev let_in : Result (Unit {0}) Refusal → Result (Reply × Change) Refusal → Result (Reply × Change) Refusal
let_in a d = a >>= λ ok. d

pub same_effect : (h : HeapState) (f g : Graph) (room : Bool) (m : ℕ) (c : Command) → Agrees h f → Agrees h g → effect_of room f m c ≡ effect_of room g m c
same_effect h f g room m c p q = ap (λ z. let_in z (admitted_effect room f m c)) (same_admitted h f g m c p q) ∙ ap (λ z. let_in (admitted g m c) z) (same_admitted_effect h f g room m c p q)

-- For every graph heap: a command replies the same, and if the heap goes on to agree with one, it agrees with each other.
pub step_each : (h after : HeapState) (f g : Graph) (room : Bool) (m : ℕ) (c : Command) → Agrees h f → Agrees h g → length f.roots ≡ root_cells f.limits → Agrees after (next_of room f m c)
    → (reply_of room g m c ≡ reply_of room f m c) × Agrees after (next_of room g m c)
unfolding reply_of next_of
step_each h after f g room m c p q row r =
    let e = same_effect h f g room m c p q in
    let change = change_in (settled (effect_of room f m c)) in
    let founded = settled_founded f (effect_of room f m c) (λ x s. effect_founded f room m c x row s) in
    (sym (ap (λ z. (settled z).0) e), subst (λ z. Agrees after (changed g (change_in (settled z)))) e (each_changed h after f g change p q founded r))
