-- The change of a command is founded in the graph heap: it is in the row, or in an object that can be reached.
use Rattle.std.proofs.Common.{◌≡◌, ◌≢◌, ℕ, ◌+◌, ◌-◌, ◌*◌, ◌<◌, ◌≤◌, Bool, true, false, List, length, get_or, refl, ap, subst, sym, ◌∙◌, arith, inl, inr, ◌==◌, ◌&&◌, if◌then◌else◌, nat_lt, Option, Some, None, Result, Ok, Err}
use Rattle.std.specs.Prelude.{slice_get, slice_index, slice_index_or}
use Rattle.std.proofs.lemmas.Nat.{mul-add-lt}
use Rattle.std.proofs.Math.Nat.{mul_comm, mul-le-mul_right}
use Rattle.std.proofs.lemmas.Option.{slice_get_within, get_or_from_slice_get}
use Rattle.graph_heap.specs.declared.command.Shape.{Shape}
use Rattle.graph_heap.specs.declared.command.Command.{Command}
use Rattle.graph_heap.specs.declared.command.Command.TheVariants as commands
use Rattle.graph_heap.specs.declared.command.Reply.{Reply}
use Rattle.graph_heap.specs.declared.command.Reply.TheVariants as replies
use Rattle.graph_heap.specs.declared.command.Refusal.{Refusal}
use Rattle.graph_heap.specs.declared.command.Refusal.TheVariants as refusals
use Rattle.graph_heap.specs.declared.command.Limits.{Limits}
use Rattle.graph_heap.specs.declared.command.Change.{Change}
use Rattle.graph_heap.specs.declared.command.Change.TheVariants as changes
use Rattle.graph_heap.specs.Shape.{fits, takes_refs, takes_words}
use Rattle.graph_heap.specs.Graph.{Object, Graph, no_object, object_of, root_cells}
use Rattle.graph_heap.specs.Reach.{Reaches}
use Rattle.graph_heap.specs.Effect.{◌>>=◌, slot_at, static_at, found, object_at, ref_cell, word_cell, ref_at, word_at, fitting, next_identity, with_room, admitted_effect, is_join, admits, admitted, effect_of, settled}
use Rattle.heap_model.specs.Written.{IsKnown}
use Rattle.heap_model.specs.Alike.{IsFounded}
use Rattle.heap_model.proofs.Alike.Sameness.{known_root, known_ref, known_reaches}

-- what was taken before a step succeeded
bind_ok : {A B : Type 0} (r : Result A Refusal) (f : A → Result B Refusal) (y : B) → (r >>= f) ≡ Ok y → (x : A) × (r ≡ Ok x) × (f x ≡ Ok y)
bind_ok (Ok x) f y e = (x, refl, e)
bind_ok (Err n) f y e = absurd (cc)

slot_low : (l : Limits) (m s d : ℕ) → slot_at l m s ≡ Ok d → d < root_cells l
slot_low l m s d e = by_test (nat_lt m l.mutators && nat_lt s l.slots) refl e
  where
    by_test : (b : Bool) → (nat_lt m l.mutators && nat_lt s l.slots) ≡ b → (if b then Ok (m * l.slots + s) else Err refusals.BadSlot) ≡ Ok d → d < root_cells l
    by_test true t e =
        let same : m * l.slots + s ≡ d = cc in
        let a : m < l.mutators = grind arith in
        let b : s < l.slots = grind arith in
        let fits = mul-add-lt m l.slots s l.mutators a b in
        let turned : l.slots * l.mutators ≡ l.mutators * l.slots = mul_comm l.slots l.mutators in
        omega arith
    by_test false t e = absurd (cc)

static_low : (l : Limits) (k d : ℕ) → static_at l k ≡ Ok d → d < root_cells l
static_low l k d e = by_test (nat_lt k l.statics) refl e
  where
    by_test : (b : Bool) → nat_lt k l.statics ≡ b → (if b then Ok (l.mutators * l.slots + k) else Err refusals.BadStatic) ≡ Ok d → d < root_cells l
    by_test true t e = let same : l.mutators * l.slots + k ≡ d = cc in let a : k < l.statics = grind arith in omega arith
    by_test false t e = absurd (cc)

-- the object that a slot names
pub record IsNamed (g : Graph) (id : ℕ) (o : Object) : Type 0 where
  pub reaches : Reaches g id
  pub below : id ≤ length g.objects
  pub object : object_of g.objects id ≡ o

object_is : (xs : List Object) (id : ℕ) (o : Object) → object_at xs id ≡ Ok o → (id ≢ 0) × (id ≤ length xs) × (object_of xs id ≡ o)
unfolding object_of
object_is xs id o e = by_null (id == 0) refl e
  where
    by_got : (r : Option Object) → slice_get xs (id - 1) ≡ r → (id == 0) ≡ false → found r ≡ Ok o → (id ≢ 0) × (id ≤ length xs) × ((if id == 0 then no_object else get_or xs (id - 1) no_object) ≡ o)
    by_got None s q e = absurd (cc)
    by_got (Some p) s q e =
        let same : p ≡ o = cc in
        let some : id ≢ 0 = grind arith in
        let l = slice_get_within xs (id - 1) p s in
        (some, omega arith, (rw q (get_or_from_slice_get xs (id - 1) p no_object s ∙ same)))

    by_null : (b : Bool) → (id == 0) ≡ b → (if b then Err refusals.NullSlot else found (slice_get xs (id - 1))) ≡ Ok o → (id ≢ 0) × (id ≤ length xs) × ((if id == 0 then no_object else get_or xs (id - 1) no_object) ≡ o)
    by_null true q e = absurd (cc)
    by_null false q e = by_got (slice_get xs (id - 1)) refl q e

is_named : (g : Graph) (a : ℕ) (o : Object) → a < length g.roots → object_at g.objects (slice_index g.roots a) ≡ Ok o → IsNamed g (slice_index g.roots a) o
is_named g a o l e =
    let q = object_is g.objects (slice_index g.roots a) o e in
    let some = q.0 in
    record { reaches = known_reaches g (slice_index g.roots a) (known_root g a l) (omega arith); below = q.1; object = q.2 }

ref_is : (o : Object) (i v : ℕ) → ref_cell o i ≡ Ok v → (i < length o.refs) × (get_or o.refs i 0 ≡ v)
ref_is o i v e = by_kind (takes_refs o.shape) e
  where
    by_size : (b : Bool) → nat_lt i (length o.refs) ≡ b → (if b then Ok (slice_index o.refs i) else Err refusals.BadIndex) ≡ Ok v → (i < length o.refs) × (get_or o.refs i 0 ≡ v)
    by_size true t e = (grind arith, cc)
    by_size false t e = absurd (cc)

    by_kind : (b : Bool) → (if b then (if nat_lt i (length o.refs) then Ok (slice_index o.refs i) else Err refusals.BadIndex) else Err refusals.WrongKind) ≡ Ok v → (i < length o.refs) × (get_or o.refs i 0 ≡ v)
    by_kind true e = by_size (nat_lt i (length o.refs)) refl e
    by_kind false e = absurd (cc)

word_is : (o : Object) (i v : ℕ) → word_cell o i ≡ Ok v → i < length o.words
word_is o i v e = by_kind (takes_words o.shape) e
  where
    by_size : (b : Bool) → nat_lt i (length o.words) ≡ b → (if b then Ok (slice_index o.words i) else Err refusals.BadIndex) ≡ Ok v → i < length o.words
    by_size true t e = grind arith
    by_size false t e = absurd (cc)

    by_kind : (b : Bool) → (if b then (if nat_lt i (length o.words) then Ok (slice_index o.words i) else Err refusals.BadIndex) else Err refusals.WrongKind) ≡ Ok v → i < length o.words
    by_kind true e = by_size (nat_lt i (length o.words)) refl e
    by_kind false e = absurd (cc)

-- a cell of the object that a slot names
ref_founded : (g : Graph) (a i v : ℕ) → a < length g.roots → ref_at g.objects (slice_index g.roots a) i ≡ Ok v → let id = slice_index g.roots a in Reaches g id × (id ≤ length g.objects) × (i < length (object_of g.objects id).refs) × IsKnown g v
ref_founded g a i v l e =
    let b = bind_ok (object_at g.objects (slice_index g.roots a)) (λ o. ref_cell o i) v e in
    let n = is_named g a b.0 l b.1 in
    let r = ref_is b.0 i v b.2 in
    let inside : i < length (object_of g.objects (slice_index g.roots a)).refs = subst (λ (z : Object). i < length z.refs) (sym n.object) r.0 in
    let value : get_or (object_of g.objects (slice_index g.roots a)).refs i 0 ≡ v = ap (λ (z : Object). get_or z.refs i 0) n.object ∙ r.1 in
    (n.reaches, n.below, inside, subst (λ z. IsKnown g z) value (known_ref g (slice_index g.roots a) i (inr n.reaches) inside))

word_founded : (g : Graph) (a i v : ℕ) → a < length g.roots → word_at g.objects (slice_index g.roots a) i ≡ Ok v → let id = slice_index g.roots a in Reaches g id × (id ≤ length g.objects) × (i < length (object_of g.objects id).words)
word_founded g a i v l e =
    let b = bind_ok (object_at g.objects (slice_index g.roots a)) (λ o. word_cell o i) v e in
    let n = is_named g a b.0 l b.1 in
    (n.reaches, n.below, subst (λ (z : Object). i < length z.words) (sym n.object) (word_is b.0 i v b.2))

fitting_fits : (shape ok : Shape) → fitting shape ≡ Ok ok → fits shape ≡ true
fitting_fits shape ok e = by_test (fits shape) e
  where
    by_test : (b : Bool) → (if b then Ok shape else Err refusals.TooLarge) ≡ Ok ok → b ≡ true
    by_test true e = refl
    by_test false e = absurd (cc)

next_is : (g : Graph) (id : ℕ) → next_identity g ≡ Ok id → id ≡ length g.objects + 1
next_is g id e = by_test (nat_lt (length g.objects) g.limits.identities) e
  where
    by_test : (b : Bool) → (if b then Ok (length g.objects + 1) else Err refusals.IdentitiesSpent) ≡ Ok id → id ≡ length g.objects + 1
    by_test true e = cc
    by_test false e = absurd (cc)

abbrev pub change_in : Reply × Change → Change
change_in x = x.1

abbrev Gives : Result (Reply × Change) Refusal → Reply × Change → Type 0
Gives r x = r ≡ Ok x

-- if nothing refuses a command, its change is founded
taken : (g : Graph) (y x : Reply × Change) → Gives (Ok y) x → IsFounded g (change_in y) → IsFounded g (change_in x)
taken g y x e w = let same : y ≡ x = ok_part y x e in subst (λ z. IsFounded g (change_in z)) same w
  where
    ok_part : (y x : Reply × Change) → Gives (Ok y) x → y ≡ x
    ok_part y x e = cc

slots_low : (l : Limits) (m : ℕ) → m < l.mutators → m * l.slots + l.slots ≤ root_cells l
slots_low l m low = let above : m + 1 ≤ l.mutators = omega arith in let e : (m + 1) * l.slots ≤ l.mutators * l.slots = mul-le-mul_right l.slots above in let f : (m + 1) * l.slots ≡ m * l.slots + l.slots = grind arith in omega arith

admitted_founded : (g : Graph) (room : Bool) (m : ℕ) (c : Command) (x : Reply × Change) → length g.roots ≡ root_cells g.limits → m < g.limits.mutators → admitted_effect room g m c ≡ Ok x → IsFounded g (change_in x)
admitted_founded g room m (commands.New dst shape) x row low e =
    let d = bind_ok (slot_at g.limits m dst) _ x e in
    let f = bind_ok (fitting shape) _ x d.2 in
    let i = bind_ok (next_identity g) _ x f.2 in
    let r = bind_ok (with_room room) _ x i.2 in
    taken g (replies.Made i.0, changes.New d.0 i.0 shape) x r.2 (subst (λ z. d.0 < z) (sym row) (slot_low g.limits m dst d.0 d.1), next_is g i.0 i.1, fitting_fits shape f.0 f.1)
admitted_founded g room m (commands.Load dst obj i) x row low e =
    let d = bind_ok (slot_at g.limits m dst) _ x e in
    let a = bind_ok (slot_at g.limits m obj) _ x d.2 in
    let v = bind_ok (ref_at g.objects (slice_index g.roots a.0) i) _ x a.2 in
    let w = ref_founded g a.0 i v.0 (subst (λ z. a.0 < z) (sym row) (slot_low g.limits m obj a.0 a.1)) v.1 in
    taken g (replies.Ref v.0, changes.Root d.0 v.0) x v.2 (subst (λ z. d.0 < z) (sym row) (slot_low g.limits m dst d.0 d.1), w.3)
admitted_founded g room m (commands.Store obj i src) x row low e =
    let a = bind_ok (slot_at g.limits m obj) _ x e in
    let s = bind_ok (slot_at g.limits m src) _ x a.2 in
    let v = bind_ok (ref_at g.objects (slice_index g.roots a.0) i) _ x s.2 in
    let w = ref_founded g a.0 i v.0 (subst (λ z. a.0 < z) (sym row) (slot_low g.limits m obj a.0 a.1)) v.1 in
    taken g (replies.Done, changes.Ref (slice_index g.roots a.0) i (slice_index g.roots s.0)) x v.2 (w.0, w.1, w.2, known_root g s.0 (subst (λ z. s.0 < z) (sym row) (slot_low g.limits m src s.0 s.1)))
admitted_founded g room m (commands.CompareStore obj i expect new) x row low e =
    let a = bind_ok (slot_at g.limits m obj) _ x e in
    let q = bind_ok (slot_at g.limits m expect) _ x a.2 in
    let n = bind_ok (slot_at g.limits m new) _ x q.2 in
    let v = bind_ok (ref_at g.objects (slice_index g.roots a.0) i) _ x n.2 in
    let w = ref_founded g a.0 i v.0 (subst (λ z. a.0 < z) (sym row) (slot_low g.limits m obj a.0 a.1)) v.1 in
    let k = known_root g n.0 (subst (λ z. n.0 < z) (sym row) (slot_low g.limits m new n.0 n.1)) in
    by_test a.0 n.0 v.0 (v.0 == slice_index g.roots q.0) w k v.2
  where
    by_test : (a n v : ℕ) (b : Bool) → Reaches g (slice_index g.roots a) × (slice_index g.roots a ≤ length g.objects) × (i < length (object_of g.objects (slice_index g.roots a)).refs) × IsKnown g v → IsKnown g (slice_index g.roots n)
        → Gives (if b then Ok (replies.Stored, changes.Ref (slice_index g.roots a) i (slice_index g.roots n)) else Ok (replies.Kept v, changes.Nothing)) x → IsFounded g (change_in x)
    by_test a n v true w k e = taken g (replies.Stored, changes.Ref (slice_index g.roots a) i (slice_index g.roots n)) x e (w.0, w.1, w.2, k)
    by_test a n v false w k e = taken g (replies.Kept v, changes.Nothing) x e tt
admitted_founded g room m (commands.Get obj i) x row low e =
    let a = bind_ok (slot_at g.limits m obj) _ x e in
    let v = bind_ok (word_at g.objects (slice_index g.roots a.0) i) _ x a.2 in
    taken g (replies.Word v.0, changes.Nothing) x v.2 tt
admitted_founded g room m (commands.Put obj i word) x row low e =
    let a = bind_ok (slot_at g.limits m obj) _ x e in
    let v = bind_ok (word_at g.objects (slice_index g.roots a.0) i) _ x a.2 in
    taken g (replies.Done, changes.Word (slice_index g.roots a.0) i word) x v.2 (word_founded g a.0 i v.0 (subst (λ z. a.0 < z) (sym row) (slot_low g.limits m obj a.0 a.1)) v.1)
admitted_founded g room m (commands.ComparePut obj i old new) x row low e =
    let a = bind_ok (slot_at g.limits m obj) _ x e in
    let v = bind_ok (word_at g.objects (slice_index g.roots a.0) i) _ x a.2 in
    let w = word_founded g a.0 i v.0 (subst (λ z. a.0 < z) (sym row) (slot_low g.limits m obj a.0 a.1)) v.1 in
    by_test a.0 v.0 (v.0 == old) w v.2
  where
    by_test : (a v : ℕ) (b : Bool) → Reaches g (slice_index g.roots a) × (slice_index g.roots a ≤ length g.objects) × (i < length (object_of g.objects (slice_index g.roots a)).words)
        → Gives (if b then Ok (replies.Stored, changes.Word (slice_index g.roots a) i new) else Ok (replies.KeptWord v, changes.Nothing)) x → IsFounded g (change_in x)
    by_test a v true w e = taken g (replies.Stored, changes.Word (slice_index g.roots a) i new) x e w
    by_test a v false w e = taken g (replies.KeptWord v, changes.Nothing) x e tt
admitted_founded g room m (commands.Copy dst src) x row low e =
    let d = bind_ok (slot_at g.limits m dst) _ x e in
    let s = bind_ok (slot_at g.limits m src) _ x d.2 in
    taken g (replies.Done, changes.Root d.0 (slice_index g.roots s.0)) x s.2 (subst (λ z. d.0 < z) (sym row) (slot_low g.limits m dst d.0 d.1), known_root g s.0 (subst (λ z. s.0 < z) (sym row) (slot_low g.limits m src s.0 s.1)))
admitted_founded g room m (commands.Clear dst) x row low e =
    let d = bind_ok (slot_at g.limits m dst) _ x e in
    taken g (replies.Done, changes.Root d.0 0) x d.2 (subst (λ z. d.0 < z) (sym row) (slot_low g.limits m dst d.0 d.1), inl refl)
admitted_founded g room m (commands.LoadStatic dst k) x row low e =
    let d = bind_ok (slot_at g.limits m dst) _ x e in
    let s = bind_ok (static_at g.limits k) _ x d.2 in
    taken g (replies.Ref (slice_index g.roots s.0), changes.Root d.0 (slice_index g.roots s.0)) x s.2 (subst (λ z. d.0 < z) (sym row) (slot_low g.limits m dst d.0 d.1), known_root g s.0 (subst (λ z. s.0 < z) (sym row) (static_low g.limits k s.0 s.1)))
admitted_founded g room m (commands.StoreStatic k src) x row low e =
    let s = bind_ok (slot_at g.limits m src) _ x e in
    let d = bind_ok (static_at g.limits k) _ x s.2 in
    taken g (replies.Done, changes.Root d.0 (slice_index g.roots s.0)) x d.2 (subst (λ z. d.0 < z) (sym row) (static_low g.limits k d.0 d.1), known_root g s.0 (subst (λ z. s.0 < z) (sym row) (slot_low g.limits m src s.0 s.1)))
admitted_founded g room m (commands.CompareStatic k expect new) x row low e =
    let q = bind_ok (slot_at g.limits m expect) _ x e in
    let n = bind_ok (slot_at g.limits m new) _ x q.2 in
    let d = bind_ok (static_at g.limits k) _ x n.2 in
    by_test d.0 n.0 (slice_index g.roots d.0 == slice_index g.roots q.0) (subst (λ z. d.0 < z) (sym row) (static_low g.limits k d.0 d.1)) (known_root g n.0 (subst (λ z. n.0 < z) (sym row) (slot_low g.limits m new n.0 n.1))) d.2
  where
    by_test : (d n : ℕ) (b : Bool) → d < length g.roots → IsKnown g (slice_index g.roots n)
        → Gives (if b then Ok (replies.Stored, changes.Root d (slice_index g.roots n)) else Ok (replies.Kept (slice_index g.roots d), changes.Nothing)) x → IsFounded g (change_in x)
    by_test d n true l k e = taken g (replies.Stored, changes.Root d (slice_index g.roots n)) x e (l, k)
    by_test d n false l k e = taken g (replies.Kept (slice_index g.roots d), changes.Nothing) x e tt
admitted_founded g room m (commands.Same a b) x row low e =
    let p = bind_ok (slot_at g.limits m a) _ x e in
    let q = bind_ok (slot_at g.limits m b) _ x p.2 in
    taken g (replies.Is (slice_index g.roots p.0 == slice_index g.roots q.0), changes.Nothing) x q.2 tt
admitted_founded g room m (commands.Describe a) x row low e =
    let p = bind_ok (slot_at g.limits m a) _ x e in
    let o = bind_ok (object_at g.objects (slice_index g.roots p.0)) _ x p.2 in
    taken g (replies.Described (slice_index g.roots p.0) o.0.shape, changes.Nothing) x o.2 tt
admitted_founded g room m commands.Join x row low e = taken g (replies.Done, changes.Join m) x e tt
admitted_founded g room m commands.Leave x row low e = taken g (replies.Done, changes.Leave m) x e (subst (λ z. m * g.limits.slots + g.limits.slots ≤ z) (sym row) (slots_low g.limits m low))

admitted_low : (g : Graph) (m : ℕ) (c : Command) (ok : Unit {0}) → admitted g m c ≡ Ok ok → m < g.limits.mutators
admitted_low g m c ok e = by_test (nat_lt m g.limits.mutators) refl e
  where
    by_test : (b : Bool) → nat_lt m g.limits.mutators ≡ b → (if b then admits (slice_index_or g.live m false) (is_join c) else Err refusals.BadSlot) ≡ Ok ok → m < g.limits.mutators
    by_test true t e = grind arith
    by_test false t e = absurd (cc)

pub effect_founded : (g : Graph) (room : Bool) (m : ℕ) (c : Command) (x : Reply × Change) → length g.roots ≡ root_cells g.limits → effect_of room g m c ≡ Ok x → IsFounded g (change_in x)
effect_founded g room m c x row e = let a = bind_ok (admitted g m c) _ x e in admitted_founded g room m c x row (admitted_low g m c a.0 a.1) a.2

pub settled_founded : (g : Graph) (r : Result (Reply × Change) Refusal) → ((x : Reply × Change) → r ≡ Ok x → IsFounded g (change_in x)) → IsFounded g (change_in (settled r))
settled_founded g (Ok x) w = w x refl
settled_founded g (Err n) w = tt
