-- The blocks that a command allocates, and those that it requests.
use Rattle.std.proofs.Common.{◌≡◌, ℕ, ◌+◌, ◌<◌, ◌≤◌, ◌⊎◌, inl, inr, Bool, true, false, ◌==◌, if◌then◌else◌, List, [], ◌∷◌, length, length-append, arith, refl, ap, ◌∙◌, sym, subst, Result, Ok, Err}
use Rattle.std.specs.Prelude.{Option, Some, None, IfSome, IsNone}
use Rattle.graph_heap.specs.declared.command.Limits.{Limits}
use Rattle.graph_heap.specs.declared.command.Shape.{Shape}
use Rattle.graph_heap.specs.declared.command.Command.{Command}
use Rattle.graph_heap.specs.declared.command.Command.TheVariants as commands
use Rattle.graph_heap.specs.declared.command.Refusal.{Refusal}
use Rattle.graph_heap.specs.declared.command.Change.{Change}
use Rattle.graph_heap.specs.declared.command.Change.TheVariants as changes
use Rattle.graph_heap.specs.Graph.{Object, Graph, object_of, changed, new_object, no_object, opening, with_ref, with_word, root_cells}
use Rattle.graph_heap.specs.Shape.{fits}
use Rattle.graph_heap.specs.Effect.{slot_at, fitting, next_identity, admitted, settled}
use Rattle.graph_heap.specs.Reaching.{new_shape}
use Rattle.size_classes.specs.Need.{needed}
use Rattle.heap_model.specs.Alike.{IsFounded}
use Rattle.heap_model.specs.Event.{change_by}
use Rattle.heap_model.proofs.Event.Kept.{founded}
use Rattle.heap_model.proofs.Cut.Changes.{length-put, put_each, object-append}
use Rattle.heap_model.proofs.Agreements.Written.{reaches_some}
use Rattle.space.specs.Demand.{asked_by, asked_for}
use Rattle.space.proofs.Rooms.{new_effect}
use Rattle.sizing.specs.Counts.{AreBlocks}
use Rattle.sizing.specs.Meter.{AllFit}
use Rattle.sizing.proofs.Counts.Counting.{are_same}

-- the object for which a change asks
asked_some : (g : Graph) (x : Change) (shape : Shape) → IsFounded g x → new_shape x ≡ Some shape → (fits shape ≡ true) × ((class : ℕ) → asked_by x class ≡ needed shape class)
asked_some g (changes.New cell id s) shape f e = let same : s ≡ shape = cc in (subst (λ z. fits z ≡ true) same f.2, λ class. ap (λ z. needed z class) same)
asked_some g changes.Nothing shape f e = absurd (cc)
asked_some g (changes.Root cell id) shape f e = absurd (cc)
asked_some g (changes.Ref id i v) shape f e = absurd (cc)
asked_some g (changes.Word id i v) shape f e = absurd (cc)
asked_some g (changes.Join m) shape f e = absurd (cc)
asked_some g (changes.Leave m) shape f e = absurd (cc)

pub asks_some : (g : Graph) (m : ℕ) (c : Command) (shape : Shape) → length g.roots ≡ root_cells g.limits → new_shape (change_by true g m c) ≡ Some shape → (fits shape ≡ true) × ((class : ℕ) → asked_for g m c class ≡ needed shape class)
asks_some g m c shape row e = asked_some g (change_by true g m c) shape (founded g true m c row) e

asked_none : (x : Change) (class : ℕ) → new_shape x ≡ None → asked_by x class ≡ 0
asked_none (changes.New cell id s) class e = absurd (cc)
asked_none changes.Nothing class e = refl
asked_none (changes.Root cell id) class e = refl
asked_none (changes.Ref id i v) class e = refl
asked_none (changes.Word id i v) class e = refl
asked_none (changes.Join m) class e = refl
asked_none (changes.Leave m) class e = refl

pub asks_none : (g : Graph) (m : ℕ) (c : Command) (class : ℕ) → new_shape (change_by true g m c) ≡ None → asked_for g m c class ≡ 0
asks_none g m c class e = asked_none (change_by true g m c) class e

-- the blocks of the shape for which is asked, or of none
pub asked_so : (g : Graph) (m : ℕ) (c : Command) (blocks : List ℕ) (shape : Option Shape) → length g.roots ≡ root_cells g.limits → shape ≡ new_shape (change_by true g m c) → IfSome shape (λ s. fits s ≡ true → AreBlocks blocks (needed s))
    → (IsNone shape → AreBlocks blocks (λ class. 0)) → AreBlocks blocks (asked_for g m c)
asked_so g m c blocks (Some shape) row e some none = let a = asks_some g m c shape row (sym e) in are_same blocks (needed shape) (asked_for g m c) (λ class low. a.1 class) (some a.0)
asked_so g m c blocks None row e some none = are_same blocks (λ class. 0) (asked_for g m c) (λ class low. asks_none g m c class (sym e)) (none refl)

-- whether a change makes an object
abbrev makes : Change → Bool
makes (changes.New cell id shape) = true
makes _ = false

made_or : (x : Change) (class : ℕ) → asked_by x class ≡ (if makes x then asked_by x class else 0)
made_or (changes.New cell id s) class = refl
made_or changes.Nothing class = refl
made_or (changes.Root cell id) class = refl
made_or (changes.Ref id i v) class = refl
made_or (changes.Word id i v) class = refl
made_or (changes.Join m) class = refl
made_or (changes.Leave m) class = refl

new_made : (l : Result (Unit {0}) Refusal) (s : Result ℕ Refusal) (f : Result Shape Refusal) (i : Result ℕ Refusal) (shape : Shape) (room : Bool) (k : ℕ)
    → asked_by (settled (new_effect l s f i shape room)).1 k ≡ (if makes (settled (new_effect l s f i shape room)).1 then asked_by (settled (new_effect l s f i shape true)).1 k else 0)
new_made (Err e) s f i shape room k = refl
new_made (Ok l) (Err e) f i shape room k = refl
new_made (Ok l) (Ok d) (Err e) i shape room k = refl
new_made (Ok l) (Ok d) (Ok o) (Err e) shape room k = refl
new_made (Ok l) (Ok d) (Ok o) (Ok id) shape true k = refl
new_made (Ok l) (Ok d) (Ok o) (Ok id) shape false k = refl

-- room matters to a new object alone
same_room : (room : Bool) (g : Graph) (m : ℕ) (c : Command) → ((dst : ℕ) × (shape : Shape) × (c ≡ commands.New dst shape)) ⊎ (change_by room g m c ≡ change_by true g m c)
same_room room g m (commands.New dst shape) = inl (dst, shape, refl)
same_room room g m _ = inr refl

made_asks : (room : Bool) (g : Graph) (m : ℕ) (c : Command) (k : ℕ) → asked_by (change_by room g m c) k ≡ (if makes (change_by room g m c) then asked_for g m c k else 0)
made_asks room g m c k = elim (same_room room g m c) [
  | inl (dst, shape, e) ↦ subst (λ x. asked_by (change_by room g m x) k ≡ (if makes (change_by room g m x) then asked_for g m x k else 0)) (sym e)
      (new_made (admitted g m (commands.New dst shape)) (slot_at g.limits m dst) (fitting shape) (next_identity g) shape room k)
  | inr e ↦ subst (λ x. asked_by (change_by room g m c) k ≡ (if makes (change_by room g m c) then asked_by x k else 0)) e (made_or (change_by room g m c) k)
]

count_after : (g : Graph) (x : Change) → length (changed g x).objects ≡ length g.objects + (if makes x then 1 else 0)
count_after g (changes.New cell id s) = length-append g.objects (new_object s ∷ [])
count_after g changes.Nothing = omega arith
count_after g (changes.Root cell id) = omega arith
count_after g (changes.Ref id i v) = let e = length-put g.objects id (with_ref (object_of g.objects id) i v) in omega (arith, e)
count_after g (changes.Word id i v) = let e = length-put g.objects id (with_word (object_of g.objects id) i v) in omega (arith, e)
count_after g (changes.Join m) = omega arith
count_after g (changes.Leave m) = omega arith

-- if an object is allocated, it is what was asked for; and else nothing is
pub grown : (room : Bool) (g : Graph) (m : ℕ) (c : Command) (k : ℕ) → length g.objects < length (changed g (change_by room g m c)).objects → asked_by (change_by room g m c) k ≡ asked_for g m c k
grown room g m c k more = by_makes (makes (change_by room g m c)) (count_after g (change_by room g m c)) (made_asks room g m c k)
  where
    by_makes : (b : Bool) → length (changed g (change_by room g m c)).objects ≡ length g.objects + (if b then 1 else 0) → asked_by (change_by room g m c) k ≡ (if b then asked_for g m c k else 0) → asked_by (change_by room g m c) k ≡ asked_for g m c k
    by_makes true e a = a
    by_makes false e a = absurd (omega (arith, e, more))

pub not_grown : (room : Bool) (g : Graph) (m : ℕ) (c : Command) (k : ℕ) → length (changed g (change_by room g m c)).objects ≤ length g.objects → asked_by (change_by room g m c) k ≡ 0
not_grown room g m c k less = by_makes (makes (change_by room g m c)) (count_after g (change_by room g m c)) (made_asks room g m c k)
  where
    by_makes : (b : Bool) → length (changed g (change_by room g m c)).objects ≡ length g.objects + (if b then 1 else 0) → asked_by (change_by room g m c) k ≡ (if b then asked_for g m c k else 0) → asked_by (change_by room g m c) k ≡ 0
    by_makes true e a = absurd (omega (arith, e, less))
    by_makes false e a = a

-- each object has the shape of one, after a change too
pub fit_after : (g : Graph) (x : Change) → AllFit g → IsFounded g x → AllFit (changed g x)
fit_after g changes.Nothing h f id = h id
fit_after g (changes.Root cell v) h f id = h id
fit_after g (changes.Ref to i v) h f id = ap fits (put_each (λ (o : Object). o.shape) g.objects to (with_ref (object_of g.objects to) i v) (reaches_some g to f.0) f.1 refl id) ∙ h id
fit_after g (changes.Word to i v) h f id = ap fits (put_each (λ (o : Object). o.shape) g.objects to (with_word (object_of g.objects to) i v) (reaches_some g to f.0) f.1 refl id) ∙ h id
fit_after g (changes.New cell new shape) h f id = ap (λ (o : Object). fits o.shape) (object-append g.objects (new_object shape) id) ∙ by_place (id == length g.objects + 1)
  where
    by_place : (b : Bool) → fits (if b then new_object shape else object_of g.objects id).shape ≡ true
    by_place true = f.2
    by_place false = h id
fit_after g (changes.Join m) h f id = h id
fit_after g (changes.Leave m) h f id = h id

pub fit_opening : (l : Limits) → AllFit (opening l)
unfolding object_of
fit_opening l id = by_place (id == 0)
  where
    by_place : (b : Bool) → fits (if b then no_object else no_object).shape ≡ true
    by_place true = refl
    by_place false = refl
