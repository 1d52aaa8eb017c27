-- A new object planned.
use Rattle.std.proofs.Common.{◌≡◌, ℕ, ◌+◌, ◌<◌, ◌≤◌, ◌^◌, ◌↔◌, Bool, true, false, cond, List, length, Option, Some, IfSome, Result, Ok, Err, ap, ◌∙◌, sym, subst, arith, refl}
use Rattle.std.specs.Prelude.{nat_lt, IsNone, is_some}
use Rattle.std.proofs.lemmas.Bool.{lt-ltb, le-ltb}
use Rattle.graph_heap.specs.declared.command.Shape.{Shape}
use Rattle.graph_heap.specs.declared.command.Refusal.{Refusal}
use Rattle.graph_heap.specs.declared.command.Refusal.TheVariants as refusals
use Rattle.graph_heap.specs.declared.command.Reply.{Reply}
use Rattle.graph_heap.specs.declared.command.Reply.TheVariants as replies
use Rattle.graph_heap.specs.declared.command.Change.{Change}
use Rattle.graph_heap.specs.declared.command.Change.TheVariants as changes
use Rattle.graph_heap.specs.declared.command.Command.TheVariants as commands
use Rattle.graph_heap.specs.Shape.{fits}
use Rattle.graph_heap.specs.Graph.{Graph}
use Rattle.graph_heap.specs.Effect.{◌>>=◌, slot_at, fitting, next_identity, with_room, admitted_effect}
use Rattle.size_classes.specs.Parts.{cells_of, parts_in}
use Rattle.size_classes.specs.Need.{needed, blocks_needed}
use Rattle.heap_model.specs.Pages.{Page, has_room}
use Rattle.heap_model.specs.State.{HeapState}
use Rattle.heap_model.specs.Agreement.{Agrees}
use Rattle.machine.specs.Plan.{PlansBy}
use Rattle.machine.specs.declared.plan.Write.TheVariants as writes

-- the parts of a shape that isn't too large
pub fits_by : (o : Option ℕ) (b : Bool) (p : ℕ) → o ≡ Some p → (IsNone o ↔ (b ≡ false)) → b ≡ true
fits_by o true p e w = refl
fits_by o false p e w = absurd (contrary o (w.1 refl))
  where
    contrary : (o' : Option ℕ) → IsNone o → ⊥
    contrary o' n = (let s : is_some (Some p) ≡ false = subst (λ x. is_some x ≡ false) e n in cc)

pub cells_by : (o : Option ℕ) (cells p : ℕ) → o ≡ Some p → IfSome o (λ x. x ≡ cells) → p ≡ cells
cells_by o cells p e w = subst (λ x. IfSome x (λ y. y ≡ cells)) e w

-- the tested room is that for the shape
pub room_by : (pages : List (Option Page)) (shape : Shape) (parts : ℕ) → parts ≡ cells_of shape → has_room pages (blocks_needed parts (parts_in parts)) ≡ has_room pages (needed shape)
room_by pages shape parts e = ap (λ n. has_room pages (blocks_needed n (parts_in n))) e

abbrev chain : Shape → Result ℕ Refusal → Result Shape Refusal → Result ℕ Refusal → Result (Unit {0}) Refusal → Result (Reply × Change) Refusal
chain shape a b i r = a >>= λ d. b >>= λ ok. i >>= λ id. r >>= λ has. Ok (replies.Made id, changes.New d id shape)

chained : (shape : Shape) (a a' : Result ℕ Refusal) (b b' : Result Shape Refusal) (i i' : Result ℕ Refusal) (r r' : Result (Unit {0}) Refusal) → a ≡ a' → b ≡ b' → i ≡ i' → r ≡ r' → chain shape a b i r ≡ chain shape a' b' i' r'
chained shape a a' b b' i i' r r' ea eb ei er = ap (λ x. chain shape x b i r) ea ∙ ap (λ x. chain shape a' x i r) eb ∙ ap (λ x. chain shape a' b' x r) ei ∙ ap (chain shape a' b' i') er

module _ (h : HeapState) (g : Graph) (a : Agrees h g) (m dst root : ℕ) (shape : Shape) (slot : slot_at h.limits m dst ≡ Ok root) (fit : fits shape ≡ true) where
  slot_is : slot_at g.limits m dst ≡ Ok root
  slot_is = ap (λ l. slot_at l m dst) (sym a.limits) ∙ slot

  fitting_is : fitting shape ≡ Ok shape
  fitting_is = ap (λ b. cond b (Ok shape) (Err refusals.TooLarge)) fit

  abbrev next_by : Bool → Result ℕ Refusal
  next_by b = cond b (Ok (length g.objects + 1)) (Err refusals.IdentitiesSpent)

  pub spent_effect : (room : Bool) → h.limits.identities < h.next → admitted_effect room g m (commands.New dst shape) ≡ Err refusals.IdentitiesSpent
  spent_effect room over =
      let l = a.limits in let n = a.next in
      let e : nat_lt (length g.objects) g.limits.identities ≡ false = le-ltb (length g.objects) g.limits.identities (subst (λ x. x.identities ≤ length g.objects) l (omega (arith, over, n))) in
      chained shape _ _ _ _ _ _ _ (with_room room) slot_is fitting_is (ap next_by e) refl

  module _ (under : h.next ≤ h.limits.identities) where
    next_is : next_identity g ≡ Ok h.next
    next_is =
        let l = a.limits in let n = a.next in
        let e : nat_lt (length g.objects) g.limits.identities ≡ true = lt-ltb (length g.objects) g.limits.identities (subst (λ x. length g.objects < x.identities) l (omega (arith, under, n))) in
        ap next_by e ∙ ap Ok (sym n)

    pub full_effect : (room : Bool) → room ≡ false → admitted_effect room g m (commands.New dst shape) ≡ Err refusals.NoSpace
    full_effect room e = chained shape _ _ _ _ _ _ _ _ slot_is fitting_is next_is (ap with_room e)

    new_effect : (room : Bool) → room ≡ true → admitted_effect room g m (commands.New dst shape) ≡ Ok (replies.Made h.next, changes.New root h.next shape)
    new_effect room e = chained shape _ _ _ _ _ _ _ _ slot_is fitting_is next_is (ap with_room e)

    pub new_plans : has_room h.store.pages (needed shape) ≡ true → root < length h.roots → h.next < 2 ^ 63 → PlansBy h g (admitted_effect (has_room h.store.pages (needed shape)) g m (commands.New dst shape)) (Ok (record { reply = replies.Made h.next; write = writes.New root shape }))
    new_plans room below small = (changes.New root h.next shape, new_effect (has_room h.store.pages (needed shape)) room, (refl, below, small, fit, room))
