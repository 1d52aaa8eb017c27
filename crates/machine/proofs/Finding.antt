-- The content of a root or a cell, found through its reference.
use Rattle.std.proofs.Common.{◌==◌, Bool, ◌≡◌, ◌≢◌, ℕ, ◌+◌, ◌-◌, ◌<◌, ◌≤◌, true, false, cond, eqb, List, length, get_or, inr, Ok, Err, ap, ◌∙◌, sym, subst, arith, refl}
use Rattle.std.specs.Prelude.{slice_get}
use Rattle.std.proofs.lemmas.Bool.{ne_eqb}
use Rattle.std.proofs.lemmas.Option.{slice_get-get_or}
use Rattle.graph_heap.specs.declared.command.Shape.{Shape}
use Rattle.graph_heap.specs.declared.command.Refusal.TheVariants as refusals
use Rattle.graph_heap.specs.Shape.{fits}
use Rattle.graph_heap.specs.Graph.{Object, Graph, no_object, object_of}
use Rattle.graph_heap.specs.Effect.{object_at, found}
use Rattle.graph_heap.specs.Reach.{Reaches}
use Rattle.heap_model.specs.Store.{Store, is_allocated, record_of}
use Rattle.heap_model.specs.Agree.{IsMain, Reads}
use Rattle.heap_model.specs.Core.{Name}
use Rattle.heap_model.specs.Cut.{name_of}
use Rattle.heap_model.specs.State.{HeapState, seen}
use Rattle.heap_model.specs.Agreement.{Agrees}
use Rattle.heap_model.specs.Written.{IsKnown}
use Rattle.heap_model.specs.Reading.{IsMainCopy}
use Rattle.heap_model.proofs.Readings.Shown.{leads, copy_main, main_copy, root_reads, shape_shown, ref_shown, word_shown}
use Rattle.heap_model.proofs.Alike.Sameness.{known_root, known_ref, known_reaches}
use Rattle.heap_model.proofs.Cut.Reaching.{count_some}
use Rattle.nodes.specs.HeapFields.{IsHeap}
use Rattle.machine.proofs.Doing.{present_agrees}
use Rattle.nodes.proofs.Representing.{follows}
use Rattle.machine.specs.Reading.{Names, IsFound, IsRefPlace, IsWordPlace}
use Rattle.arraylets.specs.declared.cells.Cell.{Cell}
use Rattle.nodes.specs.declared.nodes.Referent.{Referent}
use Rattle.nodes.specs.Referent.{referent_of, CanFollow}

pub object_at-given : (xs : List Object) (id : ℕ) → 0 < id → id ≤ length xs → object_at xs id ≡ Ok (object_of xs id)
unfolding object_of
object_at-given xs id some h =
    let z : eqb id 0 ≡ false = ne_eqb id 0 (omega arith) in
    let g = slice_get-get_or xs (id - 1) no_object (omega arith) in
    ap (λ b. cond b (Err refusals.NullSlot) (found (slice_get xs (id - 1)))) z ∙ ap found g ∙ ap (λ b. Ok (cond b no_object (get_or xs (id - 1) no_object))) (sym z)

positive : (n : ℕ) → (n ≡ 0 → ⊥) → 0 < n
positive n e = grind arith

-- the object that a reference names, from its reading
module _ (h : HeapState) (x n : ℕ) (r : Reads (seen h) x (name_of n)) where
  abbrev Resolved : ℕ → Type 0
  Resolved y = (n ≡ (referent_of h.store y).identity) × IsMain (seen h) (referent_of h.store y).reference (name_of n)

  null_resolved : Reads (seen h) 0 (name_of n) → Resolved 0
  null_resolved q = (sym (ap (λ (z : Name). z.identity) q.main.name), q.main)

  pub resolved : Resolved x
  resolved = by_null (x == 0) refl
    where
      by_null : (b : Bool) → (x == 0) ≡ b → Resolved x
      by_null true e =
          let z : x ≡ 0 = grind arith in
          subst Resolved (sym z) (null_resolved (subst (λ y. Reads (seen h) y (name_of n)) z r))
      by_null false e =
          let l = leads h x (name_of n) r (λ z. some z e) in
          rw e (sym l.main.identity, copy_main h (record_of h.store (x - 1)).forward (name_of n) l.main)
        where
          some : x ≡ 0 → (x == 0) ≡ false → ⊥
          some z f = grind arith

pub names_by : (h : HeapState) (g : Graph) (x id : ℕ) (r : Referent) → Reads (seen h) x (name_of id) → IsKnown g id → r ≡ referent_of h.store x → Names h g id r
names_by h g x id r reads known e =
    let p = resolved h x id reads in
    record {
      identity = p.0 ∙ ap (λ (z : Referent). z.identity) (sym e);
      known = known;
      main = subst (λ (z : Referent). IsMain (seen h) z.reference (name_of id)) (sym e) p.1;
    }

-- a root
module _ (h : HeapState) (g : Graph) (a : Agrees h g) (root : ℕ) (below : root < length h.roots) where
  pub reads_root : (x : ℕ) → x ≡ get_or h.roots root 0 → Reads (seen h) x (name_of (get_or g.roots root 0))
  reads_root x e = subst (λ z. Reads (seen h) z (name_of (get_or g.roots root 0))) (sym e) (root_reads h g root a below)

  pub root_known : IsKnown g (get_or g.roots root 0)
  root_known = known_root g root (subst (λ n. root < n) a.roots below)

-- the referent of a root, of the value t as which the heap h is seen
pub root_names : (h t : HeapState) → h ≡ t → (root x : ℕ) → root < length t.roots → x ≡ get_or h.roots root 0 → (r : Referent) → r ≡ referent_of h.store x → (g : Graph) → Agrees t g → Names t g (get_or g.roots root 0) r
root_names h t is root x below get r named g a =
    let a' = subst (λ (y : HeapState). Agrees y g) (sym is) a in
    let below' = subst (λ (y : HeapState). root < length y.roots) (sym is) below in
    subst (λ (y : HeapState). Names y g (get_or g.roots root 0) r) is (names_by h g x _ r (reads_root h g a' root below' x get) (root_known h g a' root below') named)

-- a reference that isn't null leads to a main copy that isn't
pub followed_some : (s : Store) (x : ℕ) (r : Referent) → x ≢ 0 → r ≡ referent_of s x → r.reference ≢ 0
followed_some s x r some named null =
    let main : r.reference ≡ (record_of s (x - 1)).forward + 1 =
    ap (λ (z : Referent). z.reference) named
    ∙ ap (λ b. (cond {A = Referent} b (record { identity = 0; reference = 0 }) (record { identity = (record_of s (record_of s (x - 1)).forward).identity; reference = (record_of s (x - 1)).forward + 1 })).reference) (ne_eqb x 0 some) in
    absurd (omega (arith, main, null))

-- null is no object
pub null_object : (h : HeapState) (g : Graph) (id : ℕ) (r : Referent) → Names h g id r → r.reference ≡ 0 → object_at g.objects id ≡ Err refusals.NullSlot
null_object h g id r n z =
    let m : IsMain (seen h) 0 (name_of id) = subst (λ y. IsMain (seen h) y (name_of id)) z n.main in
    let e : id ≡ 0 = sym (ap (λ (z : Name). z.identity) m.name) in
    ap (object_at g.objects) e

-- a reference that isn't null leads to an object, by its main copy
module _ (h : HeapState) (w : IsHeap h) (r : Referent) (some : r.reference ≢ 0) where
  abbrev block : ℕ
  block = r.reference - 1

  block_main : (g : Graph) (id : ℕ) → Names h g id r → IsMainCopy h.store block (name_of id)
  block_main g id n =
      let e : r.reference ≡ block + 1 = grind arith in
      main_copy h block (name_of id) (subst (λ y. IsMain (seen h) y (name_of id)) e n.main)

  module _ (present : ℕ) (named : Names h w.present present r) where
    pub object_allocated : is_allocated h.store block ≡ true
    object_allocated = (block_main w.present present named).allocated

  pub finds_by : (g : Graph) → Agrees h g → (id : ℕ) → Names h g id r → (shape : Shape) → shape ≡ (record_of h.store block).shape → IsFound h g id (record { block = block; id = r.identity; shape = shape })
  finds_by g a id n shape es =
      let m = block_main g id n in
      let some_id : 0 < id = positive id (λ z. some (a.null r.reference (subst (λ k. IsMain (seen h) r.reference (name_of k)) z n.main))) in
      let reaches : Reaches g id = known_reaches g id n.known some_id in
      record {
        identity = n.identity;
        reaches = reaches;
        object = object_at-given g.objects id some_id (a.given id reaches).below;
        shape = es ∙ shape_shown h g id 0 block a reaches (count_some _) m;
        main = m;
      }

  pub object_fits : (present : ℕ) → Names h w.present present r → (shape : Shape) → shape ≡ (record_of h.store block).shape → fits shape ≡ true
  object_fits present named shape es =
      let f = finds_by w.present (present_agrees h w) present named shape es in
      subst (λ z. fits z ≡ true) (sym f.shape) (w.fits present)

-- a reference cell of an object that can be reached
module _ (h : HeapState) (g : Graph) (a : Agrees h g) (id i : ℕ) (at : Cell) (p : IsRefPlace h g id i at) where
  pub ref_allocated : is_allocated h.store at.block ≡ true
  ref_allocated = (main_copy h at.block _ p.1.main).allocated

  module _ (x : ℕ) (e : x ≡ get_or (record_of h.store at.block).cells at.index 0) where
    reads_ref : Reads (seen h) x (name_of (get_or (object_of g.objects id).refs i 0))
    reads_ref =
        subst (λ z. Reads (seen h) z (name_of (get_or (object_of g.objects id).refs i 0))) (sym (e ∙ ap (λ z. get_or (record_of h.store at.block).cells z 0) p.1.index))
        (ref_shown h g id i at.block a p.0 p.1.below (main_copy h at.block _ p.1.main))

    pub ref_follows : CanFollow h.store x
    ref_follows = follows h x _ reads_ref

    pub ref_names : (r : Referent) → r ≡ referent_of h.store x → Names h g (get_or (object_of g.objects id).refs i 0) r
    ref_names r er = names_by h g x _ r reads_ref (known_ref g id i (inr p.0) p.1.below) er

-- a word cell
module _ (h : HeapState) (g : Graph) (a : Agrees h g) (id i : ℕ) (at : Cell) (p : IsWordPlace h g id i at) where
  pub word_allocated : is_allocated h.store at.block ≡ true
  word_allocated = (main_copy h at.block _ p.1.main).allocated

  pub word_is : (x : ℕ) → x ≡ get_or (record_of h.store at.block).cells at.index 0 → x ≡ get_or (object_of g.objects id).words i 0
  word_is x e = e ∙ ap (λ z. get_or (record_of h.store at.block).cells z 0) p.1.index ∙ word_shown h g id i at.block a p.0 p.1.below (main_copy h at.block _ p.1.main)
