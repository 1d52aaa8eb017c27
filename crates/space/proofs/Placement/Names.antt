-- The parts of a class that objects have, as names; and that blocks with distinct ones of these are no more than objects need.
use Rattle.std.proofs.Common.{◌≡◌, ℕ, zero, suc, ◌+◌, ◌-◌, ◌/◌, ◌<◌, ◌≤◌, ◌⊎◌, inl, inr, Bool, true, false, ◌&&◌, ◌||◌, ◌==◌, if◌then◌else◌, List, [], ◌∷◌, ◌++◌, Some, length, get_or, drop, map, ap, ◌∙◌, sym, subst, arith, refl, length-append}
use Rattle.std.specs.Prelude.{nat_eq, sum_by}
use Rattle.std.specs.List.{IsDistinct, AllByRecursion, list_any}
use Rattle.std.specs.Set.{is_member}
use Rattle.std.specs.Cmp.{IsEquivalence}
use Rattle.std.proofs.lemmas.Cmp.{nat_eq_equiv}
use Rattle.std.proofs.lemmas.Map.Made.{length-le_from_is_member}
use Rattle.std.proofs.lemmas.List.{length-map, get_or-drop, length-drop}
use Rattle.std.proofs.lemmas.List.Folds.{list_any-append}
use Rattle.std.proofs.lemmas.List.Sums.{sum_by-cons}
use Rattle.std.proofs.lemmas.Bool.{eqb-true, eq-eqb}
use Rattle.std.proofs.lemmas.Bool.Decides.{eqb_tells}
use Rattle.graph_heap.specs.Graph.{Object, object_of, no_object}
use Rattle.size_classes.specs.Sizes.{class_for}
use Rattle.size_classes.specs.Parts.{cells_of, parts_in, part_words}
use Rattle.size_classes.specs.Need.{blocks_needed, needed, is_class}
use Rattle.heap_model.specs.Pages.{page_at}
use Rattle.heap_model.specs.Store.{Store, is_allocated, record_of}
use Rattle.heap_model.specs.Core.{Name}
use Rattle.heap_model.specs.Collector.{contains}
use Rattle.space.specs.Demand.{blocks_of}
use Rattle.space.specs.Placement.{class_in, IsTidy, KeepsShapes}
use Rattle.space.proofs.Counts.{both_true}

-- names are told apart
pub name_eq : Name → Name → Bool
name_eq a b = nat_eq a.identity b.identity && nat_eq a.part b.part

pub name_laws : IsEquivalence name_eq
unfolding name_eq
name_laws = record {
  refl = λ x. ap (λ b. b && nat_eq x.part x.part) (nat_eq_equiv.refl x.identity) ∙ nat_eq_equiv.refl x.part;
  symm = λ x y. ap (λ b. b && nat_eq x.part y.part) (nat_eq_equiv.symm x.identity y.identity) ∙ ap (λ b. nat_eq y.identity x.identity && b) (nat_eq_equiv.symm x.part y.part);
  congr = λ x y z e. (let q = both_true (nat_eq x.identity y.identity) (nat_eq x.part y.part) e in
      ap (λ b. b && nat_eq x.part z.part) (nat_eq_equiv.congr x.identity y.identity z.identity q.0) ∙ ap (λ b. nat_eq y.identity z.identity && b) (nat_eq_equiv.congr x.part y.part z.part q.1));
}

pub name_same : (a b : Name) → name_eq a b ≡ true → (a.identity ≡ b.identity) × (a.part ≡ b.part)
unfolding name_eq
name_same a b e = let q = both_true (nat_eq a.identity b.identity) (nat_eq a.part b.part) e in (eqb-true a.identity b.identity q.0, eqb-true a.part b.part q.1)

pub name_refl : (i j p q : ℕ) → i ≡ j → p ≡ q → name_eq (record { identity = i; part = p }) (record { identity = j; part = q }) ≡ true
unfolding name_eq
name_refl i j p q e f = ap (λ b. b && nat_eq p q) (eq-eqb i j e) ∙ eq-eqb p q f

abbrev pub name : ℕ → ℕ → Name
name i p = record { identity = i; part = p }

or_left : (a b : Bool) → a ≡ true → (a || b) ≡ true
or_left a b e = ap (λ z. z || b) e

or_right : (a b : Bool) → b ≡ true → (a || b) ≡ true
or_right true b e = refl
or_right false b e = e

member_left : (xs ys : List Name) (q : Name) → is_member name_eq xs q ≡ true → is_member name_eq (xs ++ ys) q ≡ true
member_left xs ys q e = list_any-append (name_eq q) xs ys ∙ or_left (list_any (name_eq q) xs) (list_any (name_eq q) ys) e

member_right : (xs ys : List Name) (q : Name) → is_member name_eq ys q ≡ true → is_member name_eq (xs ++ ys) q ≡ true
member_right xs ys q e = list_any-append (name_eq q) xs ys ∙ or_right (list_any (name_eq q) xs) (list_any (name_eq q) ys) e

-- the parts of an object that are of a class
part_names : ℕ → ℕ → ℕ → ℕ → List Name
part_names i cells zero class = []
part_names i cells (suc parts) class = if is_class class (class_for (part_words cells parts)) then name i parts ∷ part_names i cells parts class else part_names i cells parts class

parts_length : (i cells parts class : ℕ) → length (part_names i cells parts class) ≡ blocks_needed cells parts class
unfolding part_names
parts_length i cells zero class = refl
parts_length i cells (suc parts) class = by_class (is_class class (class_for (part_words cells parts))) (parts_length i cells parts class)
  where
    by_class : (b : Bool) → length (part_names i cells parts class) ≡ blocks_needed cells parts class → length (if b then name i parts ∷ part_names i cells parts class else part_names i cells parts class) ≡ blocks_needed cells parts class + (if b then 1 else 0)
    by_class true r = omega (arith, r)
    by_class false r = omega (arith, r)

parts_member : (i cells parts class p : ℕ) → p < parts → class_for (part_words cells p) ≡ Some class → is_member name_eq (part_names i cells parts class) (name i p) ≡ true
unfolding part_names
parts_member i cells zero class p l e = absurd (omega arith)
parts_member i cells (suc parts) class p l e = by_class (is_class class (class_for (part_words cells parts))) refl (parts_member i cells parts class p)
  where
    by_class : (b : Bool) → is_class class (class_for (part_words cells parts)) ≡ b → (p < parts → class_for (part_words cells p) ≡ Some class → is_member name_eq (part_names i cells parts class) (name i p) ≡ true)
        → is_member name_eq (if b then name i parts ∷ part_names i cells parts class else part_names i cells parts class) (name i p) ≡ true
    by_class b f rec = elim (eqb_tells p parts) [
      | inl s ↦ (let g : is_class class (class_for (part_words cells parts)) ≡ true = ap (is_class class) (ap (λ z. class_for (part_words cells z)) (sym s.1) ∙ e) ∙ eq-eqb class class refl in
          subst (λ z. is_member name_eq (if z then name i parts ∷ part_names i cells parts class else part_names i cells parts class) (name i p) ≡ true) (sym g ∙ f)
          (or_left (name_eq (name i p) (name i parts)) _ (name_refl i i p parts refl s.1)))
      | inr d ↦ (let r = rec (let n = d.1 in omega arith) e in later b r)
    ]
      where
        later : (b : Bool) → is_member name_eq (part_names i cells parts class) (name i p) ≡ true → is_member name_eq (if b then name i parts ∷ part_names i cells parts class else part_names i cells parts class) (name i p) ≡ true
        later true r = or_right (name_eq (name i p) (name i parts)) _ r
        later false r = r

abbrev object_names : ℕ → Object → ℕ → List Name
object_names i o class = part_names i (cells_of o.shape) (parts_in (cells_of o.shape)) class

-- the names of identities
ids_names : List Object → ℕ → List ℕ → List Name
ids_names objects class [] = []
ids_names objects class (i ∷ is) = object_names i (object_of objects i) class ++ ids_names objects class is

ids_length : (objects : List Object) (class : ℕ) (ids : List ℕ) → length (ids_names objects class ids) ≡ sum_by (λ id. needed (object_of objects id).shape class) ids
unfolding ids_names
ids_length objects class [] = refl
ids_length objects class (i ∷ is) =
    let r = ids_length objects class is in
    let a = length-append (object_names i (object_of objects i) class) (ids_names objects class is) in
    let b = parts_length i (cells_of (object_of objects i).shape) (parts_in (cells_of (object_of objects i).shape)) class in
    let c = sum_by-cons (λ id. needed (object_of objects id).shape class) i is in
    omega (arith, r, a, b, c)

ids_member : (objects : List Object) (class : ℕ) (ids : List ℕ) (i p : ℕ) → contains ids i ≡ true → p < parts_in (cells_of (object_of objects i).shape) → class_for (part_words (cells_of (object_of objects i).shape) p) ≡ Some class
    → is_member name_eq (ids_names objects class ids) (name i p) ≡ true
unfolding ids_names contains
ids_member objects class [] i p there l e = absurd (cc)
ids_member objects class (j ∷ js) i p there l e = by_first (j == i) refl there (λ t. ids_member objects class js i p t l e)
  where
    by_first : (b : Bool) → (j == i) ≡ b → (b || contains js i) ≡ true → (contains js i ≡ true → is_member name_eq (ids_names objects class js) (name i p) ≡ true)
        → is_member name_eq (object_names j (object_of objects j) class ++ ids_names objects class js) (name i p) ≡ true
    by_first true f t rec =
        let same : j ≡ i = eqb-true j i f in
        member_left (object_names j (object_of objects j) class) (ids_names objects class js) (name i p)
        (subst (λ z. is_member name_eq (object_names z (object_of objects z) class) (name i p) ≡ true) (sym same) (parts_member i (cells_of (object_of objects i).shape) (parts_in (cells_of (object_of objects i).shape)) class p l e))
    by_first false f t rec = member_right (object_names j (object_of objects j) class) (ids_names objects class js) (name i p) (rec t)

-- the names of the objects from one on
object_names_from : ℕ → List Object → ℕ → List Name
object_names_from base [] class = []
object_names_from base (o ∷ os) class = object_names (base + 1) o class ++ object_names_from (base + 1) os class

names_length_from : (base : ℕ) (objects : List Object) (class : ℕ) → length (object_names_from base objects class) ≡ blocks_of objects class
unfolding object_names_from
names_length_from base [] class = refl
names_length_from base (o ∷ os) class =
    let r = names_length_from (base + 1) os class in
    let a = length-append (object_names (base + 1) o class) (object_names_from (base + 1) os class) in
    let b = parts_length (base + 1) (cells_of o.shape) (parts_in (cells_of o.shape)) class in
    let c = sum_by-cons (λ z. needed z.shape class) o os in
    omega (arith, r, a, b, c)

names_member_from : (base : ℕ) (objects : List Object) (class j i p : ℕ) → j < length objects → i ≡ base + j + 1 → p < parts_in (cells_of (get_or objects j no_object).shape) → class_for (part_words (cells_of (get_or objects j no_object).shape) p) ≡ Some class
    → is_member name_eq (object_names_from base objects class) (name i p) ≡ true
unfolding object_names_from
names_member_from base [] class j i p within same l e = absurd (omega arith)
names_member_from base (o ∷ os) class zero i p within same l e =
    let f : base + 1 ≡ i = omega arith in
    member_left (object_names (base + 1) o class) (object_names_from (base + 1) os class) (name i p)
    (subst (λ z. is_member name_eq (object_names z o class) (name i p) ≡ true) (sym f) (parts_member i (cells_of o.shape) (parts_in (cells_of o.shape)) class p l e))
names_member_from base (o ∷ os) class (suc j) i p within same l e = member_right (object_names (base + 1) o class) (object_names_from (base + 1) os class) (name i p) (names_member_from (base + 1) os class j i p (omega arith) (omega arith) l e)

not_zero : (i : ℕ) → 0 < i → (i == 0) ≡ false
not_zero i l = grind arith

there_is : (objects : List Object) (base i : ℕ) → base < i → object_of objects i ≡ get_or objects (base + (i - base - 1)) no_object
unfolding object_of
there_is objects base i l = let e : (i == 0) ≡ false = not_zero i (omega arith) in ap (λ b. if b then no_object else get_or objects (i - 1) no_object) e ∙ ap (λ z. get_or objects z no_object) (let z : i - 1 ≡ base + (i - base - 1) = omega arith in z)

-- the name of the part of which a block is
abbrev pub block_name : Store → ℕ → Name
block_name s b = name (record_of s b).identity (record_of s b).part

module _ (s : Store) (class : ℕ) (objects : List Object) (tidy : IsTidy s objects) (first : List Object) (ids : List ℕ) (kept : KeepsShapes first objects) where
  -- an allocated block of the class, of an object that is among some identities if it is one of the first objects
  pub record IsAmong (b : ℕ) : Type 0 where
    pub allocated : is_allocated s b ≡ true
    pub of : class_in (page_at s.pages (b / 2048)) ≡ Some class
    pub only : (record_of s b).identity ≤ length first → contains ids (record_of s b).identity ≡ true

  allowed : List Name
  allowed = ids_names first class ids ++ object_names_from (length first) (drop (length first) objects) class

  block_member : (b : ℕ) → IsAmong b → is_member name_eq allowed (block_name s b) ≡ true
  unfolding allowed
  block_member b t = elim low [
    | inl l ↦ member_left (ids_names first class ids) _ (name i p) (ids_member first class ids i p (t.only l)
        (subst (λ z. p < parts_in (cells_of z)) (tidy.shape b t.allocated ∙ kept.shape i l) (tidy.part b t.allocated))
        (ap (λ z. class_for (part_words (cells_of z) p)) (sym (tidy.shape b t.allocated ∙ kept.shape i l)) ∙ is_of))
    | inr l ↦ member_right (ids_names first class ids) _ (name i p) (names_member_from (length first) (drop (length first) objects) class (i - length first - 1) i p
        (let d = length-drop (length first) objects in let g = tidy.given b t.allocated in omega (arith, d, g, l)) (omega arith)
        (subst (λ z. p < parts_in (cells_of z)) (shape_there l) (tidy.part b t.allocated))
        (ap (λ z. class_for (part_words (cells_of z) p)) (sym (shape_there l)) ∙ is_of))
  ]
    where
      i : ℕ
      i = (record_of s b).identity

      p : ℕ
      p = (record_of s b).part

      low : (i ≤ length first) ⊎ (length first < i)
      low = grind arith

      is_of : class_for (part_words (cells_of (record_of s b).shape) p) ≡ Some class
      is_of = tidy.class b t.allocated ∙ t.of

      shape_there : length first < i → (record_of s b).shape ≡ (get_or (drop (length first) objects) (i - length first - 1) no_object).shape
      shape_there l = tidy.shape b t.allocated ∙ ap (λ (o : Object). o.shape) (there_is objects (length first) i l ∙ sym (get_or-drop (length first) objects (i - length first - 1) no_object))

  all_members : (bs : List ℕ) → AllByRecursion IsAmong bs → (q : Name) → is_member name_eq (map (block_name s) bs) q ≡ true → is_member name_eq allowed q ≡ true
  all_members [] r q e = absurd (cc)
  all_members (x ∷ xs) r q e = by_first (name_eq q (block_name s x)) refl e (all_members xs r.1 q)
    where
      by_first : (b : Bool) → name_eq q (block_name s x) ≡ b → (b || is_member name_eq (map (block_name s) xs) q) ≡ true → (is_member name_eq (map (block_name s) xs) q ≡ true → is_member name_eq allowed q ≡ true) → is_member name_eq allowed q ≡ true
      by_first true f t rec = same_member q (block_name s x) f (block_member x r.0)
        where
          same_member : (q z : Name) → name_eq q z ≡ true → is_member name_eq allowed z ≡ true → is_member name_eq allowed q ≡ true
          same_member q z e m = let n = name_same q z e in subst (λ y. is_member name_eq allowed y ≡ true) (λ t. record { identity = sym n.0 t; part = sym n.1 t }) m
      by_first false f t rec = rec t

  allowed_length : length allowed ≡ sum_by (λ id. needed (object_of first id).shape class) ids + blocks_of (drop (length first) objects) class
  unfolding allowed
  allowed_length =
      let a = length-append (ids_names first class ids) (object_names_from (length first) (drop (length first) objects) class) in
      let b = ids_length first class ids in
      let c = names_length_from (length first) (drop (length first) objects) class in
      omega (arith, a, b, c)

  -- blocks of distinct names are no more
  pub few_blocks : (bs : List ℕ) → AllByRecursion IsAmong bs → IsDistinct name_eq (map (block_name s) bs) → length bs ≤ sum_by (λ id. needed (object_of first id).shape class) ids + blocks_of (drop (length first) objects) class
  few_blocks bs among distinct =
      let l = length-le_from_is_member name_laws (map (block_name s) bs) allowed distinct (all_members bs among) in
      let b : length (map (block_name s) bs) ≡ length bs = length-map bs (block_name s) in
      let c = allowed_length in
      omega (arith, l, b, c)
