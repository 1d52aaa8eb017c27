-- Objects under numbers that follow each other, seen as the graph heap's list.
use Rattle.std.proofs.Common.{◌≡◌, ◌≢◌, ℕ, zero, suc, ◌+◌, ◌-◌, ◌<◌, ◌≤◌, ◌⊎◌, inl, inr, Bool, true, false, cond, List, [], ◌∷◌, ◌++◌, length, map, get_or, drop, Option, Some, None, ap, ◌∙◌, sym, refl, arith, ◌==◌}
use Rattle.std.specs.Prelude.{slice_get, slice_set, option_map, Err}
use Rattle.std.specs.List.{range_with_len}
use Rattle.std.proofs.Common.{Ordering, Less, Equal, Greater}
use Rattle.std.specs.Ordering.{is_eq, nat_cmp, match_ordering, MatchOrdering}
use Rattle.std.specs.Cmp.{nat_cmp_is}
use Rattle.std.specs.Map.{keys_of, values_of, lookup, set_value}
use Rattle.std.specs.BTreeMap.{is_at, insert_entry}
use Rattle.std.proofs.lemmas.Bool.{ne_eqb}
use Rattle.std.proofs.lemmas.Cmp.{nat_cmp_total, tied_itself, ranked}
use Rattle.std.proofs.lemmas.List.{map-set, map-append}
use Rattle.std.proofs.lemmas.Map.Entries.{lookup_head, lookup_tail}
use Rattle.std.proofs.lemmas.Option.{slice_get-map, get_or_from_slice_get}
use Rattle.graph_heap.specs.declared.command.Refusal.TheVariants as refusals
use Rattle.graph_heap.specs.declared.stored.StoredObject.{StoredObject}
use Rattle.graph_heap.specs.Graph.{Object, no_object, object_of, put_object}
use Rattle.graph_heap.specs.Effect.{found, object_at}
use Rattle.graph_heap.specs.Stored.{object_in}
use Rattle.graph_heap.proofs.Edits.{put_object-past}

-- two numbers, and what their order says
same_or : (a b : ℕ) → (a ≡ b) ⊎ (a ≢ b)
same_or a b = grind arith

not_equal : (a b : ℕ) (r : Ordering) → MatchOrdering r (a < b) (a ≡ b) (b < a) → a ≢ b → is_eq r ≡ false
not_equal a b Less m d = refl
not_equal a b Equal m d = absurd (d m)
not_equal a b Greater m d = refl

other_number : (a b : ℕ) → a ≢ b → is_eq (nat_cmp a b) ≡ false
other_number a b d = not_equal a b (nat_cmp a b) (ranked a b (nat_cmp a b) refl) d

same_number : (a b : ℕ) → a ≡ b → is_eq (nat_cmp a b) ≡ true
same_number a b e = ap is_eq (ap (nat_cmp a) (sym e) ∙ tied_itself nat_cmp_total a)

pub greater : (a b : ℕ) → b < a → nat_cmp a b ≡ Greater
greater a b l = sym (nat_cmp_is a b Greater l)

module _ {X : Type 0} where
  -- the keys are the numbers from n on
  abbrev pub AreFrom : ℕ → List (ℕ × X) → Type 0
  AreFrom n es = keys_of es ≡ range_with_len n (length es)

  first_key : (n : ℕ) (e : ℕ × X) (es : List (ℕ × X)) → AreFrom n (e ∷ es) → e.0 ≡ n
  first_key n e es h = ap (λ ks. get_or ks 0 0) h

  later_keys : (n : ℕ) (e : ℕ × X) (es : List (ℕ × X)) → AreFrom n (e ∷ es) → AreFrom (n + 1) es
  later_keys n e es h = ap (λ (ks : List ℕ). drop 1 ks) h

  -- the value of a number
  lookup_below : (n q : ℕ) (es : List (ℕ × X)) → AreFrom n es → q < n → lookup (is_at (nat_cmp q)) es ≡ None
  lookup_below n q [] h l = refl
  lookup_below n q (e ∷ es) h l =
      let k = first_key n e es h in
      lookup_tail (is_at (nat_cmp q)) e es (other_number q e.0 (λ same. absurd (omega (arith, same, k, l)))) ∙ lookup_below (n + 1) q es (later_keys n e es h) (omega (arith, l))

  lookup_from : (n q : ℕ) (es : List (ℕ × X)) → AreFrom n es → n ≤ q → lookup (is_at (nat_cmp q)) es ≡ slice_get (values_of es) (q - n)
  lookup_from n q [] h l = refl
  lookup_from n q (e ∷ es) h l =
      let k = first_key n e es h in
      elim (same_or q n) [
        | inl same ↦ (let none : q - n ≡ 0 = omega (arith, same) in
            lookup_head (is_at (nat_cmp q)) e es (same_number q e.0 (same ∙ sym k)) ∙ ap (slice_get (values_of (e ∷ es))) (sym none))
        | inr d ↦ (let next : q - n ≡ suc (q - (n + 1)) = omega (arith, l, d) in
            lookup_tail (is_at (nat_cmp q)) e es (other_number q e.0 (λ same. absurd (d (same ∙ k)))) ∙ lookup_from (n + 1) q es (later_keys n e es h) (omega (arith, l, d))
            ∙ ap (slice_get (values_of (e ∷ es))) (sym next))
      ]

  -- Another value is stored at the number.
  set_from : (n q : ℕ) (es : List (ℕ × X)) (w : X) → AreFrom n es → n ≤ q → values_of (set_value (is_at (nat_cmp q)) es w) ≡ slice_set (values_of es) (q - n) w
  set_from n q [] w h l = refl
  set_from n q (e ∷ es) w h l =
      let k = first_key n e es h in
      let by = λ (b : Bool). values_of (cond b ((e.0, w) ∷ es) (e ∷ set_value (is_at (nat_cmp q)) es w)) in
      elim (same_or q n) [
        | inl same ↦ (let none : q - n ≡ 0 = omega (arith, same) in
            ap by (same_number q e.0 (same ∙ sym k)) ∙ ap (λ i. slice_set (values_of (e ∷ es)) i w) (sym none))
        | inr d ↦ (let next : q - n ≡ suc (q - (n + 1)) = omega (arith, l, d) in
            ap by (other_number q e.0 (λ same. absurd (d (same ∙ k)))) ∙ ap (λ vs. e.1 ∷ vs) (set_from (n + 1) q es w (later_keys n e es h) (omega (arith, l, d)))
            ∙ ap (λ i. slice_set (values_of (e ∷ es)) i w) (sym next))
      ]

  -- the next number goes to the end
  pub insert_next : (n q : ℕ) (es : List (ℕ × X)) (v : X) → AreFrom n es → q ≡ n + length es → insert_entry nat_cmp es q v ≡ es ++ (q, v) ∷ []
  insert_next n q [] v h e = refl
  insert_next n q (x ∷ es) v h e =
      let k = first_key n x es h in
      ap (λ r. match_ordering r ((q, v) ∷ x ∷ es) ((x.0, v) ∷ es) (x ∷ insert_entry nat_cmp es q v)) (greater q x.0 (omega (arith, k, e)))
      ∙ ap (λ rest. x ∷ rest) (insert_next (n + 1) q es v (later_keys n x es h) (omega (arith, e)))

  pub numbered_next : (n q : ℕ) (es : List (ℕ × X)) (v : X) → AreFrom n es → q ≡ n + length es → AreFrom n (es ++ (q, v) ∷ [])
  numbered_next n q [] v h e = ap (λ k. k ∷ []) (let same : q ≡ n = omega (arith, e) in same)
  numbered_next n q (x ∷ es) v h e =
      ap (λ k. k ∷ keys_of (es ++ (q, v) ∷ [])) (first_key n x es h) ∙ ap (λ ks. n ∷ ks) (numbered_next (n + 1) q es v (later_keys n x es h) (omega (arith, e)))

-- the objects of entries
abbrev pub seen : List (ℕ × StoredObject) → List Object
seen es = map object_in (values_of es)

module _ (es : List (ℕ × StoredObject)) (h : AreFrom 1 es) where
  abbrev looked : ℕ → Option StoredObject
  looked id = lookup (is_at (nat_cmp id)) es

  -- the object of an identity
  pub object_entry : (id : ℕ) → object_at (seen es) id ≡ found (option_map object_in (looked id))
  object_entry id = elim (same_or id 0) [
    | inl z ↦ (let none = lookup_below 1 id es h (omega (arith, z)) in
        ap (λ b. cond b (Err refusals.NullSlot) (found (slice_get (seen es) (id - 1)))) (ap (λ i. i == 0) z) ∙ ap (λ o. found (option_map object_in o)) (sym none))
    | inr d ↦ ap (λ b. cond b (Err refusals.NullSlot) (found (slice_get (seen es) (id - 1)))) (ne_eqb id 0 d)
        ∙ ap found (slice_get-map object_in (values_of es) (id - 1)) ∙ ap (λ o. found (option_map object_in o)) (sym (lookup_from 1 id es h (omega (arith, d))))
  ]

  -- null has none
  is_given : (id : ℕ) (o : StoredObject) → looked id ≡ Some o → 1 ≤ id
  is_given id o e = elim (same_or id 0) [
    | inl z ↦ absurd (let none = lookup_below 1 id es h (omega (arith, z)) in cc)
    | inr d ↦ omega (arith, d)
  ]

  -- an object that is there is put in its place
  put_is : (id : ℕ) (x : Object) → 1 ≤ id → put_object (seen es) id x ≡ slice_set (seen es) (id - 1) x
  put_is id x some = ap (λ b. cond b (seen es) (slice_set (seen es) (id - 1) x)) (ne_eqb id 0 (λ z. absurd (omega (arith, z, some))))

  object_is : (id : ℕ) (o : StoredObject) → looked id ≡ Some o → object_of (seen es) id ≡ object_in o
  unfolding object_of
  object_is id o e =
      let some = is_given id o e in
      ap (λ b. cond b no_object (get_or (seen es) (id - 1) no_object)) (ne_eqb id 0 (λ z. absurd (omega (arith, z, some))))
      ∙ get_or_from_slice_get (seen es) (id - 1) (object_in o) no_object
      (slice_get-map object_in (values_of es) (id - 1) ∙ ap (option_map object_in) (sym (lookup_from 1 id es h some) ∙ e))

  -- another object in its place
  pub put_entry : (f : Object → Object) (id : ℕ) (o n : StoredObject) → looked id ≡ Some o → object_in n ≡ f (object_in o)
      → seen (set_value (is_at (nat_cmp id)) es n) ≡ put_object (seen es) id (f (object_of (seen es) id))
  put_entry f id o n e is =
      let some = is_given id o e in
      ap (map object_in) (set_from 1 id es n h some) ∙ map-set object_in (values_of es) (id - 1) n ∙ ap (slice_set (seen es) (id - 1)) (is ∙ ap f (sym (object_is id o e)))
      ∙ sym (put_is id (f (object_of (seen es) id)) some)

  -- if there is none nothing is written
  pub put_nothing : (id : ℕ) (x : Object) → looked id ≡ None → seen es ≡ put_object (seen es) id x
  put_nothing id x e = elim (same_or id 0) [
    | inl z ↦ ap (λ b. cond b (seen es) (slice_set (seen es) (id - 1) x)) (sym (ap (λ i. i == 0) z))
    | inr d ↦ (let past = none_there (id - 1) (sym (lookup_from 1 id es h (omega (arith, d))) ∙ e) in
        sym (put_object-past (seen es) id x (omega (arith, past, d))))
  ]
    where
      none_there : (i : ℕ) → slice_get (values_of es) i ≡ None → length (seen es) ≤ i
      none_there i none = past (seen es) i (slice_get-map object_in (values_of es) i ∙ ap (option_map object_in) none)
        where
          past : (xs : List Object) (i : ℕ) → slice_get xs i ≡ None → length xs ≤ i
          past [] i e = omega arith
          past (x ∷ xs) zero e = absurd (cc)
          past (x ∷ xs) (suc i) e = let l = past xs i e in omega (arith, l)

  -- One object more is added.
  pub add_entry : (q : ℕ) (v : StoredObject) → q ≡ 1 + length es → seen (insert_entry nat_cmp es q v) ≡ seen es ++ object_in v ∷ []
  add_entry q v e = ap seen (insert_next 1 q es v h e) ∙ ap (map object_in) (map-append (λ (x : ℕ × StoredObject). x.1) es ((q, v) ∷ [])) ∙ map-append object_in (values_of es) (v ∷ [])
