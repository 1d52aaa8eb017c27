-- No object goes, and none changes its shape.
use Rattle.std.proofs.Common.{◌≡◌, ◌≢◌, ℕ, ◌-◌, ◌<◌, ◌⊎◌, inl, inr, Bool, true, false, cond, List, [], ◌∷◌, ◌++◌, length, set, get_or, Some, ap, ◌∙◌, sym, refl, arith, subst, length-append, length-set, ◌==◌}
use Rattle.std.specs.Prelude.{slice_get}
use Rattle.std.proofs.lemmas.Option.{slice_get_within, get_or_from_slice_get, slice_get-get_or}
use Rattle.std.proofs.lemmas.List.{get_or-set_same, get_or-set_other, get_or_append_left}
use Rattle.graph_heap.specs.declared.command.Shape.{Shape}
use Rattle.graph_heap.specs.declared.command.Change.{Change}
use Rattle.graph_heap.specs.declared.command.Change.TheVariants as changes
use Rattle.graph_heap.specs.Graph.{Object, Graph, no_object, object_of, put_object, changed, with_ref, with_word, new_object}

-- an object of that shape stands there
abbrev Stands : List Object → ℕ → Shape → Type 0
Stands objects k shape = (o : Object) × (slice_get objects k ≡ Some o) × (o.shape ≡ shape)

same_or : (a b : ℕ) → (a ≡ b) ⊎ (a ≢ b)
same_or a b = grind arith

at_set : (xs : List Object) (j k : ℕ) (p o : Object) → k < length xs → (get_or (set xs j p) k o).shape ≡ o.shape → Stands (set xs j p) k o.shape
at_set xs j k p o h e = (get_or (set xs j p) k o, slice_get-get_or (set xs j p) k o (omega (arith, h, length-set xs j p)), e)

-- an object of the same shape is put in the place of identity j + 1
set_stands : (xs : List Object) (j k : ℕ) (o p : Object) → p.shape ≡ (get_or xs j no_object).shape → slice_get xs k ≡ Some o → Stands (set xs j p) k o.shape
set_stands xs j k o p same h =
    let within : k < length xs = slice_get_within xs k o h in
    at_set xs j k p o within (elim (same_or k j) [
      | inl s ↦ ap (λ (x : Object). x.shape) (subst (λ n. get_or (set xs j p) n o ≡ p) (sym s) (get_or-set_same xs j p o (subst (λ n. n < length xs) s within))) ∙ same
          ∙ ap (λ (x : Object). x.shape) (subst (λ n. get_or xs n no_object ≡ o) s (get_or_from_slice_get xs k o no_object h))
      | inr d ↦ ap (λ (x : Object). x.shape) (get_or-set_other xs j k p o d ∙ get_or_from_slice_get xs k o o h)
    ])

put_stands : (xs : List Object) (id k : ℕ) (o p : Object) → p.shape ≡ (object_of xs id).shape → slice_get xs k ≡ Some o → Stands (put_object xs id p) k o.shape
unfolding object_of
put_stands xs id k o p same h = by_test (id == 0) same
  where
    by_test : (b : Bool) → p.shape ≡ (cond b no_object (get_or xs (id - 1) no_object)).shape → Stands (cond b xs (set xs (id - 1) p)) k o.shape
    by_test true e = (o, h, refl)
    by_test false e = set_stands xs (id - 1) k o p e h

pub changed_stands : (g : Graph) (c : Change) (k : ℕ) (o : Object) → slice_get g.objects k ≡ Some o → Stands (changed g c).objects k o.shape
changed_stands g changes.Nothing k o h = (o, h, refl)
changed_stands g (changes.Root cell id) k o h = (o, h, refl)
changed_stands g (changes.Ref id i v) k o h = put_stands g.objects id k o (with_ref (object_of g.objects id) i v) refl h
changed_stands g (changes.Word id i v) k o h = put_stands g.objects id k o (with_word (object_of g.objects id) i v) refl h
changed_stands g (changes.New cell id shape) k o h =
    let within : k < length g.objects = slice_get_within g.objects k o h in
    let xs = g.objects ++ new_object shape ∷ [] in
    (o, slice_get-get_or xs k o (omega (arith, within, length-append g.objects (new_object shape ∷ []))) ∙ ap Some (get_or_append_left g.objects (new_object shape ∷ []) o k within ∙ get_or_from_slice_get g.objects k o o h), refl)
changed_stands g (changes.Join m) k o h = (o, h, refl)
changed_stands g (changes.Leave m) k o h = (o, h, refl)
