-- The effect of a command on the graph heap, from the object and the cell that were found.
use Rattle.std.proofs.Common.{◌≡◌, ◌≢◌, ℕ, Bool, true, false, cond, eqb, get_or, Result, Ok, Err, ap, ◌∙◌, sym}
use Rattle.std.proofs.lemmas.Bool.{ne_eqb, eq-eqb}
use Rattle.graph_heap.specs.declared.command.Refusal.{Refusal}
use Rattle.graph_heap.specs.declared.command.Reply.{Reply}
use Rattle.graph_heap.specs.declared.command.Reply.TheVariants as replies
use Rattle.graph_heap.specs.declared.command.Change.{Change}
use Rattle.graph_heap.specs.declared.command.Change.TheVariants as changes
use Rattle.graph_heap.specs.declared.command.Command.TheVariants as commands
use Rattle.graph_heap.specs.Graph.{Graph, object_of}
use Rattle.graph_heap.specs.Effect.{◌>>=◌, slot_at, static_at, object_at, ref_at, word_at, admitted_effect}
use Rattle.heap_model.specs.State.{HeapState}
use Rattle.heap_model.specs.Agreement.{Agrees}
use Rattle.nodes.specs.declared.nodes.Referent.{Referent}
use Rattle.machine.specs.declared.plan.Found.{Found}
use Rattle.arraylets.specs.declared.cells.Cell.{Cell}
use Rattle.machine.specs.Reading.{Names, IsFound, FindsRef, FindsWord}

abbrev Done : Type 0
Done = Result (Reply × Change) Refusal

-- a comparison of two referents
same_by : (x y x' y' : ℕ) (b : Bool) → x ≡ x' → y ≡ y' → eqb x' y' ≡ b → eqb x y ≡ b
same_by x y x' y' b ex ey e = ap (λ k. eqb k y) ex ∙ ap (eqb x') ey ∙ e

module _ (h : HeapState) (g : Graph) (a : Agrees h g) (m : ℕ) where
  at_slot : (s d : ℕ) → Ok d ≡ slot_at h.limits m s → slot_at g.limits m s ≡ Ok d
  at_slot s d e = ap (λ l. slot_at l m s) (sym a.limits) ∙ sym e

  at_static : (k d : ℕ) → Ok d ≡ static_at h.limits k → static_at g.limits k ≡ Ok d
  at_static k d e = ap (λ l. static_at l k) (sym a.limits) ∙ sym e

  one_slot : (s d : ℕ) (f : ℕ → Done) → Ok d ≡ slot_at h.limits m s → (slot_at g.limits m s >>= f) ≡ f d
  one_slot s d f e = ap (λ z. z >>= f) (at_slot s d e)

  one_static : (k d : ℕ) (f : ℕ → Done) → Ok d ≡ static_at h.limits k → (static_at g.limits k >>= f) ≡ f d
  one_static k d f e = ap (λ z. z >>= f) (at_static k d e)

  abbrev root : ℕ → ℕ
  root j = get_or g.roots j 0

  -- the content of a reference cell, or of a word cell, of the object in a root
  abbrev ref_in : ℕ → ℕ → ℕ
  ref_in r i = get_or (object_of g.objects (root r)).refs i 0

  abbrev word_in : ℕ → ℕ → ℕ
  word_in r i = get_or (object_of g.objects (root r)).words i 0

  pub load_effect : (dst obj i d r : ℕ) (at : Cell) (value : Referent) → Ok d ≡ slot_at h.limits m dst → Ok r ≡ slot_at h.limits m obj → FindsRef h g (root r) i (Ok at) → Names h g (ref_in r i) value
      → admitted_effect true g m (commands.Load dst obj i) ≡ Ok (replies.Ref value.identity, changes.Root d (ref_in r i))
  load_effect dst obj i d r at value ed er w n =
      one_slot dst d (λ c. slot_at g.limits m obj >>= λ o. ref_at g.objects (root o) i >>= λ v. Ok (replies.Ref v, changes.Root c v)) ed
      ∙ one_slot obj r (λ o. ref_at g.objects (root o) i >>= λ v. Ok (replies.Ref v, changes.Root d v)) er
      ∙ ap (λ z. z >>= λ v. Ok (replies.Ref v, changes.Root d v)) w.0
      ∙ ap (λ k. Ok (replies.Ref k, changes.Root d (ref_in r i))) n.identity

  store_as : (obj i src r s : ℕ) (x : Result ℕ Refusal) → Ok r ≡ slot_at h.limits m obj → Ok s ≡ slot_at h.limits m src → ref_at g.objects (root r) i ≡ x
      → admitted_effect true g m (commands.Store obj i src) ≡ (x >>= λ v. Ok (replies.Done, changes.Ref (root r) i (root s)))
  store_as obj i src r s x er es w =
      one_slot obj r (λ o. slot_at g.limits m src >>= λ c. ref_at g.objects (root o) i >>= λ v. Ok (replies.Done, changes.Ref (root o) i (root c))) er
      ∙ one_slot src s (λ c. ref_at g.objects (root r) i >>= λ v. Ok (replies.Done, changes.Ref (root r) i (root c))) es
      ∙ ap (λ z. z >>= λ v. Ok (replies.Done, changes.Ref (root r) i (root s))) w

  pub store_effect : (obj i src r s : ℕ) (at : Cell) → Ok r ≡ slot_at h.limits m obj → Ok s ≡ slot_at h.limits m src → FindsRef h g (root r) i (Ok at)
      → admitted_effect true g m (commands.Store obj i src) ≡ Ok (replies.Done, changes.Ref (root r) i (root s))
  store_effect obj i src r s at er es w = store_as obj i src r s (Ok (ref_in r i)) er es w.0

  -- the cell to be written doesn't exist
  pub store_refused : (obj i src r s : ℕ) (e : Refusal) → Ok r ≡ slot_at h.limits m obj → Ok s ≡ slot_at h.limits m src → FindsRef h g (root r) i (Err e) → admitted_effect true g m (commands.Store obj i src) ≡ Err e
  store_refused obj i src r s e er es w = store_as obj i src r s (Err e) er es w

  -- the cell to be compared doesn't exist
  pub compare_refused : (obj i expect new r e s : ℕ) (refusal : Refusal) → Ok r ≡ slot_at h.limits m obj → Ok e ≡ slot_at h.limits m expect → Ok s ≡ slot_at h.limits m new → FindsRef h g (root r) i (Err refusal)
      → admitted_effect true g m (commands.CompareStore obj i expect new) ≡ Err refusal
  compare_refused obj i expect new r e s refusal er ee es w =
      one_slot obj r (λ o. slot_at g.limits m expect >>= λ x. slot_at g.limits m new >>= λ c. ref_at g.objects (root o) i >>= λ v. cond (eqb v (root x)) (Ok (replies.Stored, changes.Ref (root o) i (root c))) (Ok (replies.Kept v, changes.Nothing))) er
      ∙ one_slot expect e (λ x. slot_at g.limits m new >>= λ c. ref_at g.objects (root r) i >>= λ v. cond (eqb v (root x)) (Ok (replies.Stored, changes.Ref (root r) i (root c))) (Ok (replies.Kept v, changes.Nothing))) ee
      ∙ one_slot new s (λ c. ref_at g.objects (root r) i >>= λ v. cond (eqb v (root e)) (Ok (replies.Stored, changes.Ref (root r) i (root c))) (Ok (replies.Kept v, changes.Nothing))) es
      ∙ ap (λ z. z >>= λ v. cond (eqb v (root e)) (Ok (replies.Stored, changes.Ref (root r) i (root s))) (Ok (replies.Kept v, changes.Nothing))) w

  module _ (obj i expect new r e s : ℕ) (at : Cell) (value expected : Referent) (er : Ok r ≡ slot_at h.limits m obj) (ee : Ok e ≡ slot_at h.limits m expect) (es : Ok s ≡ slot_at h.limits m new) (w : FindsRef h g (root r) i (Ok at))
      (n : Names h g (ref_in r i) value) (ne : Names h g (root e) expected) where
    abbrev compared : ℕ → Bool → Done
    compared v same = cond same (Ok (replies.Stored, changes.Ref (root r) i (root s))) (Ok (replies.Kept v, changes.Nothing))

    compare_effect : (same : Bool) → eqb value.identity expected.identity ≡ same → admitted_effect true g m (commands.CompareStore obj i expect new) ≡ compared value.identity same
    compare_effect same q =
        one_slot obj r (λ o. slot_at g.limits m expect >>= λ x. slot_at g.limits m new >>= λ c. ref_at g.objects (root o) i >>= λ v. cond (eqb v (root x)) (Ok (replies.Stored, changes.Ref (root o) i (root c))) (Ok (replies.Kept v, changes.Nothing))) er
        ∙ one_slot expect e (λ x. slot_at g.limits m new >>= λ c. ref_at g.objects (root r) i >>= λ v. cond (eqb v (root x)) (Ok (replies.Stored, changes.Ref (root r) i (root c))) (Ok (replies.Kept v, changes.Nothing))) ee
        ∙ one_slot new s (λ c. ref_at g.objects (root r) i >>= λ v. cond (eqb v (root e)) (Ok (replies.Stored, changes.Ref (root r) i (root c))) (Ok (replies.Kept v, changes.Nothing))) es
        ∙ ap (λ z. z >>= λ v. compared v (eqb v (root e))) w.0 ∙ ap (λ v. compared v (eqb v (root e))) n.identity
        ∙ ap (λ k. compared value.identity (eqb value.identity k)) ne.identity ∙ ap (compared value.identity) q

    pub kept_effect : value.identity ≢ expected.identity → admitted_effect true g m (commands.CompareStore obj i expect new) ≡ Ok (replies.Kept value.identity, changes.Nothing)
    kept_effect d = compare_effect false (ne_eqb value.identity expected.identity d)

    pub stored_effect : value.identity ≡ expected.identity → admitted_effect true g m (commands.CompareStore obj i expect new) ≡ Ok (replies.Stored, changes.Ref (root r) i (root s))
    stored_effect d = compare_effect true (eq-eqb value.identity expected.identity d)

  pub get_effect : (obj i r word : ℕ) (at : Cell) → Ok r ≡ slot_at h.limits m obj → FindsWord h g (root r) i (Ok at) → word ≡ word_in r i → admitted_effect true g m (commands.Get obj i) ≡ Ok (replies.Word word, changes.Nothing)
  get_effect obj i r word at er w e =
      one_slot obj r (λ o. word_at g.objects (root o) i >>= λ v. Ok (replies.Word v, changes.Nothing)) er
      ∙ ap (λ z. z >>= λ v. Ok (replies.Word v, changes.Nothing)) w.0 ∙ ap (λ v. Ok (replies.Word v, changes.Nothing)) (sym e)

  pub put_effect : (obj i word r : ℕ) (at : Cell) → Ok r ≡ slot_at h.limits m obj → FindsWord h g (root r) i (Ok at) → admitted_effect true g m (commands.Put obj i word) ≡ Ok (replies.Done, changes.Word (root r) i word)
  put_effect obj i word r at er w =
      one_slot obj r (λ o. word_at g.objects (root o) i >>= λ v. Ok (replies.Done, changes.Word (root o) i word)) er ∙ ap (λ z. z >>= λ v. Ok (replies.Done, changes.Word (root r) i word)) w.0

  module _ (obj i old new r word : ℕ) (at : Cell) (er : Ok r ≡ slot_at h.limits m obj) (w : FindsWord h g (root r) i (Ok at)) (e : word ≡ word_in r i) where
    abbrev compared_word : ℕ → Bool → Done
    compared_word v same = cond same (Ok (replies.Stored, changes.Word (root r) i new)) (Ok (replies.KeptWord v, changes.Nothing))

    compare_put_effect : (same : Bool) → eqb word old ≡ same → admitted_effect true g m (commands.ComparePut obj i old new) ≡ compared_word word same
    compare_put_effect same q =
        one_slot obj r (λ o. word_at g.objects (root o) i >>= λ v. cond (eqb v old) (Ok (replies.Stored, changes.Word (root o) i new)) (Ok (replies.KeptWord v, changes.Nothing))) er
        ∙ ap (λ z. z >>= λ v. compared_word v (eqb v old)) w.0 ∙ ap (λ v. compared_word v (eqb v old)) (sym e) ∙ ap (compared_word word) q

    pub kept_word_effect : word ≢ old → admitted_effect true g m (commands.ComparePut obj i old new) ≡ Ok (replies.KeptWord word, changes.Nothing)
    kept_word_effect d = compare_put_effect false (ne_eqb word old d)

    pub stored_word_effect : word ≡ old → admitted_effect true g m (commands.ComparePut obj i old new) ≡ Ok (replies.Stored, changes.Word (root r) i new)
    stored_word_effect d = compare_put_effect true (eq-eqb word old d)

  pub copy_effect : (dst src d s : ℕ) → Ok d ≡ slot_at h.limits m dst → Ok s ≡ slot_at h.limits m src → admitted_effect true g m (commands.Copy dst src) ≡ Ok (replies.Done, changes.Root d (root s))
  copy_effect dst src d s ed es = one_slot dst d (λ c. slot_at g.limits m src >>= λ x. Ok (replies.Done, changes.Root c (root x))) ed ∙ one_slot src s (λ x. Ok (replies.Done, changes.Root d (root x))) es

  pub clear_effect : (dst d : ℕ) → Ok d ≡ slot_at h.limits m dst → admitted_effect true g m (commands.Clear dst) ≡ Ok (replies.Done, changes.Root d 0)
  clear_effect dst d ed = one_slot dst d (λ c. Ok (replies.Done, changes.Root c 0)) ed

  pub load_static_effect : (dst k d s : ℕ) (referent : Referent) → Ok d ≡ slot_at h.limits m dst → Ok s ≡ static_at h.limits k → Names h g (root s) referent
      → admitted_effect true g m (commands.LoadStatic dst k) ≡ Ok (replies.Ref referent.identity, changes.Root d (root s))
  load_static_effect dst k d s referent ed es n =
      one_slot dst d (λ c. static_at g.limits k >>= λ x. Ok (replies.Ref (root x), changes.Root c (root x))) ed
      ∙ one_static k s (λ x. Ok (replies.Ref (root x), changes.Root d (root x))) es
      ∙ ap (λ v. Ok (replies.Ref v, changes.Root d (root s))) n.identity

  pub store_static_effect : (k src s d : ℕ) → Ok s ≡ slot_at h.limits m src → Ok d ≡ static_at h.limits k → admitted_effect true g m (commands.StoreStatic k src) ≡ Ok (replies.Done, changes.Root d (root s))
  store_static_effect k src s d es ed = one_slot src s (λ x. static_at g.limits k >>= λ c. Ok (replies.Done, changes.Root c (root x))) es ∙ one_static k d (λ c. Ok (replies.Done, changes.Root c (root s))) ed

  module _ (k expect new e s d : ℕ) (referent expected : Referent) (ee : Ok e ≡ slot_at h.limits m expect) (es : Ok s ≡ slot_at h.limits m new) (ed : Ok d ≡ static_at h.limits k) (nh : Names h g (root d) referent) (ne : Names h g (root e) expected) where
    abbrev compared_static : ℕ → Bool → Done
    compared_static v same = cond same (Ok (replies.Stored, changes.Root d (root s))) (Ok (replies.Kept v, changes.Nothing))

    compare_static_effect : (same : Bool) → eqb referent.identity expected.identity ≡ same → admitted_effect true g m (commands.CompareStatic k expect new) ≡ compared_static referent.identity same
    compare_static_effect same q =
        one_slot expect e (λ x. slot_at g.limits m new >>= λ c. static_at g.limits k >>= λ t. cond (eqb (root t) (root x)) (Ok (replies.Stored, changes.Root t (root c))) (Ok (replies.Kept (root t), changes.Nothing))) ee
        ∙ one_slot new s (λ c. static_at g.limits k >>= λ t. cond (eqb (root t) (root e)) (Ok (replies.Stored, changes.Root t (root c))) (Ok (replies.Kept (root t), changes.Nothing))) es
        ∙ one_static k d (λ t. cond (eqb (root t) (root e)) (Ok (replies.Stored, changes.Root t (root s))) (Ok (replies.Kept (root t), changes.Nothing))) ed
        ∙ ap (λ v. compared_static v (eqb v (root e))) nh.identity ∙ ap (λ v. compared_static referent.identity (eqb referent.identity v)) ne.identity ∙ ap (compared_static referent.identity) q

    pub kept_static_effect : referent.identity ≢ expected.identity → admitted_effect true g m (commands.CompareStatic k expect new) ≡ Ok (replies.Kept referent.identity, changes.Nothing)
    kept_static_effect df = compare_static_effect false (ne_eqb referent.identity expected.identity df)

    pub stored_static_effect : referent.identity ≡ expected.identity → admitted_effect true g m (commands.CompareStatic k expect new) ≡ Ok (replies.Stored, changes.Root d (root s))
    stored_static_effect df = compare_static_effect true (eq-eqb referent.identity expected.identity df)

  pub same_effect : (a b x y : ℕ) (first second : Referent) (same : Bool) → Ok x ≡ slot_at h.limits m a → Ok y ≡ slot_at h.limits m b → Names h g (root x) first → Names h g (root y) second → eqb first.identity second.identity ≡ same
      → admitted_effect true g m (commands.Same a b) ≡ Ok (replies.Is same, changes.Nothing)
  same_effect a' b x y first second same ex ey nx ny e =
      one_slot a' x (λ p. slot_at g.limits m b >>= λ q. Ok (replies.Is (eqb (root p) (root q)), changes.Nothing)) ex
      ∙ one_slot b y (λ q. Ok (replies.Is (eqb (root x) (root q)), changes.Nothing)) ey
      ∙ ap (λ v. Ok (replies.Is v, changes.Nothing)) (same_by (root x) (root y) first.identity second.identity same nx.identity ny.identity e)

  pub describe_effect : (a x : ℕ) (f : Found) → Ok x ≡ slot_at h.limits m a → IsFound h g (root x) f → admitted_effect true g m (commands.Describe a) ≡ Ok (replies.Described f.id f.shape, changes.Nothing)
  describe_effect a' x f ex w =
      one_slot a' x (λ p. object_at g.objects (root p) >>= λ o. Ok (replies.Described (root p) o.shape, changes.Nothing)) ex
      ∙ ap (λ z. z >>= λ o. Ok (replies.Described (root x) o.shape, changes.Nothing)) w.object
      ∙ ap (λ k. Ok (replies.Described k (object_of g.objects (root x)).shape, changes.Nothing)) w.identity
      ∙ ap (λ s. Ok (replies.Described f.id s, changes.Nothing)) (sym w.shape)
